-- The order of keys: "keys compare byte by byte (a proper prefix is smaller)". Assumes nothing.
use Rattle.std.specs.Prelude.{◌≡◌, List, [], ◌∷◌, Bool, true, false}
use Prim.Native.Nat.{ℕ, compare, Ordering}
use Rattle.std.specs.declared.cmp.Ordering.{Ordering as Order}
use Rattle.std.specs.declared.cmp.Ordering.TheVariants.{Less, Equal, Greater}

abbrev pub Key : Type 0
Key = List ℕ

-- a three-way choice
abbrev pub pick3 {ℓ} : {A : Type ℓ} → Ordering → A → A → A → A
pick3 Ordering.lt a b c = a
pick3 Ordering.eq a b c = b
pick3 Ordering.gt a b c = c

abbrev pub cmp : Key → Key → Ordering
cmp [] [] = Ordering.eq
cmp [] (b ∷ ys) = Ordering.lt
cmp (a ∷ xs) [] = Ordering.gt
cmp (a ∷ xs) (b ∷ ys) = pick3 (compare a b) Ordering.lt (cmp xs ys) Ordering.gt

abbrev pub is_lt : Ordering → Bool
is_lt Ordering.lt = true
is_lt Ordering.eq = false
is_lt Ordering.gt = false

abbrev pub Lt : Key → Key → Type 0
Lt a b = cmp a b ≡ Ordering.lt

-- the code's answer for an order
abbrev pub order_of : Ordering → Order
order_of Ordering.lt = Less
order_of Ordering.eq = Equal
order_of Ordering.gt = Greater
