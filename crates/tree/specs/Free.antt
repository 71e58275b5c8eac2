-- The free slots: a list of them in the order in which they will be taken, with two operations, taking the first and giving
-- one back. Where a slot that is given back goes is a policy's to say; a stack is the policy now. Assumes nothing.
use Rattle.std.specs.Prelude.{◌≡◌, refl, List, [], ◌∷◌, Bool, true, false, ◌&&◌, ℕ, zero, suc, ◌+◌, drop, leb, eqb}

-- ---- slots are told by counting: how often x stands in a list

abbrev pub bit : Bool → ℕ
bit true = 1
bit false = 0

abbrev pub occurs : ℕ → List ℕ → ℕ
occurs x [] = 0
occurs x (y ∷ l) = bit (eqb x y) + occurs x l

-- "slots 1 to count": 1 for a slot of a store of n, 0 for any other number
abbrev pub in_store : ℕ → ℕ → ℕ
in_store n x = bit (leb 1 x && leb x n)

-- ---- taking: "Taking a slot takes the first free one"

-- 0, which names no slot, if none is free
abbrev pub first_free : List ℕ → ℕ
first_free [] = 0
first_free (s ∷ fs) = s

abbrev pub later_free : List ℕ → List ℕ
later_free fs = drop 1 fs

-- ---- giving back: all that is asked is that the slot is there once more

pub record FreePolicy : Type 0 where
  pub give : ℕ → List ℕ → List ℕ
  pub given : (x s : ℕ) (fs : List ℕ) → occurs x (give s fs) ≡ bit (eqb x s) + occurs x fs

-- "a freed slot becomes the first"
abbrev pub stack : FreePolicy
stack = record { give = λ s fs. s ∷ fs; given = λ x s fs. refl }

-- several slots, the last of the list first
abbrev pub give_all : FreePolicy → List ℕ → List ℕ → List ℕ
give_all g [] fs = fs
give_all g (s ∷ freed) fs = g.give s (give_all g freed fs)

-- ---- formatting "chains 1, 2, ... in order"

-- m slots from s on
abbrev pub slots_from : ℕ → ℕ → List ℕ
slots_from s zero = []
slots_from s (suc m) = s ∷ slots_from (suc s) m
