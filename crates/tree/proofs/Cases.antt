-- Case splits that do not restate the branches, so that proofs survive a change of them; and what a test says.
-- Read the files of this folder in the order Cases, MapLaws, Zipper, Slots; Split, SetEntries, SetShape, SetSlots; Balance,
-- RemoveEntries, RemoveShape, RemoveSlots, Unchanged; WalkLaws; StateLaws, Depth; BatchLaws, RunLaws, Replay; LowestFree; Table,
-- Nights, Histories. Theorems collects the main ones beside the sentences that they carry: read it first, or only it. Assumes nothing.
use mathlib.Core.Path.{◌≡◌, refl}
use mathlib.Core.Bool.{Bool, true, false, cond}
use lib.Dec.{compare_is_eq}
use Prim.Native.Nat.{Ordering}
use Rattle.word.specs.Key.{Key, cmp, pick3, is_lt, Lt}
use Rattle.tree.specs.Map.{Sep}
use Rattle.tree.specs.Tree.{below, same}
use Rattle.word.proofs.KeyOrder.{gt_lt}

module _ {X : Type 0} (P : X → Type 0) where
  pub by_cond : (b : Bool) {x y : X} → (b ≡ true → P x) → (b ≡ false → P y) → P (cond b x y)
  by_cond true f g = f refl
  by_cond false f g = g refl

  pub by_pick : (o : Ordering) {x y z : X} → (o ≡ Ordering.lt → P x) → (o ≡ Ordering.eq → P y) → (o ≡ Ordering.gt → P z) → P (pick3 o x y z)
  by_pick Ordering.lt f g h = f refl
  by_pick Ordering.eq f g h = g refl
  by_pick Ordering.gt f g h = h refl

-- where the test stands in several places
module _ {T : Type 0} where
  pub by_bool : (b : Bool) → (b ≡ true → T) → (b ≡ false → T) → T
  by_bool true f g = f refl
  by_bool false f g = g refl

  pub by_order : (o : Ordering) → (o ≡ Ordering.lt → T) → (o ≡ Ordering.eq → T) → (o ≡ Ordering.gt → T) → T
  by_order Ordering.lt f g h = f refl
  by_order Ordering.eq f g h = g refl
  by_order Ordering.gt f g h = h refl

pub is_lt_lem : (o : Ordering) → is_lt o ≡ true → o ≡ Ordering.lt
is_lt_lem Ordering.lt h = refl
is_lt_lem Ordering.eq h = cc
is_lt_lem Ordering.gt h = cc

pub is_eq : (o : Ordering) → compare_is_eq o ≡ true → o ≡ Ordering.eq
is_eq Ordering.lt h = cc
is_eq Ordering.eq h = refl
is_eq Ordering.gt h = cc

-- a separator that is neither below k nor k's own is above it
pub is_above_lem : {A : Type 0} (k : Key) (s : Sep A) → below k s ≡ false → same k s ≡ false → Lt k s.key
is_above_lem k s b e = by_order (cmp k s.key) (λ p. p) (λ p. cc) (λ p. cc (gt_lt k s.key p))
