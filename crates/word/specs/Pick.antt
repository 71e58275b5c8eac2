-- A choice by a test. It is shut, so that a law's arguments are found by its name. Assumes nothing.
use Rattle.std.specs.Prelude.{◌≡◌, Bool}
use Rattle.std.proofs.Math.Path.{refl}
use Rattle.std.proofs.Math.Bool.{true, false}

unfoldable pub pick {ℓ} : {A : Type ℓ} → Bool → A → A → A
pick true a b = a
pick false a b = b

module _ {ℓ} {A : Type ℓ} where
  pub pick_t : {b : Bool} (x y : A) → b ≡ true → pick b x y ≡ x
  unfolding pick
  pick_t x y e = rw e

  pub pick_f : {b : Bool} (x y : A) → b ≡ false → pick b x y ≡ y
  unfolding pick
  pick_f x y e = rw e

  -- what holds of both sides, each under its test, holds of the choice
  pub by_test : (P : A → Type 0) (b : Bool) {x y : A} → (b ≡ true → P x) → (b ≡ false → P y) → P (pick b x y)
  unfolding pick
  by_test P true f g = f refl
  by_test P false f g = g refl
