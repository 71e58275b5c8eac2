-- What `write` asks of a node holds of the node of a chain that can be written. Assumes nothing.
use mathlib.Core.Path.{◌≡◌, refl, ap, ◌∙◌}
use mathlib.Core.List.{List, [], ◌∷◌, map}
use mathlib.Core.Bool.{false}
use Prim.Native.Nat.{ℕ}
use lib.ListN.{length}
use native.Mathlib.Omega.{arith}
use borrow.Author.Tests.{le-ltb, ne_eqb}
use Rattle.node.specs.Chain.{Step, longest_key, FitAll, value_of, node_of}
use Rattle.node.proofs.ChainLaws.{take_mapped}
use Rattle.codec.specs.Layout.{any_of, any_first, is_long, is_none}

module _ (c : ℕ) where
  none_long : (r : List Step) → FitAll r → any_of is_long (map (λ (x : Step). length x.0.key) r) ≡ false
  none_long [] f = refl
  none_long (x ∷ r) f = rw (le-ltb longest_key (length x.0.key) f.0.short) (none_long r f.2)

  none_zero : (r : List Step) → FitAll r → any_of is_none (map (λ (x : Step). value_of x.0.val) r) ≡ false
  none_zero [] f = refl
  none_zero (x ∷ r) f = let t = f.0.there in rw (ne_eqb x.0.val 0 (omega arith)) (none_zero r f.2)

  pub node_none_long : (r : List Step) → FitAll r → any_first is_long (node_of c r).count (node_of c r).lens ≡ false
  unfolding node_of any_first
  node_none_long r f = ap (any_of is_long) (take_mapped 8 (λ (x : Step). length x.0.key) 0 r) ∙ none_long r f

  pub node_none_zero : (r : List Step) → FitAll r → any_first is_none (node_of c r).count (node_of c r).values ≡ false
  unfolding node_of any_first
  node_none_zero r f = ap (any_of is_none) (take_mapped 8 (λ (x : Step). value_of x.0.val) (value_of 0) r) ∙ none_zero r f
