-- The depth is bounded by the number of slots: the least tree of a depth has so many nodes, each in a slot of its own. Assumes nothing.
use mathlib.Core.List.{List, [], ◌∷◌}
use lib.ListN.{length, length-append}
use lib.Dec.{leb}
use native.Mathlib.Omega.{arith}
use native.Mathlib.Decide.{le_ind}
use borrow.Author.Tests.{leb-true, leb-false}
use Prim.Native.Nat.{ℕ, zero, suc, ◌+◌, ◌*◌, ◌≤◌, ◌<◌}
use Rattle.tree.specs.Map.{Sep}
use Rattle.tree.specs.Tree.{Node, Kid, read_rest, read, none_of, slots}
use Rattle.tree.specs.State.{AllRight, Fits, Shaped, root_least, State, used_slots, Good}
use Rattle.tree.proofs.Cases.{by_bool}
use Rattle.tree.proofs.Slots.{within_store}

-- the nodes of the least tree of height d below the root, and of the least tree of depth d
abbrev pub least_nodes : ℕ → ℕ
least_nodes zero = 0
least_nodes (suc d) = 1 + 5 * least_nodes d

abbrev pub least_slots : ℕ → ℕ
least_slots d = 1 + (1 + root_least d) * least_nodes d

module _ {A C : Type 0} (f : C → List ℕ) (P : C → Type 0) (m : ℕ) (low : (c : C) → P c → m ≤ length (f c)) where
  rest_least : (k : ℕ) (r : List (Sep A × C)) → AllRight P r → k ≤ length r → k * m ≤ length (read_rest none_of f r)
  rest_least zero r h g = omega arith
  rest_least (suc k) [] h g = absurd (omega arith)
  rest_least (suc k) (x ∷ r) h g = simp length-append (omega (arith, low x.1 h.0, rest_least k r h.1 (omega arith)))

  node_least : (lo : ℕ) (n : Node A C) → Fits P lo n → 1 + (1 + lo) * m ≤ suc (length (read none_of f n))
  node_least lo n h = simp length-append (omega (arith, low n.first h.kid, rest_least lo n.rest h.kids h.least))

module _ (A : Type 0) where
  kid_least : (d : ℕ) (t : Kid A d) → Shaped A d t → least_nodes d ≤ length (slots A d t)
  kid_least zero t h = omega arith
  kid_least (suc d) n h = node_least (slots A d) (Shaped A d) (least_nodes d) (kid_least d) 4 n h

pub used_within : {A : Type 0} (n : ℕ) (t : State A) → Good n t → length (used_slots t) ≤ n
used_within n t h = within_store n (used_slots t) (λ x. omega (arith, h.once x))

pub slots_for_depth : {A : Type 0} (n : ℕ) (t : State A) → Good n t → least_slots t.depth ≤ n
slots_for_depth {A} n t h = omega (
  arith,
  node_least (slots A t.depth) (Shaped A t.depth) (least_nodes t.depth) (kid_least A t.depth) (root_least t.depth) t.root h.shape,
  used_within n t h,
)

least_grows : (d e : ℕ) → d ≤ e → least_nodes d ≤ least_nodes e
least_grows d e h = le_ind (λ (k : ℕ). least_nodes d ≤ least_nodes k) (omega arith) (λ m g ih. omega arith) e h

-- the bound, once: a store too small for a tree of depth lim + 1 holds none deeper than lim
pub depth_limit : {A : Type 0} (lim n : ℕ) (t : State A) → Good n t → n < least_slots (suc lim) → t.depth ≤ lim
depth_limit lim n t h g = go t.depth (slots_for_depth n t h)
  where
    go : (d : ℕ) → least_slots d ≤ n → d ≤ lim
    go zero k = omega arith
    go (suc d) k = by_bool (leb (suc d) lim) (λ e. leb-true (suc d) lim e) (λ e. absurd (omega (arith, least_grows (suc lim) (suc d) (leb-false (suc d) lim e))))

pub depth_7 : {A : Type 0} (n : ℕ) (t : State A) → Good n t → n ≤ 65535 → t.depth ≤ 7
depth_7 n t h g = depth_limit 7 n t h (omega arith)

pub depth_9 : {A : Type 0} (n : ℕ) (t : State A) → Good n t → n ≤ 1000000 → t.depth ≤ 9
depth_9 n t h g = depth_limit 9 n t h (omega arith)
