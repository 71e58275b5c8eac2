-- 01, "Lookup and cursor": the walks on any bytes. "A walk reads at most depth+1 nodes." Assumes nothing.
use Rattle.std.specs.Prelude.{List, [], ◌∷◌, Bool, cond, ℕ, zero, suc, length, ltb, eqb, Some, None, Ok, Err}
use Rattle.std.proofs.Math.Option.{Option, none, some}
use Rattle.refusal.specs.Number.{answer_number}
use Rattle.word.specs.Pick.{pick}
use Rattle.word.specs.Key.{Key}
use Rattle.tree.specs.Map.{Sep}
use Rattle.tree.specs.Tree.{Node, Zip, at, below, same}
use Rattle.tree.specs.Walk.{after, before}
use Rattle.node.specs.Chain.{Step, longest_key, value_of}
use Rattle.slots.specs.Limits.{most_depth}
use Rattle.slots.specs.Layout.{is_store, root_of, depth_of}
use Rattle.slots.specs.Code.{read_node_at}
use Rattle.iter.specs.declared.WalkError.TheVariants.{NotStore, LongKey, Bad}
use Rattle.iter.specs.Answer.{Answer, walk_error_number}

-- ---- lookup

-- 01's numbers; "'Absent' is its own answer."
abbrev pub lookup_number : Answer → ℕ
lookup_number = answer_number walk_error_number

-- the next separator's value if its key is k, else what is found below
abbrev pub found_here : Key → Answer → List Step → Answer
found_here k below [] = below
found_here k below (x ∷ r) = cond (same k x.0) (Ok (Some (value_of x.0.val))) below

abbrev pub look_on : Key → (ℕ → Answer) → Option (Node ℕ ℕ) → Answer
look_on k rec none = Err Bad
look_on k rec (some m) = let z : Zip ℕ ℕ = at (below k) m in found_here k (rec z.mid) z.rgt

-- "`position` compares separators from index 0." d levels are left; slot x stands on the highest of them. "A node read must
-- have a slot number 1 to count, a length of 8 to 2,480, readable bytes and children that fit its depth (none at 0; separators
-- plus one above); else 8."
unfoldable pub look_from : Key → ℕ → List ℕ → ℕ → Answer
look_from k zero s x = Ok None
look_from k (suc d) s x = look_on k (look_from k d s) (read_node_at d s x)

-- "Lookup and cursor: 1, 4, 8." "A depth above 7 is 8, root or not; otherwise no root means absent"
unfoldable pub lookup_of : List ℕ → Key → Answer
lookup_of s k =
    pick (is_store s)
    (pick (ltb longest_key (length k)) (Err LongKey)
    (pick (ltb most_depth (depth_of s)) (Err Bad)
    (pick (eqb (root_of s) 0) (Ok None)
    (look_from k (suc (depth_of s)) s (root_of s)))))
    (Err NotStore)

-- ---- a step's walk: bad bytes, or the last candidate

pub data Walked : Type 0 where
  bad : Walked
  walked : Option (Sep ℕ) → Walked

module _ (p : Sep ℕ → Bool) where
  abbrev pub on_forward : (ℕ → Option (Sep ℕ) → Walked) → Option (Sep ℕ) → Option (Node ℕ ℕ) → Walked
  on_forward rec c none = bad
  on_forward rec c (some m) = let z : Zip ℕ ℕ = at p m in rec z.mid (after c z.rgt)

  abbrev pub on_backward : (ℕ → Option (Sep ℕ) → Walked) → Option (Sep ℕ) → Option (Node ℕ ℕ) → Walked
  on_backward rec c none = bad
  on_backward rec c (some m) = let z : Zip ℕ ℕ = at p m in rec z.mid (before c z.lft)

  -- "On any bytes a step goes from the root to depth 0: in each node it takes the first index" of which p does not hold. "The
  -- separator there (forward) or just before (backward), where there is one, becomes the candidate; the walk goes on in the
  -- child at that index. The last candidate is the answer."
  unfoldable pub forward_from : ℕ → List ℕ → ℕ → Option (Sep ℕ) → Walked
  forward_from zero s x c = walked c
  forward_from (suc d) s x c = on_forward (forward_from d s) c (read_node_at d s x)

  unfoldable pub backward_from : ℕ → List ℕ → ℕ → Option (Sep ℕ) → Walked
  backward_from zero s x c = walked c
  backward_from (suc d) s x c = on_backward (backward_from d s) c (read_node_at d s x)
