-- On a whole store: a set and a dereference change the entries as the map's do and keep the audit's facts; which slots they
-- take and free, in which order; when they change nothing; and the first root. Assumes nothing.
use mathlib.Core.Path.{◌≡◌, refl, sym, ap, ◌∙◌}
use mathlib.Core.List.{List, [], ◌∷◌, ◌++◌, append-nil}
use mathlib.Core.Bool.{true}
use mathlib.Core.Option.{none, some}
use lib.ListN.{length, drop, length-drop}
use lib.Seq.{drop-drop}
use native.Mathlib.Omega.{arith}
use borrow.Author.Tests.{le-leb}
use Prim.Native.Nat.{ℕ, zero, suc, pred, ◌+◌, ◌≤◌, ◌<◌}
use Rattle.word.specs.Key.{Key}
use Rattle.tree.specs.Map.{Sep, put, remove, get, Rising}
use Rattle.tree.specs.Tree.{Kid, Tree, read_rest, only, none_of, entries, slots}
use Rattle.tree.specs.Free.{bit, occurs, in_store, first_free, FreePolicy, give_all, stack}
use Rattle.tree.specs.Set.{Parts, one, two, Placed, set}
use Rattle.tree.specs.Remove.{Removed, dereference}
use Rattle.tree.specs.State.{State, state_entries, used_slots, grow, set_state, shrink, dereference_state, slots_needed, Fits, Shaped, root_least, Good, Store, bare, rooted, store_entries, GoodStore, formatted, with_root}
use Rattle.tree.proofs.MapLaws.{rising_change}
use Rattle.tree.proofs.Zipper.{read_parts}
use Rattle.tree.proofs.Slots.{occurs_append, take_occurs, give_all_occurs, give_all_stack, formatted_once}
use Rattle.tree.proofs.SetEntries.{set_entries}
use Rattle.tree.proofs.SetShape.{PartsFit, set_root_fits}
use Rattle.tree.proofs.SetSlots.{Need, need, need_counts, need_run, is_two, Took, set_root_took, set_root_occurs}
use Rattle.tree.proofs.RemoveEntries.{dereference_entries}
use Rattle.tree.proofs.RemoveShape.{root_least_le, dereference_root}
use Rattle.tree.proofs.RemoveSlots.{dereference_occurs}
use Rattle.tree.proofs.Unchanged.{dereference_absent, set_again}
use Rattle.tree.proofs.WalkLaws.{look_get}

-- ---- a set

module _ {A : Type 0} where
  -- where the root splits there is a slot for the new root
  pub took_free : {C : Type 0} (q : Need) (fs : List ℕ) (o : Placed A C) → Took q fs o → q.cost + bit q.splits ≤ length fs → is_two o.parts ≡ true → 0 < length o.free
  took_free q fs o t k f =
      let over : q.splits ≡ true = sym t.splits ∙ f in
      let j = rw over at k in
      rw t.takes (simp length-drop (omega arith))

  grow_entries : (d : ℕ) (fs : List ℕ) (o : Parts A (Tree A d)) → state_entries (grow A d fs o) ≡ read_parts only (entries A (suc d)) o
  grow_entries d fs (one n) = refl
  grow_entries d fs (two a x b) = simp append-nil

  pub set_state_entries : (e : Sep A) (t : State A) → Rising (state_entries t) → state_entries (set_state e t) ≡ put e (state_entries t)
  set_state_entries e t h =
      let o : Placed A (Tree A t.depth) = set A e (suc t.depth) t.root t.free in
      grow_entries t.depth o.free o.parts ∙ set_entries e (suc t.depth) t.root t.free h

  grow_fits : (d : ℕ) (fs : List ℕ) (o : Parts A (Tree A d)) → PartsFit (Shaped A d) (root_least d) o
      → Fits (Shaped A (grow A d fs o).depth) (root_least (grow A d fs o).depth) (grow A d fs o).root
  grow_fits d fs (one n) h = h
  grow_fits d fs (two a x b) h = record { least = omega arith; most = omega arith; kid = h.0; kids = (h.1, tt) }

  grow_occurs : (d x m : ℕ) (fs : List ℕ) (o : Parts A (Tree A d)) → (is_two o ≡ true → 0 < length fs)
      → occurs x (read_parts none_of (slots A (suc d)) o) + occurs x fs ≡ m → occurs x (used_slots (grow A d fs o)) + occurs x (grow A d fs o).free ≡ m
  grow_occurs d x m fs (one n) g h = h
  grow_occurs d x m fs (two a s b) g h = simp occurs_append (omega (arith, simp occurs_append at h, take_occurs x fs (g refl)))

  pub set_good : (n : ℕ) (e : Sep A) (t : State A) → Good n t → slots_needed e.key t ≤ length t.free → Good n (set_state e t)
  set_good n e t h k =
      let d = t.depth in
      let o : Placed A (Tree A d) = set A e (suc d) t.root t.free in
      let q = set_root_took e d (root_least d) t.root t.free h.shape in
      let j = rw (need_counts A e.key t) at k in
      record {
        rising = rw (set_state_entries e t h.rising) (rising_change e.key (some e.val) (state_entries t) h.rising);
        shape = grow_fits d o.free o.parts (set_root_fits e d (root_least d) t.root t.free h.shape);
        once = λ x. grow_occurs d x (in_store n x) o.free o.parts
            (took_free (need A e.key (suc d) t.root) t.free o q j)
            (set_root_occurs x e d (root_least d) t.root t.free h.shape (omega (arith, j)) ∙ h.once x);
      }

  grow_free : (d : ℕ) (fs : List ℕ) (o : Parts A (Tree A d)) → (grow A d fs o).free ≡ drop (bit (is_two o)) fs
  grow_free d fs (one n) = refl
  grow_free d fs (two a x b) = refl

  -- it takes the first free slots, as many as it needs
  pub set_takes : (n : ℕ) (e : Sep A) (t : State A) → Good n t → (set_state e t).free ≡ drop (slots_needed e.key t) t.free
  set_takes n e t h =
      let d = t.depth in
      let o : Placed A (Tree A d) = set A e (suc d) t.root t.free in
      let q : Need = need A e.key (suc d) t.root in
      let w = set_root_took e d (root_least d) t.root t.free h.shape in
      grow_free d o.free o.parts ∙ rw (w.splits, w.takes, need_counts A e.key t) (drop-drop (bit q.splits) q.cost t.free)

  grow_slot : (d : ℕ) (fs : List ℕ) (o : Parts A (Tree A d)) → is_two o ≡ true → (grow A d fs o).root.slot ≡ first_free fs
  grow_slot d fs (one n) e = cc
  grow_slot d fs (two a x b) e = refl

  -- "the new root last"
  pub new_root_last : (n : ℕ) (e : Sep A) (t : State A) → Good n t → is_two (set A e (suc t.depth) t.root t.free).parts ≡ true
      → (set_state e t).root.slot ≡ first_free (drop (suc t.depth) t.free)
  new_root_last n e t h f =
      let d = t.depth in
      let o : Placed A (Tree A d) = set A e (suc d) t.root t.free in
      let w = set_root_took e d (root_least d) t.root t.free h.shape in
      grow_slot d o.free o.parts f ∙ rw (w.takes, need_run A e.key (suc d) t.root (sym w.splits ∙ f))

  -- to the value that the key has: nothing changes, and no slot is needed
  pub set_state_again : (n : ℕ) (e : Sep A) (t : State A) → Good n t → get e.key (state_entries t) ≡ some e.val → set_state e t ≡ t
  set_state_again n e t h g = rw (set_again e t.depth (root_least t.depth) t.root t.free h.shape (look_get A e.key (suc t.depth) t.root h.rising ∙ g))

  pub present_needs_none : (n : ℕ) (k : Key) (v : A) (t : State A) → Good n t → get k (state_entries t) ≡ some v → slots_needed k t ≡ 0
  present_needs_none n k v t h g = rw (look_get A k (suc t.depth) t.root h.rising ∙ g)

-- ---- a dereference

module _ {A : Type 0} (g : FreePolicy) where
  shrink_entries : (d : ℕ) (n : Tree A d) (r : List (Sep A × Kid A d)) (fs : List ℕ) → r ≡ n.rest → state_entries (shrink A g d n r fs) ≡ entries A (suc d) n
  shrink_entries zero n r fs e = refl
  shrink_entries (suc d) n [] fs e = rw (← e) (sym (append-nil (entries A (suc d) n.first)))
  shrink_entries (suc d) n (x ∷ r) fs e = refl

  pub dereference_state_entries : (k : Key) (t : State A) → Rising (state_entries t) → state_entries (dereference_state g k t) ≡ remove k (state_entries t)
  dereference_state_entries k t h =
      let o : Removed (Tree A t.depth) = dereference A k (suc t.depth) t.root in
      shrink_entries t.depth o.tree o.tree.rest (give_all g o.freed t.free) refl ∙ dereference_entries A k (suc t.depth) t.root h

  looser : (d i j : ℕ) (n : Tree A d) → j ≤ i → Fits (Shaped A d) i n → Fits (Shaped A d) j n
  looser d i j n g h = let l = h.least in record { least = omega arith; most = h.most; kid = h.kid; kids = h.kids }

  shrink_fits : (d : ℕ) (n : Tree A d) (r : List (Sep A × Kid A d)) (fs : List ℕ) → r ≡ n.rest → Fits (Shaped A d) 0 n
      → Fits (Shaped A (shrink A g d n r fs).depth) (root_least (shrink A g d n r fs).depth) (shrink A g d n r fs).root
  shrink_fits zero n r fs e h = h
  shrink_fits (suc d) n [] fs e h = looser d 4 (root_least d) n.first (omega (arith, root_least_le d)) h.kid
  shrink_fits (suc d) n (x ∷ r) fs e h = record { least = rw (← e) (omega arith); most = h.most; kid = h.kid; kids = h.kids }

  shrink_occurs : (d x m : ℕ) (n : Tree A d) (r : List (Sep A × Kid A d)) (fs : List ℕ) → r ≡ n.rest → occurs x (slots A (suc d) n) + occurs x fs ≡ m
      → occurs x (used_slots (shrink A g d n r fs)) + occurs x (shrink A g d n r fs).free ≡ m
  shrink_occurs zero x m n r fs e h = h
  shrink_occurs (suc d) x m n [] fs e h =
      let none = ap (λ (q : List (Sep A × Kid A (suc d))). occurs x (read_rest none_of (slots A (suc d)) q)) e in
      omega (arith, occurs_append x (slots A (suc d) n.first) (read_rest none_of (slots A (suc d)) n.rest), g.given x n.slot fs)
  shrink_occurs (suc d) x m n (y ∷ r) fs e h = h

  pub dereference_good : (n : ℕ) (k : Key) (t : State A) → Good n t → Good n (dereference_state g k t)
  dereference_good n k t h =
      let d = t.depth in
      let o : Removed (Tree A d) = dereference A k (suc d) t.root in
      record {
        rising = rw (dereference_state_entries k t h.rising) (rising_change k none (state_entries t) h.rising);
        shape = shrink_fits d o.tree o.tree.rest (give_all g o.freed t.free) refl
            (looser d (pred (root_least d)) 0 o.tree (omega arith) (dereference_root A k d (root_least d) t.root h.shape.least h.shape));
        once = λ x. shrink_occurs d x (in_store n x) o.tree o.tree.rest (give_all g o.freed t.free) refl
            (omega (arith, dereference_occurs A x k d (root_least d) t.root h.shape, h.once x, give_all_occurs g x o.freed t.free));
      }

  -- the root as it was does not shrink
  shrink_still : (d : ℕ) (n : Tree A d) (r : List (Sep A × Kid A d)) (fs : List ℕ) → root_least d ≤ length r → shrink A g d n r fs ≡ record { depth = d; root = n; free = fs }
  shrink_still zero n r fs h = refl
  shrink_still (suc d) n [] fs h = absurd (omega arith)
  shrink_still (suc d) n (x ∷ r) fs h = refl

  -- "Absent: nothing."
  pub dereference_state_absent : (n : ℕ) (k : Key) (t : State A) → Good n t → get k (state_entries t) ≡ none → dereference_state g k t ≡ t
  dereference_state_absent n k t h e =
      rw (dereference_absent A k t.depth (root_least t.depth) t.root h.shape (look_get A k (suc t.depth) t.root h.rising ∙ e))
      (shrink_still t.depth t.root t.root.rest t.free h.shape.least)

-- the slot of a root that gave way, or none
module _ (A : Type 0) where
  abbrev pub root_freed : (d : ℕ) → Tree A d → List (Sep A × Kid A d) → List ℕ
  root_freed zero n r = []
  root_freed (suc d) n [] = n.slot ∷ []
  root_freed (suc d) n (x ∷ r) = []

  shrink_free : (d : ℕ) (n : Tree A d) (r : List (Sep A × Kid A d)) (fs : List ℕ) → (shrink A stack d n r fs).free ≡ root_freed d n r ++ fs
  shrink_free zero n r fs = refl
  shrink_free (suc d) n [] fs = refl
  shrink_free (suc d) n (x ∷ r) fs = refl

  -- "a freed slot becomes the first": the merges' right slots from the leaf up, the old root last
  pub dereference_frees : (k : Key) (t : State A) → let o : Removed (Tree A t.depth) = dereference A k (suc t.depth) t.root in
      (dereference_state stack k t).free ≡ root_freed t.depth o.tree o.tree.rest ++ (o.freed ++ t.free)
  dereference_frees k t =
      let o : Removed (Tree A t.depth) = dereference A k (suc t.depth) t.root in
      shrink_free t.depth o.tree o.tree.rest (give_all stack o.freed t.free) ∙ rw (give_all_stack o.freed t.free)

-- ---- with and without a root

pub formatted_good : (A : Type 0) (n : ℕ) → GoodStore {A = A} n (formatted n)
formatted_good A n x = formatted_once n x

has_free_lem : (n : ℕ) (fs : List ℕ) → 1 ≤ n → ((x : ℕ) → occurs x fs ≡ in_store n x) → 0 < length fs
has_free_lem n [] h g = let e = rw (le-leb 1 n h) at (g 1) in absurd (omega arith)
has_free_lem n (s ∷ fs) h g = omega arith

module _ {A : Type 0} where
  pub rising_store : (n : ℕ) (s : Store A) → GoodStore n s → Rising (store_entries s)
  rising_store n (bare fs) h = tt
  rising_store n (rooted t) h = h.rising

  pub with_root_entries : (s : Store A) → state_entries (with_root s) ≡ store_entries s
  with_root_entries (bare fs) = refl
  with_root_entries (rooted t) = refl

  pub with_root_good : (n : ℕ) (s : Store A) → 1 ≤ n → GoodStore n s → Good n (with_root s)
  with_root_good n (bare fs) p h = record {
    rising = tt;
    shape = record { least = omega arith; most = omega arith; kid = tt; kids = tt };
    once = λ x. omega (arith, take_occurs x fs (has_free_lem n fs p h), h x);
  }
  with_root_good n (rooted t) p h = h
