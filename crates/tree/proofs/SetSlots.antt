-- A set takes the first free slots, exactly as many as are counted, from the leaf up, and each slot is used or free as often
-- as before. Assumes nothing.
use mathlib.Core.Path.{◌≡◌, refl, sym, ap, ◌∙◌}
use mathlib.Core.List.{List, [], ◌∷◌, ◌++◌}
use mathlib.Core.Bool.{Bool, true, false, cond, ◌&&◌}
use mathlib.Core.Option.{Option, none, some}
use lib.ListN.{length, take, drop, take-append-drop, length-drop}
use lib.Seq.{drop-drop}
use native.Mathlib.Nat.{add-zero}
use lib.Dec.{leb, eqb}
use native.Mathlib.Omega.{arith}
use borrow.Author.Tests.{leb-true, leb-false, le-leb, lt-leb}
use Prim.Native.Nat.{ℕ, zero, suc, ◌+◌, ◌≤◌, ◌<◌}
use Rattle.word.specs.Key.{Key}
use Rattle.tree.specs.Map.{Sep}
use Rattle.tree.specs.Tree.{Node, Kid, Tree, Zip, read_rest, read, none_of, slots, plug, at, below, same}
use Rattle.tree.specs.Free.{bit, occurs, first_free}
use Rattle.tree.specs.Lookup.{look_here, look}
use Rattle.tree.specs.Set.{Parts, one, two, Placed, split_at4, split_over8, graft, set_below, set_here, set, way, full_run}
use Rattle.tree.specs.State.{Fits, Shaped, State, slots_needed}
use Rattle.tree.proofs.Cases.{by_cond, by_bool}
use Rattle.tree.proofs.Zipper.{read_rest_append, read_zip, plug_read, seek_read, read_parts, graft_read, plug_slot, graft_slot, plug_length, seek_length, at_all}
use Rattle.tree.proofs.Slots.{occurs_append}

-- ---- the count, node by node: the full nodes of the unbroken run so far, and whether it takes in this node

pub record Need : Type 0 where
  pub cost : ℕ
  pub splits : Bool

abbrev pub upward : Need → Bool → Need
upward q full = record { cost = q.cost + bit (q.splits && full); splits = q.splits && full }

abbrev pub needs_none : Need
needs_none = record { cost = 0; splits = false }

module _ {A C : Type 0} where
  abbrev pub need_here : Key → Need → Bool → List (Sep A × C) → Need
  need_here k q full [] = upward q full
  need_here k q full (x ∷ r) = cond (same k x.0) needs_none (upward q full)

abbrev pub need : (A : Type 0) → Key → (d : ℕ) → Kid A d → Need
need A k zero t = record { cost = 0; splits = true }
need A k (suc d) n =
    let z : Zip A (Kid A d) = at (below k) n in
    need_here k (need A k d z.mid) (leb 8 (length n.rest)) z.rgt

-- ---- it is what `slots_needed` says

leading_lem : List ℕ → ℕ
leading_lem [] = 0
leading_lem (m ∷ ms) = cond (leb 8 m) (suc (leading_lem ms)) 0

all_full : List ℕ → Bool
all_full [] = true
all_full (m ∷ ms) = leb 8 m && all_full ms

run_parts : (ms : List ℕ) → full_run ms ≡ leading_lem ms + bit (all_full ms)
unfolding leading_lem all_full
run_parts [] = refl
run_parts (m ∷ ms) = by_bool (leb 8 m) (λ p. rw p (omega (arith, run_parts ms))) (λ p. rw p)

leading_snoc : (ms : List ℕ) (m : ℕ) → leading_lem (ms ++ (m ∷ [])) ≡ leading_lem ms + bit (all_full ms && leb 8 m)
unfolding leading_lem all_full
leading_snoc [] m = by_bool (leb 8 m) (λ p. rw p) (λ p. rw p)
leading_snoc (x ∷ ms) m = by_bool (leb 8 x) (λ p. rw p (omega (arith, leading_snoc ms m))) (λ p. rw p)

full_snoc : (ms : List ℕ) (m : ℕ) → all_full (ms ++ (m ∷ [])) ≡ (all_full ms && leb 8 m)
unfolding all_full
full_snoc [] m = by_bool (leb 8 m) (λ p. rw p) (λ p. rw p)
full_snoc (x ∷ ms) m = by_bool (leb 8 x) (λ p. rw p (full_snoc ms m)) (λ p. rw p)

module _ {A C : Type 0} (k : Key) (q : Need) (full : Bool) where
  absent_here : (o : Option A) (r : List (Sep A × C)) → look_here k o r ≡ none → (o ≡ none) × (need_here k q full r ≡ upward q full)
  absent_here o [] e = (e, refl)
  absent_here o (x ∷ r) e = by_bool (same k x.0) (λ p. let z = rw p at e in let w : ◌≡◌ {A = ℕ} 0 1 = cc in absurd (omega arith)) (λ p. (rw p at e, rw p))

  present_here : (o : Option A) (v : A) (r : List (Sep A × C)) → (o ≡ some v → q ≡ needs_none) → look_here k o r ≡ some v → need_here k q full r ≡ needs_none
  present_here o v [] h e = rw (h e)
  present_here o v (x ∷ r) h e = by_bool (same k x.0) (λ p. rw p) (λ p. rw p (rw (h (rw p at e))))

module _ (A : Type 0) (k : Key) where
  record AsCounted (d : ℕ) (t : Kid A d) : Type 0 where
    cost : (need A k d t).cost ≡ leading_lem (way A k d t)
    splits : (need A k d t).splits ≡ all_full (way A k d t)

  need_absent : (d : ℕ) (t : Kid A d) → look A k d t ≡ none → AsCounted d t
  unfolding leading_lem all_full
  need_absent zero t e = record { cost = refl; splits = refl }
  need_absent (suc d) n e =
      let z : Zip A (Kid A d) = at (below k) n in
      let m = length n.rest in
      let h = absent_here k (need A k d z.mid) (leb 8 m) (look A k d z.mid) z.rgt e in
      let ih = need_absent d z.mid h.0 in
      let ms : List ℕ = way A k d z.mid in
      record {
        cost = rw (h.1, ih.cost, ih.splits) (sym (leading_snoc ms m));
        splits = rw (h.1, ih.splits) (sym (full_snoc ms m));
      }

  need_present : (d : ℕ) (t : Kid A d) (v : A) → look A k d t ≡ some v → need A k d t ≡ needs_none
  need_present zero t v e = cc
  need_present (suc d) n v e =
      let z : Zip A (Kid A d) = at (below k) n in
      present_here k (need A k d z.mid) (leb 8 (length n.rest)) (look A k d z.mid) v z.rgt (need_present d z.mid v) e

  pub need_counts : (t : State A) → slots_needed k t ≡ (need A k (suc t.depth) t.root).cost + bit (need A k (suc t.depth) t.root).splits
  need_counts t = go (look A k (suc t.depth) t.root) refl
    where
      go : (o : Option A) → look A k (suc t.depth) t.root ≡ o
          → slots_needed k t ≡ (need A k (suc t.depth) t.root).cost + bit (need A k (suc t.depth) t.root).splits
      go none e = let h = need_absent (suc t.depth) t.root e in rw (e, h.cost, h.splits) (run_parts (way A k (suc t.depth) t.root))
      go (some v) e = rw (e, need_present (suc t.depth) t.root v e)

  -- a run that takes in a node of height d has d + 1 full nodes
  pub need_run : (d : ℕ) (t : Kid A d) → (need A k d t).splits ≡ true → (need A k d t).cost ≡ d
  need_run zero t e = refl
  need_run (suc d) n e =
      let z : Zip A (Kid A d) = at (below k) n in
      go (need A k d z.mid) (leb 8 (length n.rest)) z.rgt (need_run d z.mid) e
    where
      up : (q : Need) (full : Bool) → (q.splits ≡ true → q.cost ≡ d) → (upward q full).splits ≡ true → (upward q full).cost ≡ suc d
      up q full h e = by_bool q.splits
          (λ p. by_bool full (λ f. rw (p, f) (omega (arith, h p))) (λ f. let w = rw (p, f) at e in cc))
          (λ p. let w = rw p at e in cc)

      go : (q : Need) (full : Bool) (r : List (Sep A × Kid A d)) → (q.splits ≡ true → q.cost ≡ d) → (need_here k q full r).splits ≡ true → (need_here k q full r).cost ≡ suc d
      go q full [] h e = up q full h e
      go q full (x ∷ r) h e = by_bool (same k x.0) (λ p. let w = rw p at e in cc) (λ p. rw p (up q full h (rw p at e)))

-- ---- the answer splits as counted, and takes as many slots as counted

module _ {A C : Type 0} where
  abbrev pub is_two : Parts A C → Bool
  is_two (one c) = false
  is_two (two a x b) = true

  pub record Took (q : Need) (fs : List ℕ) (o : Placed A C) : Type 0 where
    pub splits : is_two o.parts ≡ q.splits
    pub takes : o.free ≡ drop q.cost fs

module _ {A C : Type 0} where
  stays : (n : Node A C) (fs : List ℕ) → length n.rest ≤ 8 → split_over8 n fs ≡ record { parts = one n; free = fs }
  stays n fs h = rw (le-leb (length n.rest) 8 h)

  divides : (n : Node A C) (fs : List ℕ) → 8 < length n.rest → (is_two (split_over8 n fs).parts ≡ true) × ((split_over8 n fs).free ≡ drop 1 fs)
  divides n fs h = rw (lt-leb (length n.rest) 8 h) (go (drop 4 n.rest) (simp length-drop (omega arith)))
    where
      go : (x : List (Sep A × C)) → 0 < length x → (is_two (split_at4 n x fs).parts ≡ true) × ((split_at4 n x fs).free ≡ drop 1 fs)
      go [] q = absurd (omega arith)
      go (x ∷ r) q = (refl, refl)

  -- m is how many separators the node holds, fs' what the child left
  graft_took : (q : Need) (fs fs' : List ℕ) (s m : ℕ) (l : List (C × Sep A)) (r : List (Sep A × C)) (o : Parts A C)
      → length l + length r ≡ m → m ≤ 8 → is_two o ≡ q.splits → fs' ≡ drop q.cost fs → Took (upward q (leb 8 m)) fs (split_over8 (graft s l r o) fs')
  graft_took q fs fs' s m l r (one c) e h t u =
      let n = plug_length s l c r in
      rw (stays (plug s l c r) fs' (omega arith), ← t) (record { splits = refl; takes = rw add-zero u })
  graft_took q fs fs' s m l r (two a x b) e h t u =
      let n : Node A C = plug s l a ((x, b) ∷ r) in
      let w = plug_length s l a ((x, b) ∷ r) in
      by_bool (leb 8 m)
      (λ k.
      let big = divides n fs' (omega (arith, leb-true)) in
      rw (k, ← t) (record { splits = big.0; takes = big.1 ∙ rw u (drop-drop 1 q.cost fs) }))
      (λ k. rw (k, stays n fs' (omega (arith, leb-false)), ← t) (record { splits = refl; takes = rw add-zero u }))

  here_took : (rec : C → Placed A C) (e : Sep A) (q : Need) (s m : ℕ) (l : List (C × Sep A)) (c : C) (r : List (Sep A × C)) (fs : List ℕ)
      → length l + length r ≡ m → m ≤ 8 → Took q fs (rec c) → Took (need_here e.key q (leb 8 m) r) fs (set_here rec e s l c r fs)
  here_took rec e q s m l c [] fs h g t = graft_took q fs (rec c).free s m l [] (rec c).parts h g t.splits t.takes
  here_took rec e q s m l c (x ∷ r) fs h g t = by_bool (same e.key x.0) (λ p. rw p (record { splits = refl; takes = refl }))
      (λ p. rw p (graft_took q fs (rec c).free s m l (x ∷ r) (rec c).parts h g t.splits t.takes))

module _ {A : Type 0} (e : Sep A) where
  took_step : (d lo : ℕ) (n : Tree A d) (fs : List ℕ) → Fits (Shaped A d) lo n → ((c : Kid A d) → Shaped A d c → Took (need A e.key d c) fs (set A e d c fs))
      → Took (need A e.key (suc d) n) fs (set A e (suc d) n fs)
  took_step d lo n fs h ih =
      let z : Zip A (Kid A d) = at (below e.key) n in
      let a = at_all (Shaped A d) (below e.key) lo n h in
      let q = seek_length (below e.key) [] n.first n.rest in
      here_took (λ c. set A e d c fs) e (need A e.key d z.mid) n.slot (length n.rest) z.lft z.mid z.rgt fs
      (omega arith) h.most (ih z.mid a.here)

  pub set_took : (d : ℕ) (t : Kid A d) (fs : List ℕ) → Shaped A d t → Took (need A e.key d t) fs (set A e d t fs)
  set_took zero t fs h = record { splits = refl; takes = refl }
  set_took (suc d) n fs h = took_step d 4 n fs h (λ c hc. set_took d c fs hc)

  pub set_root_took : (d lo : ℕ) (n : Tree A d) (fs : List ℕ) → Fits (Shaped A d) lo n → Took (need A e.key (suc d) n) fs (set A e (suc d) n fs)
  set_root_took d lo n fs h = took_step d lo n fs h (λ c hc. set_took d c fs hc)

-- ---- "A split root's slot stays the left half; the right halves take slots from the leaf up"

module _ {A C : Type 0} where
  -- the slot stays s, and a right half has slot b
  abbrev pub HalvesIn : ℕ → ℕ → Parts A (Node A C) → Type 0
  HalvesIn s b (one n) = n.slot ≡ s
  HalvesIn s b (two m x n) = (m.slot ≡ s) × (n.slot ≡ b)

  -- a node gets a ninth separator only where its child split
  only_two : (s m : ℕ) (l : List (C × Sep A)) (r : List (Sep A × C)) (o : Parts A C) → length l + length r ≡ m → m ≤ 8 → 8 < length (graft s l r o).rest → is_two o ≡ true
  only_two s m l r (one c) e h g = absurd (omega (arith, plug_length s l c r))
  only_two s m l r (two a x b) e h g = refl

  below_halves : (rec : C → Placed A C) (s m b : ℕ) (l : List (C × Sep A)) (c : C) (r : List (Sep A × C)) → length l + length r ≡ m → m ≤ 8
      → (is_two (rec c).parts ≡ true → first_free (rec c).free ≡ b) → HalvesIn s b (set_below rec s l c r).parts
  below_halves rec s m b l c r e h g = by_cond (λ (o : Placed A (Node A C)). HalvesIn s b o.parts) (leb (length (graft s l r (rec c).parts).rest) 8)
      (λ p. graft_slot s l r (rec c).parts)
      (λ p. go (drop 4 (graft s l r (rec c).parts).rest) (g (only_two s m l r (rec c).parts e h (leb-false (length (graft s l r (rec c).parts).rest) 8 p))))
    where
      go : (x : List (Sep A × C)) → first_free (rec c).free ≡ b → HalvesIn s b (split_at4 (graft s l r (rec c).parts) x (rec c).free).parts
      go [] w = graft_slot s l r (rec c).parts
      go (x ∷ q) w = (graft_slot s l r (rec c).parts, w)

  here_halves : (rec : C → Placed A C) (e : Sep A) (s m b : ℕ) (l : List (C × Sep A)) (c : C) (r : List (Sep A × C)) (fs : List ℕ) → length l + length r ≡ m → m ≤ 8
      → (is_two (rec c).parts ≡ true → first_free (rec c).free ≡ b) → HalvesIn s b (set_here rec e s l c r fs).parts
  here_halves rec e s m b l c [] fs h k g = below_halves rec s m b l c [] h k g
  here_halves rec e s m b l c (x ∷ r) fs h k g = by_cond (λ (o : Placed A (Node A C)). HalvesIn s b o.parts) (same e.key x.0)
      (λ p. plug_slot s l c ((e, x.1) ∷ r)) (λ p. below_halves rec s m b l c (x ∷ r) h k g)

-- A node of height d (a leaf's is 0) that splits gives its right half the free slot of index d.
pub set_halves : {A : Type 0} (e : Sep A) (d lo : ℕ) (n : Tree A d) (fs : List ℕ) → Fits (Shaped A d) lo n → HalvesIn n.slot (first_free (drop d fs)) (set A e (suc d) n fs).parts
set_halves {A} e d lo n fs h =
    let z : Zip A (Kid A d) = at (below e.key) n in
    let a = at_all (Shaped A d) (below e.key) lo n h in
    let q = seek_length (below e.key) [] n.first n.rest in
    let t = set_took e d z.mid fs a.here in
    here_halves (λ c. set A e d c fs) e n.slot (length n.rest) (first_free (drop d fs)) z.lft z.mid z.rgt fs (omega arith) h.most
    (λ two. rw (t.takes, need_run A e.key d z.mid (sym t.splits ∙ two)))

-- ---- each slot is used or free as often as before

module _ {A C : Type 0} (f : C → List ℕ) where
  abbrev pub own_slots : Node A C → List ℕ
  own_slots n = n.slot ∷ read none_of f n

module _ {A C : Type 0} (x : ℕ) (f : C → List ℕ) where
  split_occurs : (n : Node A C) (fs : List ℕ) (q : List (Sep A × C)) → 0 < length fs → take 4 n.rest ++ q ≡ n.rest
      → occurs x (read_parts none_of (own_slots f) (split_at4 n q fs).parts) + occurs x (split_at4 n q fs).free ≡ occurs x (own_slots f n) + occurs x fs
  split_occurs n [] q p e = absurd (omega arith)
  split_occurs n (y ∷ fs) [] p e = refl
  split_occurs n (y ∷ fs) (c ∷ r) p e =
      let w = rw (read_rest_append none_of f (take 4 n.rest) (c ∷ r)) at (ap (read_rest none_of f) e) in
      let v = simp occurs_append at (ap (occurs x) w) in
      simp occurs_append (omega arith)

  split_over8_occurs : (n : Node A C) (fs : List ℕ) → (8 < length n.rest → 0 < length fs)
      → occurs x (read_parts none_of (own_slots f) (split_over8 n fs).parts) + occurs x (split_over8 n fs).free ≡ occurs x (own_slots f n) + occurs x fs
  split_over8_occurs n fs h =
      by_cond (λ (o : Placed A (Node A C)). occurs x (read_parts none_of (own_slots f) o.parts) + occurs x o.free ≡ occurs x (own_slots f n) + occurs x fs) (leb (length n.rest) 8)
      (λ e. refl) (λ e. split_occurs n fs (drop 4 n.rest) (h (leb-false (length n.rest) 8 e)) (take-append-drop 4 n.rest))

module _ {A C : Type 0} where
  -- where the node splits there is a slot for it
  pub graft_room : (q : Need) (fs : List ℕ) (s m : ℕ) (l : List (C × Sep A)) (r : List (Sep A × C)) (o : Parts A C) → length l + length r ≡ m → m ≤ 8
      → is_two o ≡ q.splits → (upward q (leb 8 m)).cost ≤ length fs → 8 < length (graft s l r o).rest → q.cost < length fs
  graft_room q fs s m l r (one c) e h t k g = absurd (omega (arith, plug_length s l c r))
  graft_room q fs s m l r (two a x b) e h t k g =
      let w = plug_length s l a ((x, b) ∷ r) in
      let f : leb 8 m ≡ true = le-leb 8 m (omega arith) in
      let j = rw (f, ← t) at k in
      omega arith

module _ {A C : Type 0} (x : ℕ) (f : C → List ℕ) (rec : C → Placed A C) (q : Need) (s m : ℕ) (l : List (C × Sep A)) (c : C) (fs : List ℕ)
    (h : m ≤ 8) (t : Took q fs (rec c)) (step : q.cost ≤ length fs → occurs x (read_parts none_of f (rec c).parts) + occurs x (rec c).free ≡ occurs x (f c) + occurs x fs) where
  abbrev SlotsKept : List (Sep A × C) → Placed A (Node A C) → Type 0
  SlotsKept r o = occurs x (read_parts none_of (own_slots f) o.parts) + occurs x o.free ≡ (bit (eqb x s) + occurs x (read_zip none_of f l c r)) + occurs x fs

  below_occurs : (r : List (Sep A × C)) → length l + length r ≡ m → (upward q (leb 8 m)).cost ≤ length fs → SlotsKept r (set_below rec s l c r)
  below_occurs r w k =
      let n : Node A C = graft s l r (rec c).parts in
      let room : 8 < length n.rest → 0 < length (rec c).free = λ g.
      let p = graft_room q fs s m l r (rec c).parts w h t.splits k g in rw t.takes (simp length-drop (omega arith)) in
      let a = split_over8_occurs x f n (rec c).free room in
      let st = step (omega (arith, k)) in
      let rd = simp occurs_append at (ap (occurs x) (graft_read none_of f s l r (rec c).parts)) in
      a ∙ rw (graft_slot s l r (rec c).parts) (simp occurs_append (omega arith))

  here_occurs : (e : Sep A) (r : List (Sep A × C)) → length l + length r ≡ m → (need_here e.key q (leb 8 m) r).cost ≤ length fs → SlotsKept r (set_here rec e s l c r fs)
  here_occurs e [] w k = below_occurs [] w k
  here_occurs e (y ∷ r) w k = by_cond (SlotsKept (y ∷ r)) (same e.key y.0)
      (λ p. rw (plug_slot s l c ((e, y.1) ∷ r), plug_read none_of f s l c ((e, y.1) ∷ r))) (λ p. below_occurs (y ∷ r) w (rw p at k))

module _ {A : Type 0} (x : ℕ) (e : Sep A) where
  abbrev pub SetKeeps : (d : ℕ) (t : Kid A d) (fs : List ℕ) (o : Placed A (Kid A d)) → Type 0
  SetKeeps d t fs o = occurs x (read_parts none_of (slots A d) o.parts) + occurs x o.free ≡ occurs x (slots A d t) + occurs x fs

  occurs_step : (d lo : ℕ) (n : Tree A d) (fs : List ℕ) → Fits (Shaped A d) lo n → (need A e.key (suc d) n).cost ≤ length fs
      → ((c : Kid A d) → Shaped A d c → (need A e.key d c).cost ≤ length fs → SetKeeps d c fs (set A e d c fs)) → SetKeeps (suc d) n fs (set A e (suc d) n fs)
  occurs_step d lo n fs h k ih =
      let z : Zip A (Kid A d) = at (below e.key) n in
      let a = at_all (Shaped A d) (below e.key) lo n h in
      let q = seek_length (below e.key) [] n.first n.rest in
      let whole = seek_read none_of (slots A d) (below e.key) [] n.first n.rest in
      here_occurs x (slots A d) (λ c. set A e d c fs) (need A e.key d z.mid) n.slot (length n.rest) z.lft z.mid fs
      h.most (set_took e d z.mid fs a.here) (ih z.mid a.here) e z.rgt (omega arith) k
      ∙ rw whole

  pub set_occurs : (d : ℕ) (t : Kid A d) (fs : List ℕ) → Shaped A d t → (need A e.key d t).cost ≤ length fs → SetKeeps d t fs (set A e d t fs)
  set_occurs zero t fs h k = refl
  set_occurs (suc d) n fs h k = occurs_step d 4 n fs h k (λ c hc kc. set_occurs d c fs hc kc)

  pub set_root_occurs : (d lo : ℕ) (n : Tree A d) (fs : List ℕ) → Fits (Shaped A d) lo n → (need A e.key (suc d) n).cost ≤ length fs → SetKeeps (suc d) n fs (set A e (suc d) n fs)
  set_root_occurs d lo n fs h k = occurs_step d lo n fs h k (λ c hc kc. set_occurs d c fs hc kc)
