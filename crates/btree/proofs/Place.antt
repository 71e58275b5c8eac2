-- A node of up to 9 separators put into its slot, or into two: the bytes hold what the tree's `split_over8` gives. Assumes nothing.
use mathlib.Core.Path.{◌≡◌, refl, sym, ap, subst, ◌∙◌}
use mathlib.Core.List.{List, [], ◌∷◌, ◌++◌}
use Prim.Native.Nat.{ℕ, suc, ◌+◌, ◌^◌, ◌≤◌, ◌<◌}
use lib.ListN.{length, take, drop, take-append-drop, length-take, length-drop}
use lib.Dec.{leb}
use native.Mathlib.Omega.{arith}
use borrow.Author.Tests.{leb-true, leb-false, ne_eqb}
use Rattle.tree.specs.Map.{Sep}
use Rattle.tree.specs.Tree.{Node, Kid, Tree, read_rest, none_of, slots, plug}
use Rattle.tree.specs.Free.{occurs, in_store}
use Rattle.tree.specs.Set.{Parts, one, two, Placed, split_at4, split_over8}
use Rattle.tree.specs.State.{AllRight}
use Rattle.tree.proofs.Cases.{by_bool}
use Rattle.tree.proofs.Zipper.{read_rest_append, plug_slot, plug_length, AllZip, plug_all}
use Rattle.tree.proofs.Slots.{occurs_append, in_store_le}
use Rattle.tree.proofs.RemoveSlots.{occurs_zip, plug_occurs}
use Rattle.tree.proofs.SetShape.{AllParts, take_all, drop_all}
use Rattle.node.specs.Chain.{Fit, FitAll, Writable}
use Rattle.slots.specs.Layout.{slot_at}
use Rattle.slots.specs.Mirror.{write_node, Took, take_slot}
use Rattle.slots.specs.Stands.{label, map_right, map_node, Holds, Based}
use Rattle.slots.proofs.Framing.{occurs_itself, first_within, holds_frame, Ready, ready_frame, length_map_right, put_tree, take_slot_lem}
use Rattle.outcome.specs.Mirror.{Came, plain, split, Ran, in_two, split_m, place_m}
use Rattle.btree.proofs.Natural.{map_left, plug_map, take_map, drop_map, FitNode, FitZip, plug_fit_map, fit_take, fit_drop}
use Rattle.btree.proofs.AtChild.{Apart}

-- ---- what a set makes of a tree, on bytes

module _ {C : Type 0} (f : C → ℕ) where
  -- the answer that tells of it
  abbrev pub came : Parts ℕ C → Came
  came (one c) = plain
  came (two a x b) = split x (f b)

  -- a separator that goes up can be written, and the slot right of it
  abbrev pub FitParts : Parts ℕ C → Type 0
  FitParts (one c) = Unit {0}
  FitParts (two a x b) = Fit x × (f b < 2 ^ 64)

abbrev pub left_part : {C : Type 0} → Parts ℕ C → C
left_part (one c) = c
left_part (two a x b) = a

module _ (n root depth : ℕ) where
  -- The store s with the free slots fs became g's store, which holds o; slot x, where the tree stood, holds what is left. Slots
  -- changed only among ws and those that were taken.
  pub record Done (ws : List ℕ) (x d : ℕ) (s fs : List ℕ) (o : Placed ℕ (Kid ℕ d)) (g : Ran) : Type 0 where
    pub out : g.out ≡ came (label d) o.parts
    pub base : Based n root depth g.store o.free
    pub holds : AllParts (Holds g.store d) o.parts
    pub fit : FitParts (label d) o.parts
    pub same : label d (left_part o.parts) ≡ x
    pub fewer : (v : ℕ) → occurs v o.free ≤ occurs v fs
    pub frame : (v : ℕ) → occurs v ws ≡ 0 → occurs v fs ≤ occurs v o.free → slot_at g.store v ≡ slot_at s v

-- ---- one node

module _ (n root depth : ℕ) (small : n < 2 ^ 32) (d : ℕ) (s : List ℕ) (m : Tree ℕ d) (hf : Holds s d m.first) (hr : AllRight (Holds s d) m.rest) (f : FitNode (map_node (label d) m)) where
  place_one : (fs : List ℕ) → Based n root depth s fs → Apart n (suc d) m fs → length m.rest ≤ 8
      → Done n root depth (m.slot ∷ []) m.slot (suc d) s fs (record { parts = one m; free = fs }) (record { out = plain; store = write_node s (map_node (label d) m) })
  place_one fs b a le =
      let fine : Writable (label d m.first) (map_right (label d) m.rest) = record { first = f.0; rest = f.1; most = rw (length_map_right (label d) m.rest) le } in
      let w = put_tree n root depth small s fs d m b (record { first = hf; rest = hr; fine = fine }) a in
      record { out = refl; base = w.base; holds = w.tree; fit = tt; same = refl; fewer = λ v. omega arith; frame = λ v z k. w.other v (omega arith) }

  -- c ∷ r is what stands from index 4 on, and y the first free slot
  module _ (y : ℕ) (gs : List ℕ) (b : Based n root depth s (y ∷ gs)) (a : Apart n (suc d) m (y ∷ gs)) (c : Sep ℕ × Kid ℕ d) (r : List (Sep ℕ × Kid ℕ d)) (q : drop 4 m.rest ≡ c ∷ r) (le : length m.rest ≤ 9) where
    abbrev left_half : Tree ℕ d
    left_half = record { slot = m.slot; first = m.first; rest = take 4 m.rest }

    abbrev right_half : Tree ℕ d
    right_half = record { slot = y; first = c.1; rest = r }

    halves_occur : (v : ℕ) → occurs v (slots ℕ (suc d) left_half) + occurs v (slots ℕ (suc d) right_half) + occurs v gs ≡ occurs v (slots ℕ (suc d) m) + occurs v (y ∷ gs)
    halves_occur v =
        let e : take 4 m.rest ++ (c ∷ r) ≡ m.rest = rw (← q) (take-append-drop 4 m.rest) in
        let w = simp occurs_append at (ap (occurs v) (sym (read_rest_append none_of (slots ℕ d) (take 4 m.rest) (c ∷ r)) ∙ ap (read_rest none_of (slots ℕ d)) e)) in
        simp occurs_append (omega arith)

    right_fits : FitAll ((c.0, label d c.1) ∷ map_right (label d) r)
    right_fits = rw (drop_map (label d) 4 m.rest, q) at (fit_drop 4 (map_right (label d) m.rest) f.1)

    left_ready : Ready s d left_half
    left_ready = record {
      first = hf;
      rest = take_all (Holds s d) 4 m.rest hr;
      fine = record {
        first = f.0;
        rest = rw (← take_map (label d) 4 m.rest) (fit_take 4 (map_right (label d) m.rest) f.1);
        most = rw (length_map_right (label d) (take 4 m.rest), length-take) (omega arith);
      };
    }

    right_ready : Ready s d right_half
    right_ready =
        let h : AllRight (Holds s d) (c ∷ r) = rw q at (drop_all (Holds s d) 4 m.rest hr) in
        let l = rw q at (length-drop 4 m.rest) in
        record { first = h.0; rest = h.1; fine = record { first = right_fits.1; rest = right_fits.2; most = rw (length_map_right (label d) r) (omega arith) } }

    -- s1 is the store after the slot was taken
    two_slots : (s1 : List ℕ) → Based n root depth s1 gs → ((v : ℕ) → slot_at s1 v ≡ slot_at s v)
        → Done n root depth (m.slot ∷ []) m.slot (suc d) s (y ∷ gs) (split_at4 m (c ∷ r) (y ∷ gs))
        (record { out = split c.0 y; store = write_node (write_node s1 (map_node (label d) left_half)) (map_node (label d) right_half) })
    two_slots s1 b1 k1 =
        let s2 : List ℕ = write_node s1 (map_node (label d) left_half) in
        let s3 : List ℕ = write_node s2 (map_node (label d) right_half) in
        let w2 = put_tree n root depth small s1 gs d left_half b1 (ready_frame s s1 d left_half (λ v z. k1 v) left_ready) (λ v. omega (arith, a v, halves_occur v)) in
        let k2 : (v : ℕ) → 1 ≤ occurs v (slots ℕ (suc d) right_half) → slot_at s2 v ≡ slot_at s v = λ v z. w2.other v (omega (arith, a v, halves_occur v, in_store_le n v)) ∙ k1 v in
        let w3 = put_tree n root depth small s2 gs d right_half w2.base (ready_frame s s2 d right_half (λ v z. k2 v (omega arith)) right_ready) (λ v. omega (arith, a v, halves_occur v)) in
        let own = occurs_itself y in
        record {
          out = refl;
          base = w3.base;
          holds = (holds_frame s2 s3 (suc d) left_half (λ v z. w3.other v (omega (arith, a v, halves_occur v, in_store_le n v))) w2.tree, w3.tree);
          fit = (right_fits.0, omega (arith, (first_within n y gs (omega (arith, a y))).1));
          same = refl;
          fewer = λ v. omega arith;
          frame = λ v z k. w3.other v (omega arith) ∙ w2.other v (omega arith) ∙ k1 v;
        }

    place_two : Done n root depth (m.slot ∷ []) m.slot (suc d) s (y ∷ gs) (split_at4 m (c ∷ r) (y ∷ gs)) (in_two (map_node (label d) m) (c.0, label d c.1) (map_right (label d) r) (take_slot s))
    place_two =
        let t = take_slot_lem n root depth small s y gs b (λ v. omega (arith, a v)) in
        let is : take_slot s ≡ record { slot = y; store = (take_slot s).store } = λ i. record { slot = t.slot i; store = (take_slot s).store } in
        subst (λ (u : Took). Done n root depth (m.slot ∷ []) m.slot (suc d) s (y ∷ gs) (split_at4 m (c ∷ r) (y ∷ gs)) (in_two (map_node (label d) m) (c.0, label d c.1) (map_right (label d) r) u)) (sym is)
        (rw (ne_eqb y 0 (omega (arith, t.least)), take_map (label d) 4 m.rest) (two_slots (take_slot s).store t.base t.slots))

  -- a node of 9 separators needs a slot
  place_lem : (fs : List ℕ) → Based n root depth s fs → Apart n (suc d) m fs → length m.rest ≤ 9 → (8 < length m.rest → 0 < length fs)
      → Done n root depth (m.slot ∷ []) m.slot (suc d) s fs (split_over8 m fs) (place_m s (map_node (label d) m))
  unfolding place_m split_m
  place_lem fs b a le room =
      rw (length_map_right (label d) m.rest, drop_map (label d) 4 m.rest)
      (by_bool (leb (length m.rest) 8) (λ e. rw e (place_one fs b a (leb-true (length m.rest) 8 e))) (λ e. rw e (over_lem (leb-false (length m.rest) 8 e) (drop 4 m.rest) refl fs b a (room (leb-false (length m.rest) 8 e)))))
    where
      over_lem : 8 < length m.rest → (x : List (Sep ℕ × Kid ℕ d)) → drop 4 m.rest ≡ x → (fs : List ℕ) → Based n root depth s fs → Apart n (suc d) m fs → 0 < length fs
          → Done n root depth (m.slot ∷ []) m.slot (suc d) s fs (split_at4 m x fs) (split_m s (map_node (label d) m) (map_right (label d) x))
      over_lem big x q [] b a some = absurd (omega arith)
      over_lem big [] q (y ∷ gs) b a some = absurd (omega (arith, length-drop 4 m.rest, ap length q))
      over_lem big (c ∷ r) q (y ∷ gs) b a some = place_two y gs b a c r q le

-- ---- the node of slot x that a zipper makes

module _ (n root depth : ℕ) (small : n < 2 ^ 32) (d : ℕ) (s fs : List ℕ) (b : Based n root depth s fs) (x : ℕ) (l : List (Kid ℕ d × Sep ℕ)) (c : Kid ℕ d) (r : List (Sep ℕ × Kid ℕ d))
    (h : AllZip (Holds s d) l c r) (f : FitZip (map_left (label d) l) (label d c) (map_right (label d) r)) (a : (v : ℕ) → occurs_zip v (slots ℕ d) x l c r + occurs v fs ≤ in_store n v) where
  abbrev m : Tree ℕ d
  m = plug x l c r

  hs : Holds s d m.first × AllRight (Holds s d) m.rest
  hs = plug_all (Holds s d) x l c r h.lefts h.here h.rights

  apart : Apart n (suc d) m fs
  apart v = omega (arith, a v, plug_occurs v (slots ℕ d) x l c r)

  -- told of slot x and of the zipper of slots
  in_place : (o : Placed ℕ (Tree ℕ d)) (g : Node ℕ ℕ → Ran) → Done n root depth (m.slot ∷ []) m.slot (suc d) s fs o (g (map_node (label d) m))
      → Done n root depth (x ∷ []) x (suc d) s fs o (g (plug x (map_left (label d) l) (label d c) (map_right (label d) r)))
  in_place o g w =
      subst (λ (u : Node ℕ ℕ). Done n root depth (x ∷ []) x (suc d) s fs o (g u)) (plug_map (label d) x l c r)
      (subst (λ (i : ℕ). Done n root depth (i ∷ []) i (suc d) s fs o (g (map_node (label d) m))) (plug_slot x l c r) w)

  pub plug_written : length l + length r ≤ 8
      → Done n root depth (x ∷ []) x (suc d) s fs (record { parts = one m; free = fs }) (record { out = plain; store = write_node s (plug x (map_left (label d) l) (label d c) (map_right (label d) r)) })
  plug_written le =
      in_place (record { parts = one m; free = fs }) (λ u. record { out = plain; store = write_node s u })
      (place_one n root depth small d s m hs.0 hs.1 (plug_fit_map (label d) x l c r f) fs b apart (omega (arith, plug_length x l c r)))

  pub plug_placed : length l + length r ≤ 9 → (8 < length m.rest → 0 < length fs)
      → Done n root depth (x ∷ []) x (suc d) s fs (split_over8 m fs) (place_m s (plug x (map_left (label d) l) (label d c) (map_right (label d) r)))
  plug_placed le room =
      in_place (split_over8 m fs) (place_m s)
      (place_lem n root depth small d s m hs.0 hs.1 (plug_fit_map (label d) x l c r f) fs b apart (omega (arith, plug_length x l c r)) room)
