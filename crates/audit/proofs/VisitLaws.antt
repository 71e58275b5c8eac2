-- The walk from the root passes exactly on a tree that the bytes hold, in shape, with rising keys and no slot twice; marks are kept
-- as a list of slots. Assumes nothing.
use mathlib.Core.Path.{◌≡◌, refl, sym, ap, subst, ◌∙◌}
use mathlib.Core.List.{List, [], ◌∷◌, ◌++◌}
use mathlib.Core.Bool.{true, ◌&&◌}
use mathlib.Core.Option.{Option, none, some}
use Prim.Native.Nat.{ℕ, zero, suc, ◌+◌, ◌^◌, ◌≤◌, ◌<◌}
use lib.ListN.{length}
use lib.Dec.{leb, eqb}
use native.Mathlib.Omega.{arith}
use borrow.Author.Tests.{leb-true, le-leb, eqb-true, eq-eqb}
use Rattle.word.specs.Key.{Key, cmp, Lt}
use Rattle.word.specs.Num.{Bytes}
use Rattle.word.proofs.KeyOrder.{lt_trans}
use Rattle.tree.specs.Map.{Sep, AllAbove, Rising}
use Rattle.tree.specs.Tree.{Node, Kid, Tree, read_rest, read, only, none_of, entries, slots}
use Rattle.tree.specs.Free.{occurs}
use Rattle.tree.specs.State.{AllRight, Fits, Shaped}
use Rattle.tree.proofs.Cases.{by_cond, is_lt_lem}
use Rattle.tree.proofs.Slots.{occurs_append, in_store_le}
use Rattle.node.specs.Chain.{Step}
use Rattle.slots.specs.Layout.{slot_at, used, count_of}
use Rattle.slots.specs.Mirror.{is_slot, holds_node, length_at, node_bytes, read_of, read_node}
use Rattle.slots.specs.Limits.{least_node, most_node}
use Rattle.codec.specs.Strict.{strict_of}
use Rattle.slots.specs.Entries.{as_written}
use Rattle.slots.specs.Stands.{label, map_right, map_node, InSlot, Holds, Based}
use Rattle.slots.proofs.HeaderLaws.{and_both}
use Rattle.slots.proofs.StoreLaws.{slot_of_lem, based_slot, read_back}
use Rattle.slots.proofs.Framing.{Within, first_within, occurs_itself, length_map_right}
use Rattle.slots.proofs.Building.{IfSome, StandsAt, read_stands, same_bytes_refl}
use Rattle.audit.specs.Walk.{in_list, Seen, is_above, bind, read_written, visit_rest, visit_node, visit}
use Rattle.audit.proofs.ChainLaws.{within_cons}

-- ---- rising from a last key on

abbrev pub Above : Option Key → Key → Type 0
Above none k = Unit {0}
Above (some j) k = Lt j k

abbrev pub RisingFrom : Option Key → List (Sep ℕ) → Type 0
RisingFrom j [] = Unit {0}
RisingFrom j (e ∷ l) = Above j e.key × RisingFrom (some e.key) l

abbrev pub last_key : Option Key → List (Sep ℕ) → Option Key
last_key j [] = j
last_key j (e ∷ l) = last_key (some e.key) l

rising_append : (j : Option Key) (l m : List (Sep ℕ)) → RisingFrom j l → RisingFrom (last_key j l) m → RisingFrom j (l ++ m)
rising_append j [] m h g = g
rising_append j (e ∷ l) m h g = (h.0, rising_append (some e.key) l m h.1 g)

rising_left : (j : Option Key) (l m : List (Sep ℕ)) → RisingFrom j (l ++ m) → RisingFrom j l
rising_left j [] m h = tt
rising_left j (e ∷ l) m h = (h.0, rising_left (some e.key) l m h.1)

rising_right : (j : Option Key) (l m : List (Sep ℕ)) → RisingFrom j (l ++ m) → RisingFrom (last_key j l) m
rising_right j [] m h = h
rising_right j (e ∷ l) m h = rising_right (some e.key) l m h.1

last_append : (j : Option Key) (l m : List (Sep ℕ)) → last_key j (l ++ m) ≡ last_key (last_key j l) m
last_append j [] m = refl
last_append j (e ∷ l) m = last_append (some e.key) l m

above_up : (k m : Key) (l : List (Sep ℕ)) → Lt k m → AllAbove m l → AllAbove k l
above_up k m [] h g = tt
above_up k m (e ∷ l) h g = (lt_trans k m e.key h g.0, above_up k m l h g.1)

rising_above : (k : Key) (l : List (Sep ℕ)) → RisingFrom (some k) l → AllAbove k l
rising_above k [] h = tt
rising_above k (e ∷ l) h = (h.0, above_up k e.key l h.0 (rising_above e.key l h.1))

pub from_rising : (j : Option Key) (l : List (Sep ℕ)) → RisingFrom j l → Rising l
from_rising j [] h = tt
from_rising j (e ∷ l) h = (rising_above e.key l h.1, from_rising (some e.key) l h.1)

rising_after : (k : Key) (l : List (Sep ℕ)) → AllAbove k l → Rising l → RisingFrom (some k) l
rising_after k [] g h = tt
rising_after k (e ∷ l) g h = (g.0, rising_after e.key l h.0 h.1)

pub rising_from : (l : List (Sep ℕ)) → Rising l → RisingFrom none l
rising_from [] h = tt
rising_from (e ∷ l) h = (tt, rising_after e.key l h.0 h.1)

above_true : (j : Option Key) (k : Key) → is_above j k ≡ true → Above j k
above_true none k h = tt
above_true (some j) k h = is_lt_lem (cmp j k) h

true_above : (j : Option Key) (k : Key) → Above j k → is_above j k ≡ true
true_above none k h = refl
true_above (some j) k h = rw h

-- ---- what a walk of a tree leaves

abbrev SeenList : Type 0
SeenList = Seen (List ℕ)

-- the key of a separator seen, and a slot marked
abbrev keyed : SeenList → Key → SeenList
keyed w k = record { marks = w.marks; last = some k }

abbrev entered : SeenList → ℕ → SeenList
entered w x = record { marks = x ∷ w.marks; last = w.last }

module _ {C : Type 0} (f : C → SeenList → SeenList) where
  abbrev pub after_rest : List (Sep ℕ × C) → SeenList → SeenList
  after_rest [] w = w
  after_rest (x ∷ r) w = after_rest r (f x.1 (keyed w x.0.key))

abbrev pub after : (d : ℕ) → Kid ℕ d → SeenList → SeenList
after zero t w = w
after (suc d) m w = after_rest (after d) m.rest (after d m.first (entered w m.slot))

module _ (v : ℕ) where
  marks_rest : (d : ℕ) → ((c : Kid ℕ d) (w : SeenList) → occurs v (after d c w).marks ≡ occurs v (slots ℕ d c) + occurs v w.marks)
      → (r : List (Sep ℕ × Kid ℕ d)) (w : SeenList) → occurs v (after_rest (after d) r w).marks ≡ occurs v (read_rest none_of (slots ℕ d) r) + occurs v w.marks
  marks_rest d ih [] w = omega arith
  marks_rest d ih (x ∷ r) w =
      let u = keyed w x.0.key in
      omega (arith, occurs_append v (slots ℕ d x.1) (read_rest none_of (slots ℕ d) r), marks_rest d ih r (after d x.1 u), ih x.1 u)

  pub after_marks : (d : ℕ) (t : Kid ℕ d) (w : SeenList) → occurs v (after d t w).marks ≡ occurs v (slots ℕ d t) + occurs v w.marks
  after_marks zero t w = omega arith
  after_marks (suc d) m w =
      let u = entered w m.slot in
      omega (arith, occurs_append v (slots ℕ d m.first) (read_rest none_of (slots ℕ d) m.rest), marks_rest d (after_marks d) m.rest (after d m.first u), after_marks d m.first u)

last_rest : (d : ℕ) → ((c : Kid ℕ d) (w : SeenList) → (after d c w).last ≡ last_key w.last (entries ℕ d c))
    → (r : List (Sep ℕ × Kid ℕ d)) (w : SeenList) → (after_rest (after d) r w).last ≡ last_key w.last (read_rest only (entries ℕ d) r)
last_rest d ih [] w = refl
last_rest d ih (x ∷ r) w =
    let u = keyed w x.0.key in
    last_rest d ih r (after d x.1 u) ∙ rw (ih x.1 u) (sym (last_append (some x.0.key) (entries ℕ d x.1) (read_rest only (entries ℕ d) r)))

pub after_last : (d : ℕ) (t : Kid ℕ d) (w : SeenList) → (after d t w).last ≡ last_key w.last (entries ℕ d t)
after_last zero t w = refl
after_last (suc d) m w =
    let u = entered w m.slot in
    last_rest d (after_last d) m.rest (after d m.first u) ∙ rw (after_last d m.first u) (sym (last_append w.last (entries ℕ d m.first) (read_rest only (entries ℕ d) m.rest)))

-- ---- sound

pub if_map : {C : Type 0} (P Q : C → Type 0) → ((c : C) → P c → Q c) → (o : Option C) → IfSome P o → IfSome Q o
if_map P Q f none h = tt
if_map P Q f (some c) h = f c h

-- a node that is read stands in a slot of the store
read_slot : (s : List ℕ) (x : ℕ) → IfSome (λ (m : Node ℕ ℕ). is_slot s x ≡ true) (read_node s x)
unfolding read_node holds_node
read_slot s x =
    by_cond (IfSome (λ (m : Node ℕ ℕ). is_slot s x ≡ true)) (is_slot s x && (leb least_node (length_at s x) && leb (length_at s x) most_node))
    (λ q. go (and_both (is_slot s x) (leb least_node (length_at s x) && leb (length_at s x) most_node) q).0 (read_of x (strict_of (node_bytes s x))))
    (λ q. tt)
  where
    go : is_slot s x ≡ true → (o : Option (Node ℕ ℕ)) → IfSome (λ (m : Node ℕ ℕ). is_slot s x ≡ true) o
    go e none = tt
    go e (some m) = e

pub record ReadAt (n : ℕ) (s : List ℕ) (x : ℕ) (m : Node ℕ ℕ) : Type 0 where
  pub stands : InSlot s m
  pub here : m.slot ≡ x
  pub least : 1 ≤ x
  pub most : x ≤ n

pub read_at_lem : (s : List ℕ) (n x : ℕ) → Bytes s → count_of s ≡ n → IfSome (ReadAt n s x) (read_written s x)
read_at_lem s n x bs cn = go (read_node s x) (read_slot s x) (read_stands s x bs)
  where
    go : (o : Option (Node ℕ ℕ)) → IfSome (λ (m : Node ℕ ℕ). is_slot s x ≡ true) o → IfSome (StandsAt s x) (as_written (slot_at s x) o) → IfSome (ReadAt n s x) (as_written (slot_at s x) o)
    go none a b = tt
    go (some m) a b =
        let i = slot_of_lem s x a in
        if_map (StandsAt s x) (ReadAt n s x) (λ k p. record { stands = p.in_slot; here = p.slot; least = i.least; most = omega (arith, i.most) }) (as_written (slot_at s x) (some m)) b

abbrev pub Shape : ℕ → (d : ℕ) → Kid ℕ d → Type 0
Shape least zero t = Unit {0}
Shape least (suc d) m = Fits (Shaped ℕ d) least m

shape_four : (d : ℕ) (t : Kid ℕ d) → Shape 4 d t → Shaped ℕ d t
shape_four zero t h = tt
shape_four (suc d) t h = h

module _ (n : ℕ) (s : List ℕ) where
  -- the tree that a walk from x on has seen between w and u
  pub record Saw (least d x : ℕ) (w u : SeenList) : Type 0 where
    pub tree : Kid ℕ d
    pub holds : Holds s d tree
    pub slot : label d tree ≡ x
    pub shape : Shape least d tree
    pub rises : RisingFrom w.last (entries ℕ d tree)
    pub left : u ≡ after d tree w
    pub within : Within n u.marks

  pub record SawRest (d : ℕ) (r : List Step) (w u : SeenList) : Type 0 where
    pub rest : List (Sep ℕ × Kid ℕ d)
    pub holds : AllRight (Holds s d) rest
    pub slot : map_right (label d) rest ≡ r
    pub shapes : AllRight (Shaped ℕ d) rest
    pub rises : RisingFrom w.last (read_rest only (entries ℕ d) rest)
    pub left : u ≡ after_rest (after d) rest w
    pub within : Within n u.marks

  module _ (bs : Bytes s) (cn : count_of s ≡ n) where
    module _ (d : ℕ) (ih : (x : ℕ) (w : SeenList) → Within n w.marks → IfSome (Saw 4 d x w) (visit in_list (read_written s) d 4 x w)) where
      abbrev below : ℕ → SeenList → Option SeenList
      below = visit in_list (read_written s) d 4

      rest_sound : (r : List Step) (w : SeenList) → Within n w.marks → IfSome (SawRest d r w) (visit_rest in_list (read_written s) below r w)
      rest_sound [] w h = record { rest = []; holds = tt; slot = refl; shapes = tt; rises = tt; left = refl; within = h }
      rest_sound (x ∷ r) w h =
          by_cond (IfSome (SawRest d (x ∷ r) w)) (is_above w.last x.0.key)
          (λ q. go (above_true w.last x.0.key q) (below x.1 w1) (ih x.1 w1 h) (rest_sound r))
          (λ q. tt)
        where
          w1 : SeenList
          w1 = keyed w x.0.key

          go : Above w.last x.0.key → (o : Option SeenList) → IfSome (Saw 4 d x.1 w1) o
              → ((w : SeenList) → Within n w.marks → IfSome (SawRest d r w) (visit_rest in_list (read_written s) below r w))
              → IfSome (SawRest d (x ∷ r) w) (bind o (λ u. visit_rest in_list (read_written s) below r u))
          go a none p f = tt
          go a (some u1) p f = if_map (SawRest d r u1) (SawRest d (x ∷ r) w) join_lem (visit_rest in_list (read_written s) below r u1) (f u1 p.within)
            where
              join_lem : (u : SeenList) → SawRest d r u1 u → SawRest d (x ∷ r) w u
              join_lem u q = record {
                rest = (x.0, p.tree) ∷ q.rest;
                holds = (p.holds, q.holds);
                slot = λ i. (x.0, p.slot i) ∷ q.slot i;
                shapes = (shape_four d p.tree p.shape, q.shapes);
                rises = (
                  a,
                  rising_append (some x.0.key) (entries ℕ d p.tree) (read_rest only (entries ℕ d) q.rest) p.rises
                      (subst (λ (j : Option Key). RisingFrom j (read_rest only (entries ℕ d) q.rest)) (ap (λ (y : SeenList). y.last) p.left ∙ after_last d p.tree w1) q.rises),
                );
                left = q.left ∙ ap (after_rest (after d) q.rest) p.left;
                within = q.within;
              }

      module _ (least x : ℕ) (w : SeenList) (h : Within n w.marks) (m : Node ℕ ℕ) (p : ReadAt n s x m) where
        abbrev w1 : SeenList
        w1 = entered w m.slot

        join_node : least ≤ length m.rest → (u1 : SeenList) → Saw 4 d m.first w1 u1 → (u : SeenList) → SawRest d m.rest u1 u → Saw least (suc d) x w u
        join_node k u1 a u q =
            let t : Tree ℕ d = record { slot = m.slot; first = a.tree; rest = q.rest } in
            let e : m ≡ map_node (label d) t = λ i. record { slot = m.slot; first = sym a.slot i; rest = sym q.slot i } in
            let len : length m.rest ≡ length q.rest = ap (λ (r : List Step). length r) (sym q.slot) ∙ length_map_right (label d) q.rest in
            record {
              tree = t;
              holds = (subst (InSlot s) e p.stands, a.holds, q.holds);
              slot = p.here;
              shape = record { least = omega arith; most = omega (arith, p.stands.fine.most); kid = shape_four d a.tree a.shape; kids = q.shapes };
              rises =
                  rising_append w.last (entries ℕ d a.tree) (read_rest only (entries ℕ d) q.rest) a.rises
                  (subst (λ (j : Option Key). RisingFrom j (read_rest only (entries ℕ d) q.rest)) (ap (λ (y : SeenList). y.last) a.left ∙ after_last d a.tree w1) q.rises);
              left = q.left ∙ ap (after_rest (after d) q.rest) a.left;
              within = q.within;
            }

        children_sound : least ≤ length m.rest → (o : Option SeenList) → IfSome (Saw 4 d m.first w1) o
            → IfSome (Saw least (suc d) x w) (bind o (λ u. visit_rest in_list (read_written s) below m.rest u))
        children_sound k none a = tt
        children_sound k (some u1) a =
            if_map (SawRest d m.rest u1) (Saw least (suc d) x w) (join_node k u1 a) (visit_rest in_list (read_written s) below m.rest u1) (rest_sound m.rest u1 a.within)

        node_sound : IfSome (Saw least (suc d) x w) (visit_node in_list (read_written s) below least w (some m))
        node_sound =
            let b = leb least (length m.rest) in
            let c = eqb (occurs m.slot w.marks) 0 in
            by_cond (IfSome (Saw least (suc d) x w)) (b && c)
            (λ q.
            let t = and_both b c q in
            let e = p.here in
            children_sound (leb-true least (length m.rest) t.0) (below m.first w1)
            (ih m.first w1 (within_cons n m.slot w.marks (omega (arith, p.least)) (omega (arith, p.most)) (eqb-true (occurs m.slot w.marks) 0 t.1) h)))
            (λ q. tt)

    pub visit_sound : (d least x : ℕ) (w : SeenList) → Within n w.marks → IfSome (Saw least d x w) (visit in_list (read_written s) d least x w)
    visit_sound zero least x w h =
        by_cond (IfSome (Saw least zero x w)) (eqb x 0)
        (λ q. record { tree = tt; holds = tt; slot = sym (eqb-true x 0 q); shape = tt; rises = tt; left = refl; within = h })
        (λ q. tt)
    visit_sound (suc d) least x w h = go (read_written s x) (read_at_lem s n x bs cn) (visit_sound d 4)
      where
        go : (o : Option (Node ℕ ℕ)) → IfSome (ReadAt n s x) o → ((x : ℕ) (w : SeenList) → Within n w.marks → IfSome (Saw 4 d x w) (visit in_list (read_written s) d 4 x w))
            → IfSome (Saw least (suc d) x w) (visit_node in_list (read_written s) (visit in_list (read_written s) d 4) least w o)
        go none p ih = tt
        go (some m) p ih = node_sound d ih least x w h m p

-- ---- complete

module _ (n root depth : ℕ) (small : n < 2 ^ 32) (s gs : List ℕ) (b : Based n root depth s gs) where
  abbrev Passes : ℕ → Type 0
  Passes d = (t : Kid ℕ d) (w : SeenList) → Holds s d t → Shaped ℕ d t → RisingFrom w.last (entries ℕ d t) → Within n (after d t w).marks
      → visit in_list (read_written s) d 4 (label d t) w ≡ some (after d t w)

  rest_passes : (d : ℕ) → Passes d → (r : List (Sep ℕ × Kid ℕ d)) (w : SeenList) → AllRight (Holds s d) r → AllRight (Shaped ℕ d) r → RisingFrom w.last (read_rest only (entries ℕ d) r)
      → Within n (after_rest (after d) r w).marks
      → visit_rest in_list (read_written s) (visit in_list (read_written s) d 4) (map_right (label d) r) w ≡ some (after_rest (after d) r w)
  rest_passes d ih [] w h o q a = refl
  rest_passes d ih (x ∷ r) w h o q a =
      let w1 : SeenList = keyed w x.0.key in
      let w2 : SeenList = after d x.1 w1 in
      let E = entries ℕ d x.1 in
      let F = read_rest only (entries ℕ d) r in
      let q2 : RisingFrom w2.last F = subst (λ (j : Option Key). RisingFrom j F) (sym (after_last d x.1 w1)) (rising_right (some x.0.key) E F q.1) in
      rw (true_above w.last x.0.key q.0, ih x.1 w1 h.0 o.0 (rising_left (some x.0.key) E F q.1) (λ v. omega (arith, a v, marks_rest v d (after_marks v d) r w2)))
      (rest_passes d ih r w2 h.1 o.1 q2 a)

  node_passes : (d least : ℕ) (m : Tree ℕ d) (w : SeenList) → Passes d → Holds s (suc d) m → Fits (Shaped ℕ d) least m → RisingFrom w.last (entries ℕ (suc d) m) → Within n (after (suc d) m w).marks
      → visit in_list (read_written s) (suc d) least m.slot w ≡ some (after (suc d) m w)
  node_passes d least m w ih h f q a =
      let w1 : SeenList = entered w m.slot in
      let w2 : SeenList = after d m.first w1 in
      let E = entries ℕ d m.first in
      let F = read_rest only (entries ℕ d) m.rest in
      let here = after_marks m.slot (suc d) m w in
      let own = occurs_itself m.slot in
      let i = first_within n m.slot (read none_of (slots ℕ d) m) (omega (arith, a m.slot)) in
      let fresh : occurs m.slot w.marks ≡ 0 = omega (arith, a m.slot, in_store_le n m.slot) in
      let q2 : RisingFrom w2.last F = subst (λ (j : Option Key). RisingFrom j F) (sym (after_last d m.first w1)) (rising_right w.last E F q) in
      rw (
        read_back s (map_node (label d) m) (based_slot n root depth s gs b small m.slot i.0 i.1) h.0,
        h.0.bytes,
        same_bytes_refl (used (label d m.first) (map_right (label d) m.rest)),
        length_map_right (label d) m.rest,
        le-leb least (length m.rest) f.least,
        eq-eqb (occurs m.slot w.marks) 0 fresh,
        ih m.first w1 h.1 f.kid (rising_left w.last E F q) (λ v. omega (arith, a v, marks_rest v d (after_marks v d) m.rest w2)),
      )
      (rest_passes d ih m.rest w2 h.2 f.kids q2 a)

  passes_lem : (d : ℕ) → Passes d
  passes_lem zero t w h o q a = refl
  passes_lem (suc d) t w h o q a = node_passes d 4 t w (passes_lem d) h o q a

  pub visit_complete : (d least : ℕ) (m : Tree ℕ d) (w : SeenList) → Holds s (suc d) m → Fits (Shaped ℕ d) least m → RisingFrom w.last (entries ℕ (suc d) m) → Within n (after (suc d) m w).marks
      → visit in_list (read_written s) (suc d) least m.slot w ≡ some (after (suc d) m w)
  visit_complete d least m w h f q a = node_passes d least m w (passes_lem d) h f q a
