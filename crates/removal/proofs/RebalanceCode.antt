-- Each way through the functions that mend a low child, and through those that edit one node, in the words of
-- RemoveMirror of `outcome` (a law NAME-k is of the k-th return). Assumes nothing.
use mathlib.Core.Path.{◌≡◌, refl, sym, ap, subst, ◌∙◌}
use mathlib.Core.List.{List, [], ◌∷◌}
use mathlib.Core.Bool.{Bool, true, false, cond}
use mathlib.Core.Option.{Option, none, some}
use Rattle.std.specs.Prelude as std
use Rattle.std.specs.Prelude.{None}
use Prim.Native.Nat.{ℕ, zero, suc, ◌+◌, ◌-◌, ◌≤◌, ◌<◌, min}
use lib.ListN.{length, get_or}
use lib.Dec.{leb}
use native.Mathlib.Omega.{arith}
use borrow.Author.Tests.{le-leb, lt-leb}
use Rattle.word.specs.Num.{Bytes}
use Rattle.word.proofs.NumLaws.{bytes_of}
use Rattle.tree.specs.Map.{Sep}
use Rattle.tree.specs.Tree.{Node, Zip, plug}
use Rattle.tree.proofs.Zipper.{plug_length}
use Rattle.node.specs.declared.Node as struct
use Rattle.node.specs.declared.Child.{Child}
use Rattle.node.specs.declared.Slot.{Slot}
use Rattle.codec.specs.declared.Reading.{Reading}
use Rattle.node.specs.Chain.{Step, child_of}
use Rattle.codec.specs.Codec.{is_accepted}
use Rattle.slots.specs.Code.{slot_of, some_slot, reading_in, reading_at, read_node_at, node_in, first_in, rest_in}
use Rattle.slots.proofs.CodeLaws.{AcceptedAt, accepted_at, refused_at, accepted_slot, accepted_some, node_in_lem, writable_in}
use Rattle.removal.specs.declared.Held.{Held}
use Rattle.outcome.specs.Outcome.{Outcome, refused, Does}
use Rattle.outcome.specs.RemoveMirror.{Lost, badly, with_right, with_left, last_child, first_child, around, borrow_last_m, borrow_first_m, merge_m, zip_to, zip_at, rebalance_zip, rebalance_on, rebalance_m}
use Rattle.removal.specs.RemoveCode.{Missing, Read, Is, Holds, Between, BorrowsLast, BorrowsFirst, Merges, WithRight, WithLeft}
use Rattle.removal.proofs.RemoveCode.{front, front_length, as_parts, kid_is, first_is, count_is}

-- ---- what was read

-- it stands in a slot
pub hold_none : (d : ℕ) (s : List ℕ) (x : ℕ) {o : std.Option Slot} {A : Type 0} → is_accepted (reading_at d s x).ending ≡ true → o ≡ some_slot (slot_of s x) → o ≡ None → A
hold_none d s x h slot gone =
    let a : is_accepted (reading_in s x).ending ≡ true = sym (ap (λ (r : Reading). is_accepted r.ending) (accepted_at s x d h).reading) ∙ h in
    absurd (accepted_some s x a slot gone)

pub held_none : (d : ℕ) (s : List ℕ) (x : ℕ) → Missing d s x → read_node_at d s x ≡ none
held_none d s x gone = refused_at s x d gone

module _ (d : ℕ) (s : List ℕ) (x : ℕ) {v : ℕ} {n : struct.Node} (read : Read d s x v n) where
  pub there : AcceptedAt d s x
  there = accepted_at s x d read.0

  pub held_some : read_node_at d s x ≡ some (node_in s x)
  held_some = there.found

  pub held_slot : v ≡ x
  held_slot =
      let a : is_accepted (reading_in s x).ending ≡ true = sym (ap (λ (r : Reading). is_accepted r.ending) there.reading) ∙ read.0 in
      read.1 ∙ (accepted_slot s x a).1

  pub held_is : Bytes s → Is n (first_in s x) (rest_in s x)
  held_is b = record { struct = read.2 ∙ ap (λ (r : Reading). r.node) there.reading ∙ node_in_lem s x; fine = writable_in s x b }

-- what is known of the bytes of a slice
abbrev pub Small : List ℕ → Type 0
Small s = (i : ℕ) → i < length s → get_or s i 0 < 256

-- the answer of a mirror that is another
pub by_mirror : {g h : Lost} {o : Outcome} {t : List ℕ} → g ≡ h → Does h o t → Does g o t
by_mirror {o = o} {t = t} e d = subst (λ (g : Lost). Does g o t) (sym e) d

-- ---- the child left of a separator is low

module _ (s : List ℕ) (over low : Held) (i d : ℕ) where
  pub with_right_1 : (o : Outcome) → 7 < i → WithRight s over i d low o s
  unfolding WithRight
  with_right_1 o h l c y b q at hc k = absurd (omega (arith, at.1, at.0.fine.most, plug_length over.slot.0 l c.slot ((y, b) ∷ q)))

  -- the right sibling's number
  kid_right : {k : Child} (l : List (ℕ × Sep ℕ)) (a : ℕ) (y : Sep ℕ) (b : ℕ) (q : List Step) → Between over i l a y b q → k ≡ get_or over.node.children (i + 1) (child_of 0) → k.0 ≡ b
  kid_right l a y b q at e =
      let j : i + 1 ≡ suc i = omega arith in
      let x : ℕ = over.slot.0 in
      ap (λ (k : Child). k.0) (e ∙ ap (λ (n : ℕ). get_or over.node.children n (child_of 0)) j
      ∙ kid_is (front x l a) (y, b) q (as_parts x l a ((y, b) ∷ q) at.0) (at.1 ∙ sym (front_length x l a)))

  pub with_right_2 : {k : Child} → k ≡ get_or over.node.children (i + 1) (child_of 0) → Missing d s k.0 → WithRight s over i d low refused s
  unfolding WithRight
  with_right_2 {k = k} kid gone l c y b q at hc room =
      let z : read_node_at d s b ≡ none = subst (λ (z : ℕ). read_node_at d s z ≡ none) (kid_right l c.slot y b q at kid) (held_none d s k.0 gone) in
      by_mirror (ap (λ (m : Option (Node ℕ ℕ)). with_right d s over.slot.0 l c y q m) z) (refl, refl)

  module _ {k : Child} (right : Held) (small : Small s) (kid : k ≡ get_or over.node.children (i + 1) (child_of 0))
      (read : Read d s k.0 right.slot.0 right.node) where
    module _ (l : List (ℕ × Sep ℕ)) (c : Node ℕ ℕ) (y : Sep ℕ) (b : ℕ) (q : List Step) (at : Between over i l c.slot y b q) where
      right_read : Read d s b right.slot.0 right.node
      right_read = subst (λ (z : ℕ). Read d s z right.slot.0 right.node) (kid_right l c.slot y b q at kid) read

      right_holds : Holds right (node_in s b)
      right_holds = (held_slot d s b right_read, held_is d s b right_read (bytes_of s small))

      right_count : right.node.count ≡ length (rest_in s b)
      right_count = count_is (held_is d s b right_read (bytes_of s small))

      -- what the mirror does, by the test
      by_count : (z : Bool) → leb 5 (length (rest_in s b)) ≡ z
          → with_right d s over.slot.0 l c y q (read_node_at d s b) ≡ cond z (borrow_first_m s over.slot.0 l c y (node_in s b) (rest_in s b) q) (merge_m s over.slot.0 l c y (node_in s b) q)
      by_count z e =
          ap (λ (m : Option (Node ℕ ℕ)). with_right d s over.slot.0 l c y q m) (held_some d s b right_read)
          ∙ ap (λ (z : Bool). cond z (borrow_first_m s over.slot.0 l c y (node_in s b) (rest_in s b) q) (merge_m s over.slot.0 l c y (node_in s b) q)) e

    pub with_right_3 : (o : Outcome) (t : List ℕ) → 4 < right.node.count → BorrowsFirst s over i low right o t → WithRight s over i d low o t
    unfolding WithRight BorrowsFirst
    with_right_3 o t many done l c y b q at hc room =
        by_mirror (by_count l c y b q at true (le-leb 5 (length (rest_in s b)) (omega (arith, right_count l c y b q at))))
        (done l c y (node_in s b) q at hc (right_holds l c y b q at) (omega arith))

    pub with_right_4 : (o : Outcome) (t : List ℕ) → right.node.count ≤ 4 → Merges s over i low right o t → WithRight s over i d low o t
    unfolding WithRight Merges
    with_right_4 o t few done l c y b q at hc room =
        by_mirror (by_count l c y b q at false (lt-leb 5 (length (rest_in s b)) (omega (arith, right_count l c y b q at))))
        (done l c y (node_in s b) q at hc (right_holds l c y b q at) (omega (arith, right_count l c y b q at)))

-- ---- the child right of it is low

module _ (s : List ℕ) (over left low : Held) (i d : ℕ) where
  -- what the mirror does, by the test
  by_left : (l : List (ℕ × Sep ℕ)) (a : Node ℕ ℕ) (y : Sep ℕ) (c : Node ℕ ℕ) (q : List Step) (z : Bool) → leb 5 (length a.rest) ≡ z
      → with_left d s over.slot.0 l y c q (some a) ≡ cond z (borrow_last_m s over.slot.0 l a a.rest y c q) (last_child d s over.slot.0 l a y c q)
  by_left l a y c q z e = ap (λ (z : Bool). cond z (borrow_last_m s over.slot.0 l a a.rest y c q) (last_child d s over.slot.0 l a y c q)) e

  pub with_left_1 : (o : Outcome) (t : List ℕ) → 4 < left.node.count → BorrowsLast s over i left low o t → WithLeft s over i d left low o t
  unfolding WithLeft BorrowsLast
  with_left_1 o t many done l a y c q at ha hc room =
      by_mirror (by_left l a y c q true (le-leb 5 (length a.rest) (omega (arith, count_is ha.1)))) (done l a y c q at ha hc (omega arith))

  pub with_left_2 : (o : Outcome) (t : List ℕ) → 7 < i → WithLeft s over i d left low o t
  unfolding WithLeft
  with_left_2 o t h l a y c q at ha hc room = absurd (omega (arith, at.1, at.0.fine.most, plug_length over.slot.0 l a.slot ((y, c.slot) ∷ q)))

  module _ (o : Outcome) (t : List ℕ) (few : left.node.count ≤ 4) where
    few_left : (a : Node ℕ ℕ) → Holds left a → leb 5 (length a.rest) ≡ false
    few_left a ha = lt-leb 5 (length a.rest) (omega (arith, count_is ha.1))

    pub with_left_3 : i + 1 < over.node.count → WithRight s over (i + 1) d low o t → WithLeft s over i d left low o t
    unfolding WithLeft WithRight
    with_left_3 more done l a y c q at ha hc room = by_mirror (by_left l a y c q false (few_left a ha)) (go q at)
      where
        go : (q : List Step) → Between over i l a.slot y c.slot q → Does (last_child d s over.slot.0 l a y c q) o t
        go [] at = absurd (omega (arith, at.1, count_is at.0, plug_length over.slot.0 l a.slot ((y, c.slot) ∷ [])))
        go (z ∷ r) at = done ((a.slot, y) ∷ l) c z.0 z.1 r (at.0, omega (arith, at.1)) hc room

    pub with_left_4 : over.node.count ≤ i + 1 → Merges s over i left low o t → WithLeft s over i d left low o t
    unfolding WithLeft Merges
    with_left_4 end done l a y c q at ha hc room = by_mirror (by_left l a y c q false (few_left a ha)) (go q at)
      where
        go : (q : List Step) → Between over i l a.slot y c.slot q → Does (last_child d s over.slot.0 l a y c q) o t
        go [] at = done l a y c [] at ha hc (omega (arith, count_is ha.1))
        go (z ∷ r) at = absurd (omega (arith, at.1, count_is at.0, plug_length over.slot.0 l a.slot ((y, c.slot) ∷ (z ∷ r))))

-- ---- the child at an index

-- the zipper's node is the one it is made from, and its index the one asked for or the last
zip_is : (x i : ℕ) (l : List (ℕ × Sep ℕ)) (c : ℕ) (r : List Step)
    → let z : Zip ℕ ℕ = zip_to i l c r in (plug x z.lft z.mid z.rgt ≡ plug x l c r) × (length z.lft ≡ length l + min i (length r))
zip_is x zero l c r = (refl, omega arith)
zip_is x (suc i) l c [] = (refl, omega arith)
zip_is x (suc i) l c (y ∷ r) = let h = zip_is x i ((c, y.0) ∷ l) y.1 r in (h.0, omega (arith, h.1))

-- n is the struct of what a zipper makes in slot v, whose child has index i
abbrev Zipped : ℕ → struct.Node → ℕ → List (ℕ × Sep ℕ) → ℕ → List Step → Type 0
Zipped v n i l c r = Is n (plug v l c r).first (plug v l c r).rest × (i ≡ length l)

module _ (v : ℕ) (n : struct.Node) (i : ℕ) where
  zip_kid : {k : Child} (l : List (ℕ × Sep ℕ)) (c : ℕ) (r : List Step) → Zipped v n i l c r → k ≡ get_or n.children i (child_of 0) → k.0 ≡ c
  zip_kid [] c r z e = ap (λ (k : Child). k.0) (e ∙ ap (λ (j : ℕ). get_or n.children j (child_of 0)) z.1 ∙ first_is z.0)
  zip_kid (a ∷ l) c r z e =
      ap (λ (k : Child). k.0) (e ∙ ap (λ (j : ℕ). get_or n.children j (child_of 0)) z.1
      ∙ kid_is (front v l a.0) (a.1, c) r (as_parts v l a.0 ((a.1, c) ∷ r) z.0) (sym (front_length v l a.0)))

  zip_read : (d : ℕ) (s : List ℕ) {k : Child} {w : ℕ} {m : struct.Node} (l : List (ℕ × Sep ℕ)) (c : ℕ) (r : List Step)
      → Zipped v n i l c r → k ≡ get_or n.children i (child_of 0) → Read d s k.0 w m → Read d s c w m
  zip_read d s {w = w} {m = m} l c r z e read = subst (λ (y : ℕ). Read d s y w m) (zip_kid l c r z e) read

  zip_count : (l : List (ℕ × Sep ℕ)) (c : ℕ) (r : List Step) → Zipped v n i l c r → n.count ≡ length l + length r
  zip_count l c r z = count_is z.0 ∙ plug_length v l c r

-- the mirror at a child that is there, by the test
module _ (d : ℕ) (s : List ℕ) (x : ℕ) (c : Node ℕ ℕ) where
  around_full : (l : List (ℕ × Sep ℕ)) (r : List Step) → leb 4 (length c.rest) ≡ true → around d s x l r (some c) ≡ badly s
  around_full [] r e = ap (λ (b : Bool). cond b (badly s) (first_child d s x c r)) e
  around_full (a ∷ l) r e = ap (λ (b : Bool). cond b (badly s) (with_left d s x l a.1 c r (read_node_at d s a.0))) e

  around_first : (r : List Step) → leb 4 (length c.rest) ≡ false → around d s x [] r (some c) ≡ first_child d s x c r
  around_first r e = ap (λ (b : Bool). cond b (badly s) (first_child d s x c r)) e

  around_later : (a : ℕ × Sep ℕ) (l : List (ℕ × Sep ℕ)) (r : List Step) → leb 4 (length c.rest) ≡ false
      → around d s x (a ∷ l) r (some c) ≡ with_left d s x l a.1 c r (read_node_at d s a.0)
  around_later a l r e = ap (λ (b : Bool). cond b (badly s) (with_left d s x l a.1 c r (read_node_at d s a.0))) e

-- the ways, at the zipper
low_none : (d : ℕ) (s : List ℕ) (v : ℕ) (n : struct.Node) (i : ℕ) {k : Child} → k ≡ get_or n.children i (child_of 0) → Missing d s k.0
    → (l : List (ℕ × Sep ℕ)) (c : ℕ) (r : List Step) → Zipped v n i l c r → Does (around d s v l r (read_node_at d s c)) refused s
low_none d s v n i {k} kid gone l c r z =
    by_mirror (ap (λ (y : Option (Node ℕ ℕ)). around d s v l r y) (held_none d s c (subst (λ (y : ℕ). Missing d s y) (zip_kid v n i l c r z kid) gone))) (refl, refl)

-- the child is read with (w, m), its left sibling with (w', m')
module _ (d : ℕ) (s : List ℕ) (v : ℕ) (n : struct.Node) (i : ℕ) {k : Child} {w : ℕ} {m : struct.Node} (kid : k ≡ get_or n.children i (child_of 0)) (read : Read d s k.0 w m)
    (l : List (ℕ × Sep ℕ)) (c : ℕ) (r : List Step) (z : Zipped v n i l c r) where
  low_read : Read d s c w m
  low_read = zip_read v n i d s l c r z kid read

  module _ (bytes : Bytes s) where
    low_some : around d s v l r (read_node_at d s c) ≡ around d s v l r (some (node_in s c))
    low_some = ap (λ (y : Option (Node ℕ ℕ)). around d s v l r y) (held_some d s c low_read)

    low_count : m.count ≡ length (rest_in s c)
    low_count = count_is (held_is d s c low_read bytes)

    low_full : 3 < m.count → Does (around d s v l r (read_node_at d s c)) refused s
    low_full h = by_mirror (low_some ∙ around_full d s v (node_in s c) l r (le-leb 4 (length (rest_in s c)) (omega (arith, low_count)))) (refl, refl)

    module _ (few : m.count ≤ 3) where
      is_low_lem : leb 4 (length (rest_in s c)) ≡ false
      is_low_lem = lt-leb 4 (length (rest_in s c)) (omega (arith, low_count))

-- no separator at all
alone : (d : ℕ) (s : List ℕ) (v : ℕ) (n : struct.Node) (i : ℕ) {k : Child} {w : ℕ} {m : struct.Node}
    → k ≡ get_or n.children i (child_of 0) → Read d s k.0 w m → Bytes s → m.count ≤ 3 → n.count < 1
    → (l : List (ℕ × Sep ℕ)) (c : ℕ) (r : List Step) → Zipped v n i l c r → Does (around d s v l r (read_node_at d s c)) refused s
alone d s v n i kid read bytes few h [] c [] z =
    by_mirror (low_some d s v n i kid read [] c [] z bytes ∙ around_first d s v (node_in s c) [] (is_low_lem d s v n i kid read [] c [] z bytes few)) (refl, refl)
alone d s v n i kid read bytes few h [] c (y ∷ r) z = absurd (omega (arith, zip_count v n i [] c (y ∷ r) z))
alone d s v n i kid read bytes few h (a ∷ l) c r z = absurd (omega (arith, zip_count v n i (a ∷ l) c r z))

-- the first child, with the one right of it
leftmost : (d : ℕ) (s : List ℕ) {i : ℕ} {k : Child} (over low : Held) (o : Outcome) (t : List ℕ)
    → k ≡ get_or over.node.children i (child_of 0) → Read d s k.0 low.slot.0 low.node → Bytes s → low.node.count ≤ 3
    → 1 ≤ over.node.count → i ≡ 0 → WithRight s over 0 d low o t
    → (l : List (ℕ × Sep ℕ)) (c : ℕ) (r : List Step) → Zipped over.slot.0 over.node i l c r → Does (around d s over.slot.0 l r (read_node_at d s c)) o t
unfolding WithRight
leftmost d s {i = i} over low o t kid read bytes few some-sep j done [] c [] z = absurd (omega (arith, zip_count over.slot.0 over.node i [] c [] z))
leftmost d s {i = i} over low o t kid read bytes few some-sep j done [] c (y ∷ r) z =
    let rd = low_read d s over.slot.0 over.node i kid read [] c (y ∷ r) z in
    by_mirror (low_some d s over.slot.0 over.node i kid read [] c (y ∷ r) z bytes ∙ around_first d s over.slot.0 (node_in s c) (y ∷ r) (is_low_lem d s over.slot.0 over.node i kid read [] c (y ∷ r) z bytes few))
    (done [] (node_in s c) y.0 y.1 r (z.0, refl) (held_slot d s c rd, held_is d s c rd bytes) (omega (arith, low_count d s over.slot.0 over.node i kid read [] c (y ∷ r) z bytes)))
leftmost d s {i = i} over low o t kid read bytes few some-sep j done (a ∷ l) c r z = absurd (omega (arith, z.1))

-- a later child whose left sibling isn't there
orphan : (d : ℕ) (s : List ℕ) (v : ℕ) (n : struct.Node) (i : ℕ) {k k' : Child} {w : ℕ} {m : struct.Node}
    → k ≡ get_or n.children i (child_of 0) → Read d s k.0 w m → Bytes s → m.count ≤ 3 → (i ≡ 0 → ⊥)
    → k' ≡ get_or n.children (i - 1) (child_of 0) → Missing d s k'.0
    → (l : List (ℕ × Sep ℕ)) (c : ℕ) (r : List Step) → Zipped v n i l c r → Does (around d s v l r (read_node_at d s c)) refused s
orphan d s v n i kid read bytes few j kid' gone [] c r z = absurd (j z.1)
orphan d s v n i kid read bytes few j kid' gone (a ∷ l) c r z =
    let y : Zipped v n (i - 1) l a.0 ((a.1, c) ∷ r) = (z.0, omega (arith, z.1)) in
    by_mirror (low_some d s v n i kid read (a ∷ l) c r z bytes ∙ around_later d s v (node_in s c) a l r (is_low_lem d s v n i kid read (a ∷ l) c r z bytes few)
    ∙ ap (λ (g : Option (Node ℕ ℕ)). with_left d s v l a.1 (node_in s c) r g) (held_none d s a.0 (subst (λ (y : ℕ). Missing d s y) (zip_kid v n (i - 1) l a.0 ((a.1, c) ∷ r) y kid') gone))) (refl, refl)

-- a later child and its left sibling
later_lem : (d : ℕ) (s : List ℕ) {i : ℕ} {k k' : Child} (over left low : Held) (o : Outcome) (t : List ℕ)
    → k ≡ get_or over.node.children i (child_of 0) → Read d s k.0 low.slot.0 low.node → Bytes s → low.node.count ≤ 3 → (i ≡ 0 → ⊥)
    → k' ≡ get_or over.node.children (i - 1) (child_of 0) → Read d s k'.0 left.slot.0 left.node
    → WithLeft s over (i - 1) d left low o t
    → (l : List (ℕ × Sep ℕ)) (c : ℕ) (r : List Step) → Zipped over.slot.0 over.node i l c r → Does (around d s over.slot.0 l r (read_node_at d s c)) o t
unfolding WithLeft
later_lem d s over left low o t kid read bytes few j kid' read' done [] c r z = absurd (j z.1)
later_lem d s {i = i} over left low o t kid read bytes few j kid' read' done (a ∷ l) c r z =
    let v : ℕ = over.slot.0 in
    let y : Zipped v over.node (i - 1) l a.0 ((a.1, c) ∷ r) = (z.0, omega (arith, z.1)) in
    let rd = low_read d s v over.node i kid read (a ∷ l) c r z in
    let ld = zip_read v over.node (i - 1) d s l a.0 ((a.1, c) ∷ r) y kid' read' in
    by_mirror (low_some d s v over.node i kid read (a ∷ l) c r z bytes ∙ around_later d s v (node_in s c) a l r (is_low_lem d s v over.node i kid read (a ∷ l) c r z bytes few)
    ∙ ap (λ (g : Option (Node ℕ ℕ)). with_left d s v l a.1 (node_in s c) r g) (held_some d s a.0 ld))
    (done l (node_in s a.0) a.1 (node_in s c) r y (held_slot d s a.0 ld, held_is d s a.0 ld bytes) (held_slot d s c rd, held_is d s c rd bytes)
    (omega (arith, low_count d s v over.node i kid read (a ∷ l) c r z bytes)))

-- ---- a node whose child at an index is low

pub rebalance_1 : (d : ℕ) (s : List ℕ) (x i : ℕ) → d ≡ 0 → Does (rebalance_m d s x i) refused s
unfolding rebalance_m
rebalance_1 d s x i e = subst (λ (d : ℕ). Does (rebalance_on d s x i (read_node_at d s x)) refused s) (sym e) (go (read_node_at 0 s x))
  where
    go : (m : Option (Node ℕ ℕ)) → Does (rebalance_on 0 s x i m) refused s
    go none = (refl, refl)
    go (some m) = (refl, refl)

above_leaf : (d : ℕ) (s : List ℕ) (x : ℕ) (z : Zip ℕ ℕ) → (d ≡ 0 → ⊥) → rebalance_zip d s x z ≡ around (d - 1) s x z.lft z.rgt (read_node_at (d - 1) s z.mid)
above_leaf zero s x z h = absurd (h refl)
above_leaf (suc d) s x z h = let e : d ≡ suc d - 1 = omega arith in ap (λ (e : ℕ). around e s x z.lft z.rgt (read_node_at e s z.mid)) e

pub rebalance_2 : (d : ℕ) (s : List ℕ) (x i : ℕ) → Missing d s x → Does (rebalance_m d s x i) refused s
unfolding rebalance_m
rebalance_2 d s x i gone = by_mirror (ap (λ (m : Option (Node ℕ ℕ)). rebalance_on d s x i m) (held_none d s x gone)) (refl, refl)

module _ (d : ℕ) (s : List ℕ) (x i : ℕ) {v : ℕ} {n : struct.Node} (above : d ≡ 0 → ⊥) (read : Read d s x v n) where
  -- the mirror at the zipper
  at_zip : let z : Zip ℕ ℕ = zip_at i (node_in s x) in rebalance_m d s x i ≡ around (d - 1) s v z.lft z.rgt (read_node_at (d - 1) s z.mid)
  unfolding rebalance_m
  at_zip =
      let z : Zip ℕ ℕ = zip_at i (node_in s x) in
      ap (λ (m : Option (Node ℕ ℕ)). rebalance_on d s x i m) (held_some d s x read) ∙ above_leaf d s x z above
      ∙ ap (λ (y : ℕ). around (d - 1) s y z.lft z.rgt (read_node_at (d - 1) s z.mid)) (sym (held_slot d s x read))

  module _ (small : Small s) {j : ℕ} (index : j ≡ min i n.count) where
    zipped : let z : Zip ℕ ℕ = zip_at i (node_in s x) in Zipped v n j z.lft z.mid z.rgt
    zipped =
        let g = zip_is v i [] (first_in s x) (rest_in s x) in
        let is : Is n (first_in s x) (rest_in s x) = held_is d s x read (bytes_of s small) in
        let m : min i n.count ≡ min i (length (rest_in s x)) = ap (min i) (count_is is) in
        (subst (λ (m : Node ℕ ℕ). Is n m.first m.rest) (sym g.0) is, omega (arith, index, m, g.1))

    module _ {k : Child} (kid : k ≡ get_or n.children j (child_of 0)) where
      pub rebalance_3 : Missing (d - 1) s k.0 → Does (rebalance_m d s x i) refused s
      rebalance_3 gone =
          let z : Zip ℕ ℕ = zip_at i (node_in s x) in
          by_mirror at_zip (low_none (d - 1) s v n j kid gone z.lft z.mid z.rgt zipped)

      module _ {w : ℕ} {m : struct.Node} (low : Read (d - 1) s k.0 w m) where
        pub rebalance_4 : 3 < m.count → Does (rebalance_m d s x i) refused s
        rebalance_4 h =
            let z : Zip ℕ ℕ = zip_at i (node_in s x) in
            by_mirror at_zip (low_full (d - 1) s v n j kid low z.lft z.mid z.rgt zipped (bytes_of s small) h)

        pub rebalance_5 : m.count ≤ 3 → n.count < 1 → Does (rebalance_m d s x i) refused s
        rebalance_5 few h =
            let z : Zip ℕ ℕ = zip_at i (node_in s x) in
            by_mirror at_zip (alone (d - 1) s v n j kid low (bytes_of s small) few h z.lft z.mid z.rgt zipped)

        pub rebalance_7 : {k' : Child} → m.count ≤ 3 → (j ≡ 0 → ⊥) → k' ≡ get_or n.children (j - 1) (child_of 0) → Missing (d - 1) s k'.0 → Does (rebalance_m d s x i) refused s
        rebalance_7 few h kid' gone =
            let z : Zip ℕ ℕ = zip_at i (node_in s x) in
            by_mirror at_zip (orphan (d - 1) s v n j kid low (bytes_of s small) few h kid' gone z.lft z.mid z.rgt zipped)

-- with the structs whole, for what they are handed to
module _ (d : ℕ) (s : List ℕ) (x i : ℕ) (over low : Held) (o : Outcome) (t : List ℕ) {j : ℕ} {k : Child} (above : d ≡ 0 → ⊥) (read : Read d s x over.slot.0 over.node) (small : Small s) (index : j ≡ min i over.node.count) (kid : k ≡ get_or over.node.children j (child_of 0))
    (low-is : Read (d - 1) s k.0 low.slot.0 low.node) (few : low.node.count ≤ 3) where
  pub rebalance_6 : 1 ≤ over.node.count → j ≡ 0 → WithRight s over 0 (d - 1) low o t → Does (rebalance_m d s x i) o t
  rebalance_6 h e done =
      let z : Zip ℕ ℕ = zip_at i (node_in s x) in
      by_mirror (at_zip d s x i above read) (leftmost (d - 1) s over low o t kid low-is (bytes_of s small) few h e done z.lft z.mid z.rgt (zipped d s x i above read small index))

  pub rebalance_8 : {k' : Child} (left : Held) → (j ≡ 0 → ⊥) → k' ≡ get_or over.node.children (j - 1) (child_of 0)
      → Read (d - 1) s k'.0 left.slot.0 left.node → WithLeft s over (j - 1) (d - 1) left low o t → Does (rebalance_m d s x i) o t
  rebalance_8 left h kid' left_is done =
      let z : Zip ℕ ℕ = zip_at i (node_in s x) in
      by_mirror (at_zip d s x i above read)
      (later_lem (d - 1) s over left low o t kid low-is (bytes_of s small) few h kid' left_is done z.lft z.mid z.rgt (zipped d s x i above read small index))
