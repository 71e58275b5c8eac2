-- Each way through a split, a new root, the empty root and the room test (a law NAME-k is of the k-th return): what the code
-- does with a node's struct is what the mirrors (Mirror and RunMirror of `outcome`) do with its chain. Assumes nothing.
use mathlib.Core.Path.{◌≡◌, refl, sym, ap, subst, ◌∙◌}
use mathlib.Core.List.{List, [], ◌∷◌}
use mathlib.Core.Bool.{true, false, cond, not}
use mathlib.Core.Option.{none, some}
use Rattle.std.specs.Prelude.{Result, Ok, Err}
use Prim.Native.Nat.{ℕ, suc, ◌+◌, ◌-◌, ◌^◌, ◌≤◌, ◌<◌}
use lib.ListN.{length, take, drop, length-take, length-drop}
use lib.Seq.{drop-cons}
use lib.Dec.{leb, eqb}
use native.Mathlib.Omega.{arith}
use borrow.Author.Tests.{le-leb, lt-leb, eq-eqb, ne_eqb}
use Rattle.word.specs.Key.{Key}
use Rattle.tree.specs.Map.{Sep}
use Rattle.tree.specs.Tree.{Node, at, below}
use Rattle.node.specs.declared.Child.{Child}
use Rattle.node.specs.declared.Node as struct
use Rattle.node.specs.declared.Separator.{Separator}
use Rattle.node.specs.declared.Slot.{Slot}
use Rattle.node.specs.declared.edit.Halves.{Halves}
use Rattle.node.specs.Chain.{Step, Fit, FitAll, Writable, child_of, node_of}
use Rattle.node.specs.Edit.{separator_of, inserted, insert_at, child_at, step_at, parted, halves, halves_from}
use Rattle.node.specs.EditMirror.{with_child, split_node_at}
use Rattle.node.specs.EditMirror as structs
use Rattle.node.proofs.ChainLaws.{Short}
use Rattle.node.proofs.EditLaws.{node_set_child, node_insert, node_split, length_more, fit_take, fit_drop, fit_insert}
use Rattle.slots.specs.Limits.{most_depth}
use Rattle.slots.specs.Layout.{root_of, depth_of}
use Rattle.slots.specs.Mirror.{write_node, take_slot, set_root}
use Rattle.slots.specs.Code.{rest_in, node_in, read_node_at, written_in}
use Rattle.slots.proofs.CodeLaws.{written_chain}
use Rattle.outcome.specs.declared.Came.TheVariants.{Plain, Split, Low}
use Rattle.outcome.specs.declared.BadBytes.{BadBytes}
use Rattle.search.specs.declared.Turn.TheVariants.{NotBelow}
use Rattle.search.specs.declared.Sight.{Sight}
use Rattle.slots.specs.Search.{SawAt}
use Rattle.outcome.specs.Mirror as M
use Rattle.outcome.specs.Mirror.{in_two, split_m, place_m, inserted_at, grow_m}
use Rattle.outcome.specs.RunMirror.{need_m, whole_m, slots_needed_m, start_m}
use Rattle.outcome.specs.Outcome.{Outcome, refused, of_came, of_need, FitCame, Makes}
use Rattle.outcome.proofs.ReadSight.{sight_refused, sight_read, sight_count, sight_at_lem, sight_child}

short : (r : List Step) → FitAll r → Short r
short [] f = tt
short (x ∷ r) f = (f.0.short, short r f.2)

-- ---- a full node with one separator more

-- nine separators are parted at the fifth
place_nine : (s : List ℕ) (x c : ℕ) (l : List Step) → length l ≡ 9
    → let m : Node ℕ ℕ = record { slot = x; first = c; rest = l } in place_m s m ≡ in_two m (step_at 4 l) (drop 5 l) (take_slot s)
unfolding place_m split_m step_at
place_nine s x c l h =
    let e = drop-cons l 4 (record { key = []; val = 0 }, 0) (omega arith) in
    rw (lt-leb (length l) 8 (omega arith), e)

module _ (s : List ℕ) (x i : ℕ) (child : Child) (c : ℕ) (q : List Step) (e : Sep ℕ) (fine : Writable c q) (full : length q ≡ 8) (there : i ≤ 8) (fit : Fit e) where
  abbrev grown : List Step
  grown = insert_at i (e, child.0) q

  placed_lem : place_m s (inserted_at i e child.0 (record { slot = x; first = c; rest = q })) ≡ in_two (record { slot = x; first = c; rest = grown }) (step_at 4 grown) (drop 5 grown) (take_slot s)
  unfolding inserted
  placed_lem = place_nine s x c grown (length_more q i (e, child.0) (omega arith) ∙ omega arith)

  cut_in_two : split_node_at (node_of c q) i (separator_of e) child ≡ halves_from (halves i (e, child.0) (c, q))
  cut_in_two = node_split c q (e, child.0) full (short q fine.rest) fit.short i there

  fit_grown : child.0 < 2 ^ 64 → FitAll grown
  fit_grown small = fit_insert i (e, child.0) q fit small fine.rest

  left_writable : child.0 < 2 ^ 64 → Writable c (take 4 grown)
  left_writable small = record { first = fine.first; rest = fit_take 4 grown (fit_grown small); most = omega (arith, length-take 4 grown) }

  fit_right : child.0 < 2 ^ 64 → FitAll (step_at 4 grown ∷ drop 5 grown)
  unfolding step_at
  fit_right small =
      let l = length_more q i (e, child.0) (omega arith) in
      subst FitAll (drop-cons grown 4 (record { key = []; val = 0 }, 0) (omega arith)) (fit_drop 4 grown (fit_grown small))

  right_writable : child.0 < 2 ^ 64 → Writable (step_at 4 grown).1 (drop 5 grown)
  right_writable small =
      let l = length_more q i (e, child.0) (omega arith) in
      let f = fit_right small in
      record { first = f.1; rest = f.2; most = omega (arith, length-drop 5 grown) }

-- the parts of the code's halves
left_half_lem : (i : ℕ) (x : Step) (c : ℕ) (q : List Step) → (halves_from (halves i x (c, q))).left ≡ node_of c (take 4 (insert_at i x q))
unfolding halves parted
left_half_lem i x c q = refl

middle_half : (i : ℕ) (x : Step) (c : ℕ) (q : List Step) → (halves_from (halves i x (c, q))).middle ≡ separator_of (step_at 4 (insert_at i x q)).0
unfolding halves parted
middle_half i x c q = refl

right_half_lem : (i : ℕ) (x : Step) (c : ℕ) (q : List Step) → (halves_from (halves i x (c, q))).right ≡ node_of (step_at 4 (insert_at i x q)).1 (drop 5 (insert_at i x q))
unfolding halves parted
right_half_lem i x c q = refl

abbrev pub SplitsTo : List ℕ → ℕ → struct.Node → ℕ → Separator → Child → Outcome → List ℕ → Type 0
SplitsTo s x node i sep child r t =
    (c : ℕ) (q : List Step) (e : Sep ℕ) → node ≡ node_of c q → Writable c q → length q ≡ 8 → i ≤ 8 → sep ≡ separator_of e → Fit e
    → Makes (place_m s (inserted_at i e child.0 (record { slot = x; first = c; rest = q }))) r t

module _ (s : List ℕ) (x : ℕ) (node : struct.Node) (i : ℕ) (sep : Separator) (child : Child) {both : Halves} {right : ℕ} {t : List ℕ}
    (cut : both ≡ split_node_at node i sep child) (took : right ≡ (take_slot s).slot) (left : t ≡ (take_slot s).store) where
  pub split_1 : right ≡ 0 → SplitsTo s x node i sep child refused t
  split_1 h c q e n w full there k f =
      let z : eqb (take_slot s).slot 0 ≡ true = eq-eqb _ _ (sym took ∙ h) in
      rw (placed_lem s x i child c q e w full there f, z) (refl, left, tt)

  pub split_2 : {u v : List ℕ} → child.0 < 2 ^ 64 → (right ≡ 0 → ⊥) → u ≡ written_in t x both.left → v ≡ written_in u right both.right
      → SplitsTo s x node i sep child (Ok (Split (record { 0 = right }) both.middle)) v
  split_2 {u} {v} small h a b c q e n w full there k f =
      let l : List Step = insert_at i (e, child.0) q in
      let z : eqb (take_slot s).slot 0 ≡ false = ne_eqb _ _ (λ y. h (took ∙ y)) in
      let halved : both ≡ halves_from (halves i (e, child.0) (c, q)) = cut ∙ rw (n, k) (cut_in_two s x i child c q e w full there f) in
      let wl : u ≡ write_node (take_slot s).store (record { slot = x; first = c; rest = take 4 l }) =
      a ∙ ap (λ (y : Halves). written_in t x y.left) halved ∙ rw (left_half_lem i (e, child.0) c q, left) (written_chain _ x c (take 4 l) (left_writable s x i child c q e w full there f small)) in
      let wr : v ≡ write_node u (record { slot = (take_slot s).slot; first = (step_at 4 l).1; rest = drop 5 l }) =
      b ∙ ap (λ (y : Halves). written_in u right y.right) halved ∙ rw (right_half_lem i (e, child.0) c q, took) (written_chain u _ (step_at 4 l).1 (drop 5 l) (right_writable s x i child c q e w full there f small)) in
      let mid : both.middle ≡ separator_of (step_at 4 l).0 = ap (λ (y : Halves). y.middle) halved ∙ middle_half i (e, child.0) c q in
      rw (placed_lem s x i child c q e w full there f, z) (rw (mid, took) refl, wr ∙ rw wl, (fit_right s x i child c q e w full there f small).0)

-- ---- the root

abbrev GrowsTo : List ℕ → ℕ → ℕ → Separator → ℕ → Outcome → List ℕ → Type 0
GrowsTo s old d sep b r t = (e : Sep ℕ) → sep ≡ separator_of e → Fit e → Makes (grow_m old d s (M.split e b)) r t

-- a node of one separator, made of the empty one
one_node : (old : Child) (b : ℕ) (e : Sep ℕ) → Fit e → structs.inserted_at (with_child (node_of 0 []) 0 old) 0 (separator_of e) (child_of b) ≡ node_of old.0 ((e, b) ∷ [])
unfolding child_at inserted
one_node old b e f =
    ap (λ (n : struct.Node). structs.inserted_at n 0 (separator_of e) (child_of b)) (node_set_child 0 [] (omega arith) 0 old.0 (omega arith))
    ∙ node_insert old.0 [] (omega arith) tt 0 (e, b) f.short (omega arith) (omega arith)

module _ (s : List ℕ) (old : Child) (d : ℕ) (sep : Separator) (b : ℕ) where
  pub root_1 : 6 < d → GrowsTo s old.0 d sep b refused s
  root_1 h e k f = let z : leb most_depth d ≡ true = le-leb most_depth d (omega arith) in rw z (refl, refl, tt)

  module _ (low : d ≤ 6) {slot : ℕ} {t : List ℕ} (took : slot ≡ (take_slot s).slot) (left : t ≡ (take_slot s).store) where
    room : leb most_depth d ≡ false
    room = lt-leb most_depth d (omega arith)

    pub root_2 : slot ≡ 0 → GrowsTo s old.0 d sep b refused t
    root_2 h e k f =
        let z : eqb (take_slot s).slot 0 ≡ true = eq-eqb (take_slot s).slot 0 (sym took ∙ h) in
        rw (room, z) (refl, left, tt)

    pub root_3 : {n m o : struct.Node} {u v : List ℕ} → old.0 < 2 ^ 64 → b < 2 ^ 64 → (slot ≡ 0 → ⊥) → n ≡ node_of 0 [] → m ≡ with_child n 0 old → o ≡ structs.inserted_at m 0 sep (child_of b)
        → u ≡ written_in t slot o → v ≡ set_root u slot (d + 1) → GrowsTo s old.0 d sep b (Ok Plain) v
    root_3 {n} {m} {o} {u} {v} os bs h pn pm po wrote set e k f =
        let z : eqb (take_slot s).slot 0 ≡ false = ne_eqb (take_slot s).slot 0 (λ y. h (took ∙ y)) in
        let made : o ≡ node_of old.0 ((e, b) ∷ []) = po ∙ rw (pm, pn, k) (one_node old b e f) in
        let fine : Writable old.0 ((e, b) ∷ []) = record { first = os; rest = (f, bs, tt); most = omega arith } in
        let written : u ≡ write_node (take_slot s).store (record { slot = (take_slot s).slot; first = old.0; rest = (e, b) ∷ [] }) = wrote ∙ rw (left, took, made) (written_chain (take_slot s).store (take_slot s).slot old.0 ((e, b) ∷ []) fine) in
        let one : d + 1 ≡ suc d = omega arith in
        rw (room, z) (refl, set ∙ rw (written, took, one), tt)

-- the arms of `grow`
module _ (s : List ℕ) (old d : ℕ) (o : Outcome) where
  abbrev Grows : Outcome → List ℕ → Type 0
  Grows r t = (g : M.Came) → o ≡ of_came g → FitCame g → Makes (grow_m old d s g) r t

  pub grow_bad : (e : BadBytes) → o ≡ Err e → Grows refused s
  grow_bad b h M.bad e f = (refl, refl, tt)
  grow_bad b h M.plain e f = absurd cc
  grow_bad b h (M.split y a) e f = absurd cc

  pub grow_1 : o ≡ Ok Plain → Grows (Ok Plain) s
  grow_1 h M.bad e f = absurd cc
  grow_1 h M.plain e f = (refl, refl, tt)
  grow_1 h (M.split y b) e f = absurd cc

  pub grow_2 : {right : Slot} {sep : Separator} {r : Outcome} {t : List ℕ} → o ≡ Ok (Split right sep) → GrowsTo s old d sep right.0 r t → Grows r t
  grow_2 h made M.bad e f = absurd cc
  grow_2 h made M.plain e f = absurd cc
  grow_2 {right} {sep} {r} {t} h made (M.split y b) e f =
      let at : right ≡ record { 0 = b } = cc in
      subst (λ (c : ℕ). Makes (grow_m old d s (M.split y c)) r t) (ap (λ (q : Slot). q.0) at) (made y (cc) f)

  -- no set comes back low
  pub grow_3 : o ≡ Ok Low → Grows refused s
  grow_3 h M.bad e f = absurd cc
  grow_3 h M.plain e f = absurd cc
  grow_3 h (M.split y b) e f = absurd cc

-- ---- the empty root

module _ (s : List ℕ) {root : ℕ} (there : root ≡ root_of s) where
  pub start_1 : (root ≡ 0 → ⊥) → s ≡ start_m s
  unfolding start_m
  start_1 h = let z : eqb (root_of s) 0 ≡ false = ne_eqb (root_of s) 0 (λ y. h (there ∙ y)) in rw z

  module _ (no : root ≡ 0) {slot : ℕ} {t : List ℕ} (took : slot ≡ (take_slot s).slot) (left : t ≡ (take_slot s).store) where
    none_there : eqb (root_of s) 0 ≡ true
    none_there = eq-eqb (root_of s) 0 (sym there ∙ no)

    pub start_2 : slot ≡ 0 → t ≡ start_m s
    unfolding start_m
    start_2 h = let z : eqb (take_slot s).slot 0 ≡ true = eq-eqb (take_slot s).slot 0 (sym took ∙ h) in rw (none_there, z) left

    pub start_3 : {n : struct.Node} {u v : List ℕ} → (slot ≡ 0 → ⊥) → n ≡ node_of 0 [] → u ≡ written_in t slot n → v ≡ set_root u slot 0 → v ≡ start_m s
    unfolding start_m
    start_3 {n} {u} h p wrote set =
        let z : eqb (take_slot s).slot 0 ≡ false = ne_eqb (take_slot s).slot 0 (λ y. h (took ∙ y)) in
        let fine : Writable 0 [] = record { first = omega arith; rest = tt; most = omega arith } in
        let written : u ≡ write_node (take_slot s).store (record { slot = (take_slot s).slot; first = 0; rest = [] }) = wrote ∙ rw (left, took, p) (written_chain (take_slot s).store (take_slot s).slot 0 [] fine) in
        rw (none_there, z) (set ∙ rw (written, took))

-- ---- the room test

module _ (s : List ℕ) (k : Key) (d x run : ℕ) {v : Sight} (saw : SawAt NotBelow d s x k v) where
  need_bad : not v.good ≡ true → need_m k (suc d) s x run ≡ none
  need_bad h = rw (sight_refused NotBelow s d x k saw h)

  module _ (good : not v.good ≡ false) where
    there : read_node_at d s x ≡ some (node_in s x)
    there = sight_read NotBelow s d x k saw good

    need_here_lem : v.found.at ≡ true → need_m k (suc d) s x run ≡ some 0
    need_here_lem h =
        let z : M.is_next k (at (below k) (node_in s x)).rgt ≡ true = sym (sight_at_lem s d x k saw good) ∙ h in
        rw (there, z)

    module _ (no : v.found.at ≡ false) where
      further : need_m k (suc d) s x run ≡ need_m k d s v.child.0 (cond (leb 8 (length (rest_in s x))) (suc run) 0)
      further =
          let z : M.is_next k (at (below k) (node_in s x)).rgt ≡ false = sym (sight_at_lem s d x k saw good) ∙ no in
          rw (there, z, sight_child s d x k saw good)

      need_few : v.count < 8 → need_m k (suc d) s x run ≡ need_m k d s v.child.0 0
      need_few h = let z : leb 8 (length (rest_in s x)) ≡ false = lt-leb 8 (length (rest_in s x)) (omega (arith, h, sight_count NotBelow s d x k saw good)) in further ∙ rw z

      need_full : 8 ≤ v.count → need_m k (suc d) s x run ≡ need_m k d s v.child.0 (run + 1)
      need_full h =
          let z : leb 8 (length (rest_in s x)) ≡ true = le-leb 8 (length (rest_in s x)) (omega (arith, h, sight_count NotBelow s d x k saw good)) in
          let one : run + 1 ≡ suc run = omega arith in
          further ∙ rw (z, one)

-- the loop of `slots_needed`: what the nodes from x down give, with the row of full ones so far, decides
unfoldable pub NeedLeft : List ℕ → Key → ℕ → ℕ → ℕ → ℕ → Type 0
NeedLeft s k top left x run = slots_needed_m s k ≡ whole_m (suc top) (need_m k left s x run)

pub need_start : (s : List ℕ) (k : Key) {top x : ℕ} → top ≡ depth_of s → x ≡ root_of s → NeedLeft s k top (top + 1) x 0
unfolding NeedLeft slots_needed_m
need_start s k {top} e f = let one : top + 1 ≡ suc top = omega arith in rw (one, e, f)

abbrev NeedsTo : List ℕ → Key → Result ℕ BadBytes → Type 0
NeedsTo s k r = depth_of s ≤ most_depth → r ≡ of_need (slots_needed_m s k)

module _ (s : List ℕ) (k : Key) (top left x run : ℕ) (so_far : NeedLeft s k top left x run) where
  module _ (more : 0 < left) {v : Sight} (saw : SawAt NotBelow (left - 1) s x k v) where
    down : left ≡ suc (left - 1)
    down = omega arith

    pub needed_refused : not v.good ≡ true → NeedsTo s k refused
    unfolding NeedLeft
    needed_refused h g = sym (ap of_need (so_far ∙ ap (λ (n : ℕ). whole_m (suc top) (need_m k n s x run)) down ∙ ap (whole_m (suc top)) (need_bad s k (left - 1) x run saw h)))

    module _ (good : not v.good ≡ false) where
      pub needed_found : v.found.at ≡ true → NeedsTo s k (Ok 0)
      unfolding NeedLeft
      needed_found h g = sym (ap of_need (so_far ∙ ap (λ (n : ℕ). whole_m (suc top) (need_m k n s x run)) down ∙ ap (whole_m (suc top)) (need_here_lem s k (left - 1) x run saw good h) ∙ none_whole))
        where
          none_whole : whole_m (suc top) (some 0) ≡ some 0
          none_whole = let z : eqb 0 (suc top) ≡ false = ne_eqb 0 (suc top) (λ y. absurd (omega arith)) in rw z

      module _ (no : v.found.at ≡ false) where
        pub needed_few : v.count < 8 → NeedLeft s k top (left - 1) v.child.0 0
        unfolding NeedLeft
        needed_few h = so_far ∙ ap (λ (n : ℕ). whole_m (suc top) (need_m k n s x run)) down ∙ ap (whole_m (suc top)) (need_few s k (left - 1) x run saw good no h)

        pub needed_full : 8 ≤ v.count → NeedLeft s k top (left - 1) v.child.0 (run + 1)
        unfolding NeedLeft
        needed_full h = so_far ∙ ap (λ (n : ℕ). whole_m (suc top) (need_m k n s x run)) down ∙ ap (whole_m (suc top)) (need_full s k (left - 1) x run saw good no h)

  module _ (end : left ≤ 0) where
    ended : slots_needed_m s k ≡ some (cond (eqb run (suc top)) (suc run) run)
    unfolding NeedLeft
    ended = let z : left ≡ 0 = omega arith in so_far ∙ ap (λ (n : ℕ). whole_m (suc top) (need_m k n s x run)) z

    pub needed_whole : run ≡ top + 1 → NeedsTo s k (Ok (run + 1))
    needed_whole h g =
        let z : eqb run (suc top) ≡ true = eq-eqb run (suc top) (omega arith) in
        let one : run + 1 ≡ suc run = omega arith in
        rw (ended, z, one)

    pub needed_part : (run ≡ top + 1 → ⊥) → NeedsTo s k (Ok run)
    needed_part h g = let z : eqb run (suc top) ≡ false = ne_eqb run (suc top) (λ y. h (omega arith)) in rw (ended, z)
