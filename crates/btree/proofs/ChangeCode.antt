-- Each way through the functions of `change` (a law NAME-k is of the k-th return): what they answer and leave is what the mirrors
-- (Mirror and RemoveMirror of `outcome`) say. Assumes nothing.
use mathlib.Core.Path.{◌≡◌, refl, sym, ap, subst, ◌∙◌}
use mathlib.Core.List.{List, [], ◌∷◌}
use mathlib.Core.Bool.{true, false, not}
use mathlib.Core.Option.{Option, none, some}
use Rattle.std.specs.Prelude.{Result, Ok, Err, ⊤}
use Prim.Native.Nat.{ℕ, zero, suc, ◌-◌, ◌≤◌, ◌<◌}
use lib.ListN.{length}
use native.Mathlib.Omega.{arith}
use borrow.Author.Tests.{not-true, not-false}
use Rattle.word.specs.Key.{Key}
use Rattle.tree.specs.Map.{Sep}
use Rattle.tree.specs.Tree.{Node, Zip, at, below, always, plug}
use Rattle.tree.proofs.Zipper.{seek_plug}
use Rattle.node.specs.declared.Separator.{Separator}
use Rattle.node.specs.declared.Slot.{Slot}
use Rattle.node.specs.Chain.{Step, longest_key, Fit}
use Rattle.node.specs.Edit.{separator_of}
use Rattle.slots.specs.Code.{first_in, rest_in, node_in, read_node_at}
use Rattle.search.specs.declared.Turn.TheVariants as turn
use Rattle.search.specs.declared.Sight.{Sight}
use Rattle.slots.specs.Search.{SawAt}
use Rattle.outcome.specs.declared.Came as code
use Rattle.outcome.specs.declared.Came.TheVariants.{Plain, Split, Low}
use Rattle.outcome.specs.declared.BadBytes.{BadBytes}
use Rattle.outcome.specs.declared.Taken.{Taken}
use Rattle.outcome.specs.Mirror as M
use Rattle.outcome.specs.Mirror.{insert_node_m, set_value_m, settled, insert_here, on_node, insert_m}
use Rattle.outcome.specs.RemoveMirror as R
use Rattle.outcome.specs.RemoveMirror.{close_m, rebalance_m, settled_low, remove_last_m, last_at_m, replace_on, replace_m, without_next, taken_m, remove_m}
use Rattle.outcome.specs.Outcome.{Outcome, refused, of_came, FitCame, Makes, of_fell, Does, taken_of, Lasts, RemovesHere, RemovesEnd, PutsIn, Settles, Replaces, Inserts, Removes}
use Rattle.outcome.proofs.ReadSight.{sight_refused, sight_read, sight_at_lem, sight_index, sight_child}
use Rattle.btree.proofs.ChangeSight.{sight_last_index, sight_last_child}

-- ---- what came with the largest entry

taken_is : (o : Taken) (y : Sep ℕ) (f : R.Fell) → Ok o ≡ taken_of y f → (Ok o.came ≡ of_fell f) × (o.separator ≡ separator_of y)
taken_is o y R.bad e = absurd cc
taken_is o y R.fine e = let h : o ≡ record { came = Plain; separator = separator_of y } = cc in (ap (λ (q : Taken). Ok q.came) h, ap (λ (q : Taken). q.separator) h)
taken_is o y R.low e = let h : o ≡ record { came = Low; separator = separator_of y } = cc in (ap (λ (q : Taken). Ok q.came) h, ap (λ (q : Taken). q.separator) h)

-- ---- what a node makes of what came of its child

module _ (d : ℕ) (s : List ℕ) (x i : ℕ) where
  -- by the case of what came
  module _ (o : code.Came) where
    pub settle_1 : o ≡ Plain → Settles d s x i o (Ok Plain) s
    settle_1 h = record { set = set; removed = lost }
      where
        set : (g : M.Came) → Ok o ≡ of_came g → FitCame g → Makes (settled d x i s g) (Ok Plain) s
        set M.bad e f = absurd cc
        set M.plain e f = (refl, refl, tt)
        set (M.split y b) e f = absurd cc

        lost : (f : R.Fell) → Ok o ≡ of_fell f → Does (settled_low d x i s f) (Ok Plain) s
        lost R.bad e = absurd cc
        lost R.fine e = (refl, refl)
        lost R.low e = absurd cc

    pub settle_2 : {right : Slot} {sep : Separator} {r : Outcome} {t : List ℕ} → o ≡ Split right sep
        → ((e : Sep ℕ) → sep ≡ separator_of e → Fit e → Makes (insert_node_m d s x i e right.0) r t) → Settles d s x i o r t
    settle_2 {right} {sep} {r} {t} h p = record { set = set; removed = lost }
      where
        set : (g : M.Came) → Ok o ≡ of_came g → FitCame g → Makes (settled d x i s g) r t
        set M.bad e f = absurd cc
        set M.plain e f = absurd cc
        set (M.split y b) e f =
            let at : right ≡ record { 0 = b } = cc in
            subst (λ (j : ℕ). Makes (insert_node_m d s x i y j) r t) (ap (λ (q : Slot). q.0) at) (p y (cc) f)

        lost : (f : R.Fell) → Ok o ≡ of_fell f → Does (settled_low d x i s f) r t
        lost R.bad e = absurd cc
        lost R.fine e = absurd cc
        lost R.low e = absurd cc

    pub settle_3 : {r : Outcome} {t : List ℕ} → o ≡ Low → Does (rebalance_m d s x i) r t → Settles d s x i o r t
    settle_3 {r} {t} h p = record { set = set; removed = lost }
      where
        set : (g : M.Came) → Ok o ≡ of_came g → FitCame g → Makes (settled d x i s g) r t
        set M.bad e f = absurd cc
        set M.plain e f = absurd cc
        set (M.split y b) e f = absurd cc

        lost : (f : R.Fell) → Ok o ≡ of_fell f → Does (settled_low d x i s f) r t
        lost R.bad e = absurd cc
        lost R.fine e = absurd cc
        lost R.low e = p

  -- bytes that are bad below are bad here
  set_bad : (g : M.Came) → refused ≡ of_came g → FitCame g → Makes (settled d x i s g) refused s
  set_bad M.bad e f = (refl, refl, tt)
  set_bad M.plain e f = absurd cc
  set_bad (M.split y b) e f = absurd cc

  lost_bad : (f : R.Fell) → refused ≡ of_fell f → Does (settled_low d x i s f) refused s
  lost_bad R.bad e = (refl, refl)
  lost_bad R.fine e = absurd cc
  lost_bad R.low e = absurd cc

  last_bad : (y : Sep ℕ) (f : R.Fell) (t : List ℕ) → refused ≡ taken_of y f → s ≡ t → Fit y → Lasts (R.last y (settled_low d x i t f)) refused s
  last_bad y R.bad t e q fit = (refl, q, fit)
  last_bad y R.fine t e q fit = absurd cc
  last_bad y R.low t e q fit = absurd cc

  -- ---- the largest entry in the place of a separator

  replace_bad : (w : Sep ℕ) (f : R.Fell) → refused ≡ taken_of w f → Does (replace_m d x i w f s) refused s
  replace_bad w R.bad e = (refl, refl)
  replace_bad w R.fine e = absurd cc
  replace_bad w R.low e = absurd cc

  -- what the answer of `put_separator` says of the mirror's node
  module _ (o : Taken) (p : Result ⊤ BadBytes) (t : List ℕ) (put : (w : Sep ℕ) → o.separator ≡ separator_of w → Fit w → PutsIn i w s (read_node_at d s x) p t) where
    on_put : {r : Outcome} {u : List ℕ} → ((w : Sep ℕ) (f : R.Fell) (m : Option (Node ℕ ℕ)) → PutsIn i w s m p t → Ok o.came ≡ of_fell f → Does (replace_on d x i w f s m) r u) → Replaces d s x i o r u
    unfolding Replaces
    on_put {r} {u} k w f e fit = go f e
      where
        go : (f : R.Fell) → Ok o ≡ taken_of w f → Does (replace_m d x i w f s) r u
        go R.bad e = absurd cc
        go R.fine e = let h = taken_is o w R.fine e in k w R.fine (read_node_at d s x) (put w h.1 fit) h.0
        go R.low e = let h = taken_is o w R.low e in k w R.low (read_node_at d s x) (put w h.1 fit) h.0

    pub replace_1 : p ≡ refused → Replaces d s x i o refused t
    replace_1 miss = on_put none_there
      where
        none_there : (w : Sep ℕ) (f : R.Fell) (m : Option (Node ℕ ℕ)) → PutsIn i w s m p t → Ok o.came ≡ of_fell f → Does (replace_on d x i w f s m) refused t
        none_there w f none v c = (refl, v.1)
        none_there w f (some m) v c = absurd (let k : refused {A = ⊤} ≡ Ok tt = sym miss ∙ v.0 in cc)

    pub replace_2 : {r : Outcome} {u : List ℕ} → p ≡ Ok tt → Settles d t x i o.came r u → Replaces d s x i o r u
    replace_2 {r} {u} hit q = on_put there
      where
        there : (w : Sep ℕ) (f : R.Fell) (m : Option (Node ℕ ℕ)) → PutsIn i w s m p t → Ok o.came ≡ of_fell f → Does (replace_on d x i w f s m) r u
        there w f none v c = absurd (let k : refused {A = ⊤} ≡ Ok tt = sym v.0 ∙ hit in cc)
        there w f (some m) v c = subst (λ (n : List ℕ). Does (settled_low d x i n f) r u) v.1 (q.removed f c)

-- one level down
down : (d : ℕ) → (d ≡ 0 → ⊥) → suc (d - 1) ≡ d
down zero h = absurd (h refl)
down (suc d) h = omega arith

-- ---- the largest entry

module _ (d : ℕ) (s : List ℕ) (x : ℕ) (key : Key) {p : Sight} (searched : SawAt turn.Last d s x key p) where
  pub last_1 : not p.good ≡ true → Lasts (remove_last_m (suc d) s x) refused s
  last_1 h = rw (sight_refused turn.Last s d x key searched h) (refl, refl)

  pub last_2 : (r : Result Taken BadBytes) (t : List ℕ) → not p.good ≡ false → d ≡ 0 → RemovesEnd s x r t → Lasts (remove_last_m (suc d) s x) r t
  unfolding RemovesEnd
  last_2 r t h z q =
      let w : read_node_at 0 s x ≡ some (node_in s x) = sym (ap (λ (n : ℕ). read_node_at n s x) z) ∙ sight_read turn.Last s d x key searched h in
      subst (λ (n : ℕ). Lasts (remove_last_m (suc n) s x) r t) (sym z) (rw w (q (node_in s x) w))

  module _ (h : not p.good ≡ false) (z : d ≡ 0 → ⊥) where
    abbrev ends : Zip ℕ ℕ
    ends = at always (node_in s x)

    -- by what came of the last child
    on_last : {o r : Result Taken BadBytes} {t u : List ℕ} → Lasts (remove_last_m (suc (d - 1)) s p.child.0) o t
        → ((L : R.Last) → Lasts L o t → Lasts (last_at_m d s x ends L) r u) → Lasts (remove_last_m (suc d) s x) r u
    on_last {o} {r} {t} l go =
        let below : Lasts (remove_last_m d s ends.mid) o t =
        subst (λ (j : ℕ). Lasts (remove_last_m d s j) o t) (sight_last_child s d x key searched h) (subst (λ (n : ℕ). Lasts (remove_last_m n s p.child.0) o t) (down d z) l) in
        rw (sight_read turn.Last s d x key searched h) (go (remove_last_m d s ends.mid) below)

    pub last_3 : (t : List ℕ) → Lasts (remove_last_m (suc (d - 1)) s p.child.0) refused t → Lasts (remove_last_m (suc d) s x) refused t
    last_3 t l = on_last l go
      where
        go : (L : R.Last) → Lasts L refused t → Lasts (last_at_m d s x ends L) refused t
        go R.nothing k = absurd k
        go (R.broken v) k = k
        go (R.last y g) k = last_bad d t x (length ends.lft) y g.out g.store k.0 k.1 k.2

    abbrev with_sep : Separator → Outcome → Result Taken BadBytes
    with_sep e (Ok c) = Ok (record { came = c; separator = e })
    with_sep e (Err b) = refused

    with_sep_lem : (e : Separator) (r : Outcome) (y : Sep ℕ) (f : R.Fell) → r ≡ of_fell f → e ≡ separator_of y → with_sep e r ≡ taken_of y f
    with_sep_lem e r y R.bad p q = rw p
    with_sep_lem e r y R.fine p q = rw (p, q)
    with_sep_lem e r y R.low p q = rw (p, q)

    pub last_4 : (o : Taken) (r : Outcome) (t u : List ℕ) → Lasts (remove_last_m (suc (d - 1)) s p.child.0) (Ok o) t → Settles d t x p.count o.came r u → Lasts (remove_last_m (suc d) s x) (with_sep o.separator r) u
    last_4 o r t u l q = on_last l go
      where
        go : (L : R.Last) → Lasts L (Ok o) t → Lasts (last_at_m d s x ends L) (with_sep o.separator r) u
        go R.nothing k = absurd k
        go (R.broken v) k = absurd (let e : Ok o ≡ refused = k.0 in cc)
        go (R.last y g) k =
            let e = taken_is o y g.out k.0 in
            let w : Does (settled_low d x p.count g.store g.out) r u = subst (λ (v : List ℕ). Does (settled_low d x p.count v g.out) r u) k.1 (q.removed g.out e.0) in
            let w2 : Does (settled_low d x (length ends.lft) g.store g.out) r u = subst (λ (j : ℕ). Does (settled_low d x j g.store g.out) r u) (sight_last_index s d x key searched h) w in
            (with_sep_lem o.separator r y (settled_low d x (length ends.lft) g.store g.out).out w2.0 e.1, w2.1, k.2)

-- ---- where a key belongs

module _ (d : ℕ) (s : List ℕ) (x : ℕ) (k : Key) {p : Sight} (searched : SawAt turn.NotBelow d s x k p) where
  pub insert_1 : (v : ℕ) → not p.good ≡ true → Inserts d s x k v refused s
  unfolding Inserts
  insert_1 v h pos short = rw (sight_refused turn.NotBelow s d x k searched h) (refl, refl, tt)

  pub existing_1 : not p.good ≡ true → Removes d s x k refused s
  unfolding Removes
  existing_1 h = rw (sight_refused turn.NotBelow s d x k searched h) (refl, refl)

  module _ (h : not p.good ≡ false) where
    abbrev zip : Zip ℕ ℕ
    zip = at (below k) (node_in s x)

    there : read_node_at d s x ≡ some (node_in s x)
    there = sight_read turn.NotBelow s d x k searched h

    found_lem : p.found.at ≡ M.is_next k zip.rgt
    found_lem = sight_at_lem s d x k searched h

    index_lem : p.found.index.0 ≡ length zip.lft
    index_lem = sight_index s d x k searched h

    child : p.child.0 ≡ zip.mid
    child = sight_child s d x k searched h

    -- ---- a set

    module _ (v : ℕ) where
      abbrev sep : Sep ℕ
      sep = record { key = k; val = v }

      pub insert_2 : (r : Outcome) (t : List ℕ) → p.found.at ≡ true → (0 < v → Makes (set_value_m p.found.index.0 v x s (read_node_at d s x)) r t) → Inserts d s x k v r t
      unfolding Inserts
      insert_2 r t hit q pos short =
          let z : M.is_next k zip.rgt ≡ true = sym found_lem ∙ hit in
          let w : Makes (set_value_m (length zip.lft) v x s (read_node_at d s x)) r t = subst (λ (j : ℕ). Makes (set_value_m j v x s (read_node_at d s x)) r t) index_lem (q pos) in
          let w2 : Makes (insert_here (λ c. insert_m sep d s c) sep d s x zip) r t = rw z w in
          subst (λ (m : Option (Node ℕ ℕ)). Makes (on_node (λ c. insert_m sep d s c) sep d s x m) r t) (sym there) w2

      set_leaf : (d : ℕ) (r : Outcome) (t : List ℕ) → d ≡ 0 → read_node_at d s x ≡ some (node_in s x) → M.is_next k zip.rgt ≡ false → Makes (insert_node_m d s x (length zip.lft) sep 0) r t → Makes (insert_m sep (suc d) s x) r t
      set_leaf zero r t z m n w = rw (m, n) w
      set_leaf (suc d) r t z m n w = absurd (omega arith)

      pub insert_3 : (r : Outcome) (t : List ℕ) → p.found.at ≡ false → d ≡ 0 → (0 < v → length k ≤ longest_key → Makes (insert_node_m 0 s x p.found.index.0 sep 0) r t) → Inserts d s x k v r t
      unfolding Inserts
      insert_3 r t miss z q pos short =
          let n : M.is_next k zip.rgt ≡ false = sym found_lem ∙ miss in
          let w : Makes (insert_node_m d s x p.found.index.0 sep 0) r t = subst (λ (m : ℕ). Makes (insert_node_m m s x p.found.index.0 sep 0) r t) (sym z) (q pos short) in
          set_leaf d r t z there n (subst (λ (j : ℕ). Makes (insert_node_m d s x j sep 0) r t) index_lem w)

      set_below_lem : (o r : Outcome) (t u : List ℕ) → p.found.at ≡ false → (d ≡ 0 → ⊥) → Inserts (d - 1) s p.child.0 k v o t → ((g : M.Came) → o ≡ of_came g → FitCame g → Makes (settled d x p.found.index.0 t g) r u) → Inserts d s x k v r u
      unfolding Inserts
      set_below_lem o r t u miss z q l pos short =
          let n : M.is_next k zip.rgt ≡ false = sym found_lem ∙ miss in
          let g : M.Ran = insert_m sep d s zip.mid in
          let w : Makes g o t =
          subst (λ (j : ℕ). Makes (insert_m sep d s j) o t) child (subst (λ (m : ℕ). Makes (insert_m sep m s p.child.0) o t) (down d z) (q pos short)) in
          let y : Makes (settled d x p.found.index.0 t g.out) r u = l g.out w.0 w.2 in
          let y2 : Makes (settled d x (length zip.lft) g.store g.out) r u =
          subst (λ (j : ℕ). Makes (settled d x j g.store g.out) r u) index_lem (subst (λ (v : List ℕ). Makes (settled d x p.found.index.0 v g.out) r u) w.1 y) in
          rw (there, n) y2

      pub insert_4 : (t : List ℕ) → p.found.at ≡ false → (d ≡ 0 → ⊥) → Inserts (d - 1) s p.child.0 k v refused t → Inserts d s x k v refused t
      insert_4 t miss z q = set_below_lem refused refused t t miss z q (set_bad d t x p.found.index.0)

      pub insert_5 : (o : code.Came) (r : Outcome) (t u : List ℕ) → p.found.at ≡ false → (d ≡ 0 → ⊥) → Inserts (d - 1) s p.child.0 k v (Ok o) t → Settles d t x p.found.index.0 o r u → Inserts d s x k v r u
      insert_5 o r t u miss z q l = set_below_lem (Ok o) r t u miss z q (λ g e fit. l.set g e fit)

    -- ---- a dereference

    pub existing_2 : not p.found.at ≡ true → d ≡ 0 → Removes d s x k (Ok Plain) s
    unfolding Removes
    existing_2 miss z = leaf d z there (sym found_lem ∙ not-true p.found.at miss)
      where
        leaf : (d : ℕ) → d ≡ 0 → read_node_at d s x ≡ some (node_in s x) → M.is_next k zip.rgt ≡ false → Does (remove_m k (suc d) s x) (Ok Plain) s
        leaf zero z m n = rw (m, n) (refl, refl)
        leaf (suc d) z m n = absurd (omega arith)

    lost_below : (o r : Outcome) (t u : List ℕ) → not p.found.at ≡ true → (d ≡ 0 → ⊥) → Removes (d - 1) s p.child.0 k o t
        → ((e : R.Fell) → o ≡ of_fell e → Does (settled_low d x p.found.index.0 t e) r u) → Removes d s x k r u
    unfolding Removes
    lost_below o r t u miss z q l =
        let n : M.is_next k zip.rgt ≡ false = sym found_lem ∙ not-true p.found.at miss in
        let g : R.Lost = remove_m k d s zip.mid in
        let w : Does g o t = subst (λ (j : ℕ). Does (remove_m k d s j) o t) child (subst (λ (m : ℕ). Does (remove_m k m s p.child.0) o t) (down d z) q) in
        let y : Does (settled_low d x p.found.index.0 t g.out) r u = l g.out w.0 in
        let y2 : Does (settled_low d x (length zip.lft) g.store g.out) r u =
        subst (λ (j : ℕ). Does (settled_low d x j g.store g.out) r u) index_lem (subst (λ (v : List ℕ). Does (settled_low d x p.found.index.0 v g.out) r u) w.1 y) in
        rw (there, n) y2

    pub existing_3 : (t : List ℕ) → not p.found.at ≡ true → (d ≡ 0 → ⊥) → Removes (d - 1) s p.child.0 k refused t → Removes d s x k refused t
    existing_3 t miss z q = lost_below refused refused t t miss z q (lost_bad d t x p.found.index.0)

    pub existing_4 : (o : code.Came) (r : Outcome) (t u : List ℕ) → not p.found.at ≡ true → (d ≡ 0 → ⊥) → Removes (d - 1) s p.child.0 k (Ok o) t → Settles d t x p.found.index.0 o r u → Removes d s x k r u
    existing_4 o r t u miss z q l = lost_below (Ok o) r t u miss z q (λ e h. l.removed e h)

    pub existing_5 : (r : Outcome) (t : List ℕ) → not p.found.at ≡ false → d ≡ 0 → RemovesHere s x p.found.index.0 r t → Removes d s x k r t
    unfolding Removes RemovesHere
    existing_5 r t hit z q = leaf d z there (sym found_lem ∙ not-false p.found.at hit)
      where
        gone_lem : (l : List (ℕ × Sep ℕ)) (m : ℕ) (g : List Step) → read_node_at 0 s x ≡ some (plug x l m g) → p.found.index.0 ≡ length l → M.is_next k g ≡ true → Does (close_m s (without_next x l m g)) r t
        gone_lem l m [] e i n = absurd (let z : ◌≡◌ {A = ℕ} 0 1 = cc in omega arith)
        gone_lem l m (y ∷ g) e i n = q l m y g e i

        leaf : (d : ℕ) → d ≡ 0 → read_node_at d s x ≡ some (node_in s x) → M.is_next k zip.rgt ≡ true → Does (remove_m k (suc d) s x) r t
        leaf zero z m n = rw (m, n) (gone_lem zip.lft zip.mid zip.rgt (m ∙ ap some (sym (seek_plug (below k) x [] (first_in s x) (rest_in s x)))) index_lem n)
        leaf (suc d) z m n = absurd (omega arith)

    -- by what came of the left child's largest entry
    on_taken : {o : Result Taken BadBytes} {r : Outcome} {t u : List ℕ} → not p.found.at ≡ false → (d ≡ 0 → ⊥) → Lasts (remove_last_m (suc (d - 1)) s p.child.0) o t
        → ((L : R.Last) → Lasts L o t → Does (taken_m d s x zip L) r u) → Removes d s x k r u
    unfolding Removes
    on_taken {o} {r} {t} hit z l go =
        let n : M.is_next k zip.rgt ≡ true = sym found_lem ∙ not-false p.found.at hit in
        let below : Lasts (remove_last_m d s zip.mid) o t = subst (λ (j : ℕ). Lasts (remove_last_m d s j) o t) child (subst (λ (m : ℕ). Lasts (remove_last_m m s p.child.0) o t) (down d z) l) in
        rw (there, n) (go (remove_last_m d s zip.mid) below)

    pub existing_6 : (t : List ℕ) → not p.found.at ≡ false → (d ≡ 0 → ⊥) → Lasts (remove_last_m (suc (d - 1)) s p.child.0) refused t → Removes d s x k refused t
    existing_6 t hit z l = on_taken hit z l go
      where
        go : (L : R.Last) → Lasts L refused t → Does (taken_m d s x zip L) refused t
        go R.nothing e = absurd e
        go (R.broken v) e = (refl, e.1)
        go (R.last y g) e = subst (λ (v : List ℕ). Does (replace_m d x (length zip.lft) y g.out v) refused t) e.1 (replace_bad d t x (length zip.lft) y g.out e.0)

    pub existing_7 : (o : Taken) (r : Outcome) (t u : List ℕ) → not p.found.at ≡ false → (d ≡ 0 → ⊥) → Lasts (remove_last_m (suc (d - 1)) s p.child.0) (Ok o) t → Replaces d t x p.found.index.0 o r u → Removes d s x k r u
    unfolding Replaces
    existing_7 o r t u hit z l q = on_taken hit z l go
      where
        go : (L : R.Last) → Lasts L (Ok o) t → Does (taken_m d s x zip L) r u
        go R.nothing e = absurd e
        go (R.broken v) e = absurd (let k : Ok o ≡ refused = e.0 in cc)
        go (R.last y g) e =
            subst (λ (j : ℕ). Does (replace_m d x j y g.out g.store) r u) index_lem (subst (λ (v : List ℕ). Does (replace_m d x p.found.index.0 y g.out v) r u) e.1 (q y g.out e.0 e.2))
