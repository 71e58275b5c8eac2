-- Each way through the functions of `records` (a law NAME-k is of the k-th return): what they answer and leave is what the
-- mirrors (RunMirror of `outcome`) say. Assumes nothing.
use mathlib.Core.Path.{◌≡◌, refl, sym, ap, subst, ◌∙◌}
use mathlib.Core.List.{List}
use mathlib.Core.Bool.{Bool, true, false}
use mathlib.Core.Option.{Option, none, some}
use Rattle.std.specs.Prelude.{Result, Ok}
use Prim.Native.Nat.{ℕ, suc, ◌+◌, ◌≤◌, ◌<◌}
use lib.ListN.{length}
use lib.Dec.{leb}
use native.Mathlib.Omega.{arith}
use borrow.Author.Tests.{le-leb, lt-leb}
use Rattle.word.specs.Key.{Key}
use Rattle.tree.specs.Map.{Sep}
use Rattle.tree.proofs.Cases.{by_bool}
use Rattle.node.specs.declared.Separator.{Separator}
use Rattle.node.specs.declared.Slot.{Slot}
use Rattle.node.specs.Chain.{longest_key}
use Rattle.slots.specs.Limits.{most_depth}
use Rattle.slots.specs.Layout.{root_of, depth_of, first_of}
use Rattle.slots.specs.Code.{has_free}
use Rattle.std.specs.Prelude as std
use Rattle.std.specs.Prelude.{Some, None, Ok, Err, IfSome}
use Rattle.node.specs.declared.Value.{Value}
use Rattle.changes.specs.Records.{op_of}
use Rattle.outcome.specs.declared.Came as code
use Rattle.outcome.specs.declared.Came.TheVariants.{Plain, Split, Low}
use Rattle.outcome.specs.declared.BadBytes as outcome
use Rattle.btree.specs.declared.records.RunError.{RunError}
use Rattle.btree.specs.declared.records.RunError.TheVariants.{BadBytes, NoRoom}
use Rattle.outcome.specs.Mirror as S
use Rattle.outcome.specs.Mirror.{insert_m, grow_m, set_m}
use Rattle.outcome.specs.RemoveMirror as R
use Rattle.outcome.specs.RemoveMirror.{remove_m, shrink_m, remove_key_m}
use Rattle.outcome.specs.RunMirror as M
use Rattle.outcome.specs.RunMirror.{Did, slots_needed_m, act_on, act_m}
use Rattle.outcome.specs.Outcome.{Outcome, refused, of_came, FitCame, Makes, of_fell, Does, Inserts, Removes, of_need}
use Rattle.btree.specs.RunCode.{Acted, acted_of, Acts, finished, room_for, room_in, set_key, remove_key}
use Rattle.btree.proofs.RoomChain.{set_with_room}

-- ---- the room test

module _ (s : List ℕ) (k : Key) {r : Result ℕ outcome.BadBytes} (need : depth_of s ≤ most_depth → r ≡ of_need (slots_needed_m s k)) where
  abbrev RoomTo : Acted → Type 0
  RoomTo a = depth_of s ≤ most_depth → a ≡ room_in s k

  pub room_1 : (e : outcome.BadBytes) → r ≡ Err e → RoomTo (Err BadBytes)
  unfolding room_in
  room_1 b h low = go (slots_needed_m s k) (sym h ∙ need low)
    where
      go : (o : Option ℕ) → Err b ≡ of_need o → Err BadBytes ≡ room_for s o
      go none e = refl
      go (some m) e = absurd cc

  module _ (n : ℕ) (h : r ≡ Ok n) {b : Bool} (free : b ≡ has_free n s (first_of s)) where
    slots_are : depth_of s ≤ most_depth → slots_needed_m s k ≡ some n
    slots_are low = go (slots_needed_m s k) (sym h ∙ need low)
      where
        go : (o : Option ℕ) → Ok n ≡ of_need o → o ≡ some n
        go none e = absurd cc
        go (some m) e = cc

    pub room_2 : b ≡ true → RoomTo (Ok tt)
    unfolding room_in
    room_2 t low = rw (slots_are low, sym free ∙ t)

    pub room_3 : b ≡ false → RoomTo (Err NoRoom)
    unfolding room_in
    room_3 t low = rw (slots_are low, sym free ∙ t)

-- ---- a set and a dereference from the root

finish_came : (o : Outcome) (g : S.Came) → o ≡ of_came g → finished o ≡ acted_of (M.of_came g)
finish_came o S.bad e = ap finished e
finish_came o S.plain e = ap finished e
finish_came o (S.split y b) e = ap finished e

finish_fell : (o : Outcome) (g : R.Fell) → o ≡ of_fell g → finished o ≡ acted_of (M.of_fell g)
finish_fell o R.bad e = ap finished e
finish_fell o R.fine e = ap finished e
finish_fell o R.low e = ap finished e

module _ (s : List ℕ) (k : Key) {root depth : ℕ} (top : root ≡ root_of s) (deep : depth ≡ depth_of s) where
  -- at the root, after a set that left t and of which g came
  abbrev grown : List ℕ → S.Came → Did
  grown t g = record { out = M.of_came (grow_m root depth t g).out; store = (grow_m root depth t g).store }

  module _ (v : ℕ) where
    on_set : {o : Outcome} {r : Acted} {t u : List ℕ} → Inserts depth s root k v o t → ((g : S.Came) → o ≡ of_came g → FitCame g → Acts (grown t g) r u)
        → 0 < v → length k ≤ longest_key → Acts (set_key s k v) r u
    unfolding set_key set_m Inserts
    on_set {o} {r} {t} {u} ins go pos short =
        let g : S.Ran = insert_m (record { key = k; val = v }) (suc depth) s root in
        let a : Makes g o t = ins pos short in
        let b : Acts (grown g.store g.out) r u = subst (λ (w : List ℕ). Acts (grown w g.out) r u) a.1 (go g.out a.0 a.2) in
        rw (← top, ← deep) b

    pub set_lem : (o p : Outcome) (t u : List ℕ) (r : Acted) → Inserts depth s root k v o t → ((g : S.Came) → o ≡ of_came g → FitCame g → Makes (grow_m root depth t g) p u)
        → r ≡ finished p → 0 < v → length k ≤ longest_key → Acts (set_key s k v) r u
    set_lem o p t u r ins grow end = on_set ins (λ g e f. let b : Makes (grow_m root depth t g) p u = grow g e f in (end ∙ finish_came p (grow_m root depth t g).out b.0, b.1))

  -- the same after a dereference
  abbrev shrunk : List ℕ → R.Fell → Did
  shrunk t f = record { out = M.of_fell (shrink_m root depth t f).out; store = (shrink_m root depth t f).store }

  on_removed : {o : Outcome} {r : Acted} {t u : List ℕ} → Removes depth s root k o t → ((f : R.Fell) → o ≡ of_fell f → Acts (shrunk t f) r u) → Acts (remove_key s k) r u
  unfolding remove_key remove_key_m Removes
  on_removed {o} {r} {t} {u} rem go =
      let g : R.Lost = remove_m k (suc depth) s root in
      let b : Acts (shrunk g.store g.out) r u = subst (λ (w : List ℕ). Acts (shrunk w g.out) r u) rem.1 (go g.out rem.0) in
      rw (← top, ← deep) b

  pub remove_1 : (t : List ℕ) → Removes depth s root k refused t → Acts (remove_key s k) (Err BadBytes) t
  remove_1 t rem = on_removed rem go
    where
      go : (f : R.Fell) → refused ≡ of_fell f → Acts (shrunk t f) (Err BadBytes) t
      go R.bad e = (refl, refl)
      go R.fine e = absurd cc
      go R.low e = absurd cc

  module _ (c : code.Came) (t : List ℕ) (rem : Removes depth s root k (Ok c) t) where
    pub remove_2 : c ≡ Plain → Acts (remove_key s k) (Ok tt) t
    remove_2 h = on_removed rem go
      where
        go : (f : R.Fell) → Ok c ≡ of_fell f → Acts (shrunk t f) (Ok tt) t
        go R.bad e = absurd cc
        go R.fine e = (refl, refl)
        go R.low e = absurd cc

    -- no dereference splits
    pub remove_3 : (right : Slot) (sep : Separator) → c ≡ Split right sep → Acts (remove_key s k) (Err BadBytes) t
    remove_3 right sep h = on_removed rem go
      where
        go : (f : R.Fell) → Ok c ≡ of_fell f → Acts (shrunk t f) (Err BadBytes) t
        go R.bad e = absurd cc
        go R.fine e = absurd cc
        go R.low e = absurd cc

    pub remove_4 : (p : Outcome) (u : List ℕ) (r : Acted) → c ≡ Low → Does (shrink_m root depth t R.low) p u → r ≡ finished p → Acts (remove_key s k) r u
    remove_4 p u r h d end = on_removed rem go
      where
        go : (f : R.Fell) → Ok c ≡ of_fell f → Acts (shrunk t f) r u
        go R.bad e = absurd cc
        go R.fine e = absurd cc
        go R.low e = (end ∙ finish_fell p (shrink_m root depth t R.low).out d.0, d.1)

-- ---- one run

module _ (s : List ℕ) (k : Key) (value : std.Option Value) {depth : ℕ} (deep : depth ≡ depth_of s) where
  abbrev ActsTo : Acted → List ℕ → Type 0
  ActsTo r t = IfSome value (λ v. 0 < v.0) → length k ≤ longest_key → Acts (act_m s k (op_of value)) r t

  pub act_1 : 7 < depth → ActsTo (Err BadBytes) s
  unfolding act_m
  act_1 h pos short = let z : leb (depth_of s) most_depth ≡ false = lt-leb (depth_of s) most_depth (omega (arith, deep)) in rw z (refl, refl)

  module _ (h : depth ≤ 7) where
    low : depth_of s ≤ most_depth
    low = omega (arith, deep)

    on : (o : Option ℕ) → act_m s k o ≡ act_on s k o
    unfolding act_m
    on o = let z : leb (depth_of s) most_depth ≡ true = le-leb (depth_of s) most_depth low in rw z

    removing : act_on s k none ≡ remove_key s k
    unfolding remove_key
    removing = refl

    pub act_2 : (r : Acted) (t : List ℕ) → value ≡ None → Acts (remove_key s k) r t → ActsTo r t
    act_2 r t e a pos short = subst (λ (g : Did). Acts g r t) (sym (ap (λ (o : std.Option Value). act_m s k (op_of o)) e ∙ on none ∙ removing)) a

    module _ (v : Value) (e : value ≡ Some v) where
      abbrev sep : Sep ℕ
      sep = record { key = k; val = v.0 }

      setting : act_m s k (op_of value) ≡ M.set_if s sep (slots_needed_m s k)
      setting = ap (λ (o : std.Option Value). act_m s k (op_of o)) e ∙ on (some v.0)

      there : IfSome value (λ (v : Value). 0 < v.0) → 0 < v.0
      there p = subst (λ (o : std.Option Value). IfSome o (λ (v : Value). 0 < v.0)) e p

      setting_free : has_free (depth + 2) s (first_of s) ≡ true → M.set_if s sep (slots_needed_m s k) ≡ set_key s k v.0
      unfolding set_key
      setting_free free = set_with_room sep s (rw (← deep) free)

      pub act_3 : (r : Acted) (t : List ℕ) {b : Bool} → b ≡ has_free (depth + 2) s (first_of s) → b ≡ true → (0 < v.0 → length k ≤ longest_key → Acts (set_key s k v.0) r t) → ActsTo r t
      act_3 r t free q a pos short = subst (λ (g : Did). Acts g r t) (sym (setting ∙ setting_free (sym free ∙ q))) (a (there pos) short)

      module _ {room : Acted} (test : depth_of s ≤ most_depth → room ≡ room_in s k) where
        is : (a : Acted) → room ≡ a → a ≡ room_for s (slots_needed_m s k)
        is a q = sym q ∙ test low ∙ unfold room_in in refl

        pub act_4 : (r : Acted) (t : List ℕ) → room ≡ Ok tt → (0 < v.0 → length k ≤ longest_key → Acts (set_key s k v.0) r t) → ActsTo r t
        act_4 r t q a pos short = subst (λ (g : Did). Acts g r t) (sym setting) (go (slots_needed_m s k) (is (Ok tt) q))
          where
            done : Acts (set_key s k v.0) r t
            done = a (there pos) short

            go : (o : Option ℕ) → Ok tt ≡ room_for s o → Acts (M.set_if s sep o) r t
            go none n = absurd (cc)
            go (some m) n = by_bool (has_free m s (first_of s)) (λ h. rw h (unfold set_key in done)) (λ h. absurd (let w = rw h at n in cc))

        pub act_5 : (d : RunError) → room ≡ Err d → ActsTo (Err d) s
        act_5 d q pos short = subst (λ (g : Did). Acts g (Err d) s) (sym setting) (go (slots_needed_m s k) (is (Err d) q))
          where
            go : (o : Option ℕ) → Err d ≡ room_for s o → Acts (M.set_if s sep o) (Err d) s
            go none n = (n, refl)
            go (some m) n = by_bool (has_free m s (first_of s)) (λ h. absurd (let w = rw h at n in cc)) (λ h. rw h (rw h at n, refl))
