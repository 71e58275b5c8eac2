-- 02, C-16: "The audit and the walks change to the strict one; only lookup and cursor answers on unaudited stores change". Nodes
-- in slots were read by the lenient reading, `decode`, and are read by the strict one, `strict_of`. Here stand the calls as they
-- were, and which slots they read: a lookup or a step answers as before, unless it reads a sloppy slot, whose bytes the lenient
-- reading takes and the strict one refuses; then it is 8. Read the definitions, then the theorems at the end. Assumes nothing.
use mathlib.Core.Path.{◌≡◌, refl, sym, ap, ◌∙◌, fun_ext}
use mathlib.Core.Logic.{◌⊎◌, inl, inr}
use mathlib.Core.List.{List, [], ◌∷◌}
use mathlib.Core.Bool.{Bool, true, false, cond, ◌&&◌, not}
use mathlib.Core.Option.{Option, none, some}
use Rattle.std.specs.Prelude.{None, Ok, Err}
use Prim.Native.Nat.{ℕ, zero, suc}
use lib.ListN.{length}
use lib.Dec.{ltb, eqb}
use native.Mathlib.Omega.{arith}
use Rattle.word.specs.Pick.{pick, pick_t, pick_f, by_test}
use Rattle.word.specs.Key.{Key}
use Rattle.tree.specs.Map.{Sep}
use Rattle.tree.specs.Tree.{Node, Zip, at, below, same}
use Rattle.tree.specs.Walk.{after, before}
use Rattle.tree.proofs.Cases.{by_bool}
use Rattle.node.specs.Chain.{Step, longest_key}
use Rattle.codec.specs.Codec.{Standard, Decoded, accepted, decode}
use Rattle.codec.specs.Strict.{is_strict, strict_end, strict_of}
use Rattle.codec.specs.Layout.{any_of}
use Rattle.codec.proofs.StrictLaws.{strict_encode, strict_lenient}
use Rattle.slots.specs.Limits.{most_depth}
use Rattle.slots.specs.Layout.{is_store, root_of, depth_of}
use Rattle.slots.specs.Mirror.{node_bytes, holds_node, read_of, read_node}
use Rattle.slots.specs.Code.{when_fit, read_node_at}
use Rattle.iter.specs.declared.Place.{Place}
use Rattle.iter.specs.declared.Place.TheVariants.{Start, End, At, Seeked}
use Rattle.iter.specs.declared.Cursor.{Cursor}
use Rattle.iter.specs.declared.Stepped.{Stepped}
use Rattle.iter.specs.declared.WalkError.TheVariants.{NotStore, LongKey, Bad}
use Rattle.iter.specs.Answer.{Answer}
use Rattle.iter.specs.Walk.{lookup_number, found_here, look_on, look_from, lookup_of, Walked, bad, walked, on_forward, on_backward, forward_from, backward_from}
use Rattle.iter.specs.Cursor.{step_number, is_long, passed_forward, passed_backward, moved_to, stepped_of, walk_forward, walk_backward, forward_of, backward_of}

-- ---- the node in a slot, as it was read

-- the node that the lenient reading finds in a slot: the text of `read_node` before the request
unfoldable pub lenient_node : List ℕ → ℕ → Option (Node ℕ ℕ)
lenient_node s x = cond (holds_node s x) (read_of x (decode (node_bytes s x))) none

unfoldable pub lenient_at : ℕ → List ℕ → ℕ → Option (Node ℕ ℕ)
lenient_at d s x = when_fit d (lenient_node s x)

abbrev pub is_some : Option (Node ℕ ℕ) → Bool
is_some none = false
is_some (some m) = true

-- whether the lenient reading takes the bytes in a slot and the strict one refuses them
unfoldable pub is_sloppy : List ℕ → ℕ → Bool
is_sloppy s x = is_some (lenient_node s x) && not (is_some (read_node s x))

abbrev pub any_sloppy : List ℕ → List ℕ → Bool
any_sloppy s l = any_of (is_sloppy s) l

-- ---- the calls, over any reading of the node in a slot

-- "Forward End and backward Start answer none .. reading no node."
abbrev pub is_end : Place → Bool
is_end Start = false
is_end End = true
is_end (At n) = false
is_end (Seeked n) = false

abbrev pub is_start : Place → Bool
is_start Start = true
is_start End = false
is_start (At n) = false
is_start (Seeked n) = false

-- the texts of Walk and Cursor with `read` in place of `read_node_at`: over that one they are those calls (`lookup_by_lem` and on)
module _ (read : ℕ → List ℕ → ℕ → Option (Node ℕ ℕ)) where
  unfoldable pub look_by : Key → ℕ → List ℕ → ℕ → Answer
  look_by k zero s x = Ok None
  look_by k (suc d) s x = look_on k (look_by k d s) (read d s x)

  unfoldable pub forward_by : (Sep ℕ → Bool) → ℕ → List ℕ → ℕ → Option (Sep ℕ) → Walked
  forward_by p zero s x c = walked c
  forward_by p (suc d) s x c = on_forward p (forward_by p d s) c (read d s x)

  unfoldable pub backward_by : (Sep ℕ → Bool) → ℕ → List ℕ → ℕ → Option (Sep ℕ) → Walked
  backward_by p zero s x c = walked c
  backward_by p (suc d) s x c = on_backward p (backward_by p d s) c (read d s x)

  unfoldable pub lookup_by : List ℕ → Key → Answer
  lookup_by s k =
      pick (is_store s)
      (pick (ltb longest_key (length k)) (Err LongKey)
      (pick (ltb most_depth (depth_of s)) (Err Bad)
      (pick (eqb (root_of s) 0) (Ok None)
      (look_by k (suc (depth_of s)) s (root_of s)))))
      (Err NotStore)

  unfoldable pub stepped_forward_by : List ℕ → Cursor → Stepped
  stepped_forward_by s c =
      stepped_of s c End (pick (is_end c.place) (walked none) (forward_by (passed_forward c c.place) (suc (depth_of s)) s (root_of s) none))

  unfoldable pub stepped_backward_by : List ℕ → Cursor → Stepped
  stepped_backward_by s c =
      stepped_of s c Start (pick (is_start c.place) (walked none) (backward_by (passed_backward c c.place) (suc (depth_of s)) s (root_of s) none))

-- the calls as they were
abbrev pub lenient_lookup : List ℕ → Key → Answer
lenient_lookup = lookup_by lenient_at

abbrev pub lenient_forward_of : List ℕ → Cursor → Stepped
lenient_forward_of = stepped_forward_by lenient_at

abbrev pub lenient_backward_of : List ℕ → Cursor → Stepped
lenient_backward_of = stepped_backward_by lenient_at

-- ---- the slots that they read, from the root down

-- p: which separators the walk passes; stops: whether it ends in this node, by the separators behind the turn
module _ (p : Sep ℕ → Bool) (stops : List Step → Bool) where
  abbrev pub reads_on : (ℕ → List ℕ) → Option (Node ℕ ℕ) → List ℕ
  reads_on rec none = []
  reads_on rec (some m) = let z : Zip ℕ ℕ = at p m in cond (stops z.rgt) [] (rec z.mid)

  unfoldable pub reads_from : ℕ → List ℕ → ℕ → List ℕ
  reads_from zero s x = []
  reads_from (suc d) s x = x ∷ reads_on (reads_from d s) (lenient_at d s x)

-- lookup ends at a separator with its key, a step in no node
abbrev pub stops_at : Key → List Step → Bool
stops_at k [] = false
stops_at k (x ∷ r) = same k x.0

abbrev pub stops_nowhere : List Step → Bool
stops_nowhere r = false

-- "Lookup and cursor: 1, 4, 8." "A depth above 7 is 8, root or not; otherwise no root means absent": then nothing is read; l is
-- what the walk from the root reads
unfoldable pub reads_of : List ℕ → Bool → List ℕ → List ℕ
reads_of s long l =
    pick (is_store s)
    (pick long []
    (pick (ltb most_depth (depth_of s)) []
    (pick (eqb (root_of s) 0) [] l)))
    []

unfoldable pub lookup_reads : List ℕ → Key → List ℕ
lookup_reads s k = reads_of s (ltb longest_key (length k)) (reads_from (below k) (stops_at k) (suc (depth_of s)) s (root_of s))

unfoldable pub forward_reads : List ℕ → Cursor → List ℕ
forward_reads s c =
    reads_of s (is_long c.place) (pick (is_end c.place) [] (reads_from (passed_forward c c.place) stops_nowhere (suc (depth_of s)) s (root_of s)))

unfoldable pub backward_reads : List ℕ → Cursor → List ℕ
backward_reads s c =
    reads_of s (is_long c.place) (pick (is_start c.place) [] (reads_from (passed_backward c c.place) stops_nowhere (suc (depth_of s)) s (root_of s)))

-- ---- the two readings of a slot

no_case : {T : Type 0} → false ≡ true → T
no_case h = absurd (let z : ◌≡◌ {A = ℕ} 0 1 = cc in omega arith)

module _ (s : List ℕ) (x : ℕ) where
  -- what `is_sloppy` says: the bytes read leniently and not strictly
  pub record Sloppy : Type 0 where
    pub node : Node ℕ ℕ
    pub lenient : lenient_node s x ≡ some node
    pub strict : read_node s x ≡ none

  pub sloppy_means : is_sloppy s x ≡ true → Sloppy
  unfolding is_sloppy
  sloppy_means = go (lenient_node s x) (read_node s x) refl refl
    where
      go : (l o : Option (Node ℕ ℕ)) → lenient_node s x ≡ l → read_node s x ≡ o → (is_some l && not (is_some o)) ≡ true → Sloppy
      go none o p q h = no_case h
      go (some m) none p q h = record { node = m; lenient = p; strict = q }
      go (some m) (some n) p q h = no_case h

  pub means_sloppy : Sloppy → is_sloppy s x ≡ true
  unfolding is_sloppy
  means_sloppy h = rw (h.lenient, h.strict)

  -- what the strict reading takes it reads as the lenient one
  read_either : (read_node s x ≡ lenient_node s x) ⊎ (read_node s x ≡ none)
  unfolding read_node lenient_node strict_of
  read_either = go (holds_node s x)
    where
      go : (b : Bool) → (cond b (read_of x (strict_of (node_bytes s x))) none ≡ cond b (read_of x (decode (node_bytes s x))) none) ⊎ (cond b (read_of x (strict_of (node_bytes s x))) none ≡ none)
      go true =
          by_test (λ (o : Decoded). (read_of x o ≡ read_of x (decode (node_bytes s x))) ⊎ (read_of x o ≡ none)) (is_strict (strict_end (node_bytes s x)).ending)
          (λ a. inl refl)
          (λ a. inr refl)
      go false = inl refl

  not_sloppy : is_sloppy s x ≡ false → read_node s x ≡ lenient_node s x
  unfolding is_sloppy
  not_sloppy h = go read_either
    where
      both : (l : Option (Node ℕ ℕ)) → (is_some l && true) ≡ false → none ≡ l
      both none g = refl
      both (some m) g = no_case (sym g)

      go : (read_node s x ≡ lenient_node s x) ⊎ (read_node s x ≡ none) → read_node s x ≡ lenient_node s x
      go (inl e) = e
      go (inr e) = e ∙ both (lenient_node s x) (rw e at h)

  same_not_sloppy : read_node s x ≡ lenient_node s x → is_sloppy s x ≡ false
  unfolding is_sloppy
  same_not_sloppy e = rw e (go (lenient_node s x))
    where
      go : (l : Option (Node ℕ ℕ)) → (is_some l && not (is_some l)) ≡ false
      go none = refl
      go (some m) = refl

  -- "Standard form is what the writer makes": both readings take it, as the same node
  pub standard_not_sloppy : Standard (node_bytes s x) → is_sloppy s x ≡ false
  standard_not_sloppy h = same_not_sloppy both
    where
      reads : strict_of (node_bytes s x) ≡ accepted h.first h.rest
      reads = rw h.bytes (strict_encode h.first h.rest h.fine)

      both : read_node s x ≡ lenient_node s x
      both = unfold read_node lenient_node in ap (λ (o : Decoded). cond (holds_node s x) (read_of x o) none) (reads ∙ sym (strict_lenient (node_bytes s x) h.first h.rest reads))

  -- the same at a depth
  sloppy_at : (d : ℕ) → is_sloppy s x ≡ true → read_node_at d s x ≡ none
  unfolding read_node_at
  sloppy_at d h = ap (when_fit d) (sloppy_means h).strict

  same_at : (d : ℕ) → is_sloppy s x ≡ false → read_node_at d s x ≡ lenient_at d s x
  unfolding read_node_at lenient_at
  same_at d h = ap (when_fit d) (not_sloppy h)

-- ---- the walks, node by node

module _ (s : List ℕ) where
  -- a call that reads the slots l answers as the old one, unless one of them is sloppy
  record Agrees {R : Type 0} (wrong : R) (l : List ℕ) (old new : R) : Type 0 where
    is : new ≡ pick (any_sloppy s l) wrong old

  none_read : {R : Type 0} (wrong old : R) → Agrees wrong [] old old
  none_read wrong old = record { is = sym (pick_f _ _ refl) }

  -- one node: old and new are what the walks do with what was read
  turn : {R : Type 0} (wrong : R) (d x : ℕ) (old new : Option (Node ℕ ℕ) → R) (l : Option (Node ℕ ℕ) → List ℕ) → new none ≡ wrong
      → ((o : Option (Node ℕ ℕ)) → Agrees wrong (l o) (old o) (new o))
      → Agrees wrong (x ∷ l (lenient_at d s x)) (old (lenient_at d s x)) (new (read_node_at d s x))
  turn wrong d x old new l z h =
      by_bool (is_sloppy s x)
      (λ e. record { is = ap new (sloppy_at s x d e) ∙ z ∙ sym (pick_t _ _ (rw e)) })
      (λ e. record { is = ap new (same_at s x d e) ∙ rw e (h (lenient_at d s x)).is })

  here_agrees : (k : Key) (old new : Answer) (l : List ℕ) (r : List Step) → Agrees (Err Bad) l old new → Agrees (Err Bad) (cond (stops_at k r) [] l) (found_here k old r) (found_here k new r)
  here_agrees k old new l [] h = h
  here_agrees k old new l (y ∷ r) h = by_bool (same k y.0) (λ e. rw e (none_read (Err Bad) _)) (λ e. rw e h)

  look_agrees : (k : Key) (d x : ℕ) → Agrees (Err Bad) (reads_from (below k) (stops_at k) d s x) (look_by lenient_at k d s x) (look_from k d s x)
  unfolding reads_from look_by look_from
  look_agrees k zero x = none_read (Err Bad) (Ok None)
  look_agrees k (suc d) x =
      turn (Err Bad) d x (look_on k (look_by lenient_at k d s)) (look_on k (look_from k d s)) (reads_on (below k) (stops_at k) (reads_from (below k) (stops_at k) d s)) refl
      (elim [ none ↦ none_read (Err Bad) (Err Bad) | some m ↦ here_agrees k _ _ _ (at (below k) m).rgt (look_agrees k d (at (below k) m).mid) ])

  module _ (p : Sep ℕ → Bool) where
    forward_agrees : (d x : ℕ) (c : Option (Sep ℕ)) → Agrees bad (reads_from p stops_nowhere d s x) (forward_by lenient_at p d s x c) (forward_from p d s x c)
    unfolding reads_from forward_by forward_from
    forward_agrees zero x c = none_read bad (walked c)
    forward_agrees (suc d) x c =
        turn bad d x (on_forward p (forward_by lenient_at p d s) c) (on_forward p (forward_from p d s) c) (reads_on p stops_nowhere (reads_from p stops_nowhere d s)) refl
        (elim [ none ↦ none_read bad bad | some m ↦ forward_agrees d (at p m).mid (after c (at p m).rgt) ])

    backward_agrees : (d x : ℕ) (c : Option (Sep ℕ)) → Agrees bad (reads_from p stops_nowhere d s x) (backward_by lenient_at p d s x c) (backward_from p d s x c)
    unfolding reads_from backward_by backward_from
    backward_agrees zero x c = none_read bad (walked c)
    backward_agrees (suc d) x c =
        turn bad d x (on_backward p (backward_by lenient_at p d s) c) (on_backward p (backward_from p d s) c) (reads_on p stops_nowhere (reads_from p stops_nowhere d s)) refl
        (elim [ none ↦ none_read bad bad | some m ↦ backward_agrees d (at p m).mid (before c (at p m).lft) ])

  -- ---- from the root

  -- a test that both ask
  either : {R : Type 0} {wrong : R} (b : Bool) {l m : List ℕ} {old new old' new' : R} → Agrees wrong l old new → Agrees wrong m old' new'
      → Agrees wrong (pick b l m) (pick b old old') (pick b new new')
  unfolding pick
  either true h g = h
  either false h g = g

  moved_agrees : (c : Cursor) (p : Place) (l : List ℕ) (old new : Walked) → Agrees bad l old new
      → Agrees (record { step = Err Bad; cursor = c }) l (moved_to c p old) (moved_to c p new)
  moved_agrees c p l old new h = record { is = ap (moved_to c p) h.is ∙ go (any_sloppy s l) }
    where
      go : (b : Bool) → moved_to c p (pick b bad old) ≡ pick b (record { step = Err Bad; cursor = c }) (moved_to c p old)
      go true = unfold pick in refl
      go false = unfold pick in refl

  stepped_agrees : (c : Cursor) (p : Place) (l : List ℕ) (old new : Walked) → Agrees bad l old new
      → Agrees (record { step = Err Bad; cursor = c }) (reads_of s (is_long c.place) l) (stepped_of s c p old) (stepped_of s c p new)
  unfolding reads_of stepped_of
  stepped_agrees c p l old new h =
      either (is_store s)
      (either (is_long c.place) (none_read _ _)
      (either (ltb most_depth (depth_of s)) (none_read _ _)
      (moved_agrees c p _ _ _ (either (eqb (root_of s) 0) (none_read _ _) h))))
      (none_read _ _)

  forward_place : (c : Cursor) (p : Place) → walk_forward s c p ≡ pick (is_end p) (walked none) (forward_from (passed_forward c p) (suc (depth_of s)) s (root_of s) none)
  unfolding pick
  forward_place c Start = refl
  forward_place c End = refl
  forward_place c (At n) = refl
  forward_place c (Seeked n) = refl

  backward_place : (c : Cursor) (p : Place) → walk_backward s c p ≡ pick (is_start p) (walked none) (backward_from (passed_backward c p) (suc (depth_of s)) s (root_of s) none)
  unfolding pick
  backward_place c Start = refl
  backward_place c End = refl
  backward_place c (At n) = refl
  backward_place c (Seeked n) = refl

-- ---- over the strict reading the calls above are those that stand, so the old ones differ in the reading alone

module _ (s : List ℕ) where
  look_by_lem : (k : Key) (d : ℕ) → look_from k d s ≡ look_by read_node_at k d s
  unfolding look_from look_by
  look_by_lem k zero = refl
  look_by_lem k (suc d) = fun_ext (λ x. ap (λ (f : ℕ → Answer). look_on k f (read_node_at d s x)) (look_by_lem k d))

  module _ (p : Sep ℕ → Bool) where
    forward_by_lem : (d : ℕ) → forward_from p d s ≡ forward_by read_node_at p d s
    unfolding forward_from forward_by
    forward_by_lem zero = refl
    forward_by_lem (suc d) = fun_ext (λ x. fun_ext (λ c. ap (λ (f : ℕ → Option (Sep ℕ) → Walked). on_forward p f c (read_node_at d s x)) (forward_by_lem d)))

    backward_by_lem : (d : ℕ) → backward_from p d s ≡ backward_by read_node_at p d s
    unfolding backward_from backward_by
    backward_by_lem zero = refl
    backward_by_lem (suc d) = fun_ext (λ x. fun_ext (λ c. ap (λ (f : ℕ → Option (Sep ℕ) → Walked). on_backward p f c (read_node_at d s x)) (backward_by_lem d)))

  pub lookup_by_lem : (k : Key) → lookup_of s k ≡ lookup_by read_node_at s k
  unfolding lookup_of lookup_by
  lookup_by_lem k = rw (look_by_lem k (suc (depth_of s)))

  pub stepped_forward_by_lem : (c : Cursor) → forward_of s c ≡ stepped_forward_by read_node_at s c
  unfolding forward_of stepped_forward_by
  stepped_forward_by_lem c = ap (stepped_of s c End) (forward_place s c c.place ∙ rw (forward_by_lem (passed_forward c c.place) (suc (depth_of s))))

  pub stepped_backward_by_lem : (c : Cursor) → backward_of s c ≡ stepped_backward_by read_node_at s c
  unfolding backward_of stepped_backward_by
  stepped_backward_by_lem c = ap (stepped_of s c Start) (backward_place s c c.place ∙ rw (backward_by_lem (passed_backward c c.place) (suc (depth_of s))))

-- ---- 02, C-16: "only lookup and cursor answers on unaudited stores change": how, on any bytes

-- where no slot that the call reads is sloppy the answer is the old one, else it is 8; the cursor then stays
pub lookup_strict : (s : List ℕ) (k : Key) → lookup_of s k ≡ pick (any_sloppy s (lookup_reads s k)) (Err Bad) (lenient_lookup s k)
lookup_strict s k = agrees.is
  where
    agrees : Agrees s (Err Bad) (lookup_reads s k) (lenient_lookup s k) (lookup_of s k)
    agrees =
        unfold lookup_of lookup_reads reads_of lookup_by in
        either s (is_store s)
        (either s (ltb longest_key (length k)) (none_read s _ _)
        (either s (ltb most_depth (depth_of s)) (none_read s _ _)
        (either s (eqb (root_of s) 0) (none_read s _ _) (look_agrees s k (suc (depth_of s)) (root_of s)))))
        (none_read s _ _)

pub forward_strict : (s : List ℕ) (c : Cursor) → forward_of s c ≡ pick (any_sloppy s (forward_reads s c)) (record { step = Err Bad; cursor = c }) (lenient_forward_of s c)
unfolding forward_of forward_reads stepped_forward_by
forward_strict s c =
    ap (stepped_of s c End) (forward_place s c c.place)
    ∙ (stepped_agrees s c End _ _ _ (either s (is_end c.place) (none_read s _ _) (forward_agrees s (passed_forward c c.place) (suc (depth_of s)) (root_of s) none))).is

pub backward_strict : (s : List ℕ) (c : Cursor) → backward_of s c ≡ pick (any_sloppy s (backward_reads s c)) (record { step = Err Bad; cursor = c }) (lenient_backward_of s c)
unfolding backward_of backward_reads stepped_backward_by
backward_strict s c =
    ap (stepped_of s c Start) (backward_place s c c.place)
    ∙ (stepped_agrees s c Start _ _ _ (either s (is_start c.place) (none_read s _ _) (backward_agrees s (passed_backward c c.place) (suc (depth_of s)) (root_of s) none))).is

module _ (s : List ℕ) where
  -- ---- a call that reads no sloppy slot answers as before

  pub lookup_as_before : (k : Key) → any_sloppy s (lookup_reads s k) ≡ false → lookup_of s k ≡ lenient_lookup s k
  lookup_as_before k h = lookup_strict s k ∙ pick_f _ _ h

  pub forward_as_before : (c : Cursor) → any_sloppy s (forward_reads s c) ≡ false → forward_of s c ≡ lenient_forward_of s c
  forward_as_before c h = forward_strict s c ∙ pick_f _ _ h

  pub backward_as_before : (c : Cursor) → any_sloppy s (backward_reads s c) ≡ false → backward_of s c ≡ lenient_backward_of s c
  backward_as_before c h = backward_strict s c ∙ pick_f _ _ h

  -- so where every slot that it reads is in standard form, or is read by neither reading
  abbrev pub StandardIfRead : ℕ → Type 0
  StandardIfRead x = Standard (node_bytes s x) ⊎ (lenient_node s x ≡ none)

  abbrev pub AllStandard : List ℕ → Type 0
  AllStandard [] = Unit {0}
  AllStandard (x ∷ l) = StandardIfRead x × AllStandard l

  pub standard_none_sloppy : (l : List ℕ) → AllStandard l → any_sloppy s l ≡ false
  standard_none_sloppy [] h = refl
  standard_none_sloppy (x ∷ l) h = rw (one h.0) (standard_none_sloppy l h.1)
    where
      one : StandardIfRead x → is_sloppy s x ≡ false
      one (inl e) = standard_not_sloppy s x e
      one (inr e) = unfold is_sloppy in rw e

  -- ---- "A node read must have .. readable bytes ..; else 8.": so a call that reads a sloppy slot

  pub lookup_refuses : (k : Key) → any_sloppy s (lookup_reads s k) ≡ true → lookup_number (lookup_of s k) ≡ 8
  lookup_refuses k h = ap lookup_number (lookup_strict s k ∙ pick_t _ _ h)

  pub forward_refuses : (c : Cursor) → any_sloppy s (forward_reads s c) ≡ true → step_number (forward_of s c).step ≡ 8
  forward_refuses c h = ap (λ (r : Stepped). step_number r.step) (forward_strict s c ∙ pick_t _ _ h)

  pub backward_refuses : (c : Cursor) → any_sloppy s (backward_reads s c) ≡ true → step_number (backward_of s c).step ≡ 8
  backward_refuses c h = ap (λ (r : Stepped). step_number r.step) (backward_strict s c ∙ pick_t _ _ h)
