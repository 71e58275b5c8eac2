-- Each way through the functions that change a node among its slot's bytes (a law NAME-k is of the k-th return): a separator is
-- put in, a full node split, a value replaced, as the mirrors of `outcome` do with the node's chain. Assumes nothing.
use mathlib.Core.Path.{◌≡◌, refl, sym, ap, subst, ◌∙◌}
use mathlib.Core.List.{List, ◌∷◌, ◌++◌}
use mathlib.Core.Bool.{Bool, true, false, ◌&&◌, not}
use mathlib.Core.Option.{none, some}
use Rattle.std.specs.Prelude as std
use Rattle.std.specs.Prelude.{None, Ok}
use Prim.Native.Nat.{ℕ, zero, suc, ◌+◌, ◌-◌, ◌^◌, ◌≤◌, ◌<◌}
use lib.ListN.{length, take, drop, get_or}
use lib.Seq.{take_all, drop-cons}
use lib.Dec.{leb, ltb}
use native.Mathlib.Omega.{arith}
use borrow.Author.Tests.{not-true, not-false, le-leb, leb-true, ltb-true, ltb-false}
use Rattle.word.specs.Pick.{by_test}
use Rattle.word.specs.Num.{Bytes}
use Rattle.word.proofs.PartLaws.{length_part_cut}
use Rattle.tree.specs.Map.{Sep}
use Rattle.tree.proofs.Cases.{by_bool}
use Rattle.node.specs.declared.Child.{Child}
use Rattle.node.specs.declared.Node as struct
use Rattle.codec.specs.declared.Places.{Places}
use Rattle.codec.specs.declared.Reading.{Reading}
use Rattle.node.specs.declared.Separator.{Separator}
use Rattle.node.specs.declared.Slot.{Slot}
use Rattle.node.specs.declared.Value.{Value}
use Rattle.node.specs.Chain.{Step, longest_key, Fit, FitAll, Writable, padded, node_of}
use Rattle.codec.specs.Codec.{is_accepted}
use Rattle.codec.specs.Layout.{layout, places_of}
use Rattle.node.specs.Edit.{separator_of, inserted, insert_at, step_at}
use Rattle.codec.specs.Splice.{splice_at}
use Rattle.node.proofs.ArrayLaws.{drop_past, take_own}
use Rattle.codec.proofs.ReadLaws.{count_few, ends_within}
use Rattle.node.proofs.EditLaws.{length_more, fit_drop, fit_insert}
use Rattle.slots.specs.Limits.{least_node, most_node}
use Rattle.slots.specs.Layout.{start}
use Rattle.slots.specs.Mirror.{is_slot, length_at, node_bytes, holds_node, write_node}
use Rattle.slots.specs.Code.{slot_of, some_slot, raw_in, bytes_in, places_in, reading_in, reading_at, first_in, rest_in, node_in, fits_depth, places_at, read_node_at}
use Rattle.slots.specs.Splice.{inserted_bytes, revalued_bytes}
use Rattle.slots.proofs.CodeLaws.{both_true, no_places, node_in_lem, agree_in, writable_in, accepted_holds, accepted_standard, accepted_slot, accepted_some, accepted_at, refused_at, ending_at}
use Rattle.slots.proofs.SpliceLaws.{inserts_node, revalues_node}
use Rattle.outcome.specs.declared.Came.TheVariants.{Plain}
use Rattle.outcome.specs.Mirror.{bad, place_m, inserted_at, insert_node_m, set_value_m}
use Rattle.outcome.specs.Outcome.{Outcome, refused, Makes}
use Rattle.insertion.specs.Insertion.{is_node_of, takes_at, has_at, EndWithin, SplitsFull, TakesIn}
use Rattle.outcome.proofs.ReadPlaces.{count_of_lem}
use Rattle.insertion.proofs.InsertCode.{SplitsTo}

count_in : (s : List ℕ) (x : ℕ) → (places_in s x).count ≡ length (rest_in s x)
count_in s x = (agree_in s x).count ∙ ap (λ (n : struct.Node). n.count) (node_in_lem s x) ∙ count_of_lem (first_in s x) (rest_in s x)

-- a key that was read ends within the node
raw_most : (s : List ℕ) (x : ℕ) → length (raw_in s x) ≤ most_node
unfolding raw_in node_bytes holds_node
raw_most s x =
    by_test (λ (t : List ℕ). length t ≤ most_node) (is_slot s x && (leb least_node (length_at s x) && leb (length_at s x) most_node))
    (λ h.
    let p = both_true (is_slot s x) (leb least_node (length_at s x) && leb (length_at s x) most_node) h in
    let q = both_true (leb least_node (length_at s x)) (leb (length_at s x) most_node) p.1 in
    omega (arith, leb-true (length_at s x) most_node q.1, length_part_cut s (start x + 4) (length_at s x)))
    (λ h. omega arith)

bytes_most : (s : List ℕ) (x : ℕ) → length (bytes_in s x) ≤ most_node
unfolding bytes_in
bytes_most s x = by_test (λ (t : List ℕ). length t ≤ most_node) (places_of (raw_in s x)).standard (λ h. raw_most s x) (λ h. omega arith)

key_ends : (s : List ℕ) (x : ℕ) {p : Places} → p ≡ places_in s x → EndWithin p
unfolding places_in
key_ends s x e j = omega (arith, ends_within (bytes_in s x) e j, bytes_most s x)

abbrev sep_from : List ℕ → ℕ → Sep ℕ
sep_from l v = record { key = l; val = v }

-- the separator of a struct
own_key : (sep : Separator) (e : Sep ℕ) → sep ≡ separator_of e → sep_from (take (sep.len - 0) (drop 0 sep.key)) sep.value.0 ≡ e
own_key sep e k =
    let z : length e.key - 0 ≡ length e.key = omega arith in
    let q : take (length e.key - 0) (drop 0 (padded 288 0 e.key)) ≡ e.key = rw z (take_own 0 288 (length e.key) e.key refl) in
    ap (λ (y : Separator). sep_from (take (y.len - 0) (drop 0 y.key)) y.value.0) k ∙ ap (λ (l : List ℕ). sep_from l e.val) q

-- where index i begins
pub place_first : (p : Places) (i : ℕ) → i ≡ 0 → 8 ≡ splice_at p i
place_first p i e = rw e

pub place_next : (p : Places) (i : ℕ) → (i ≡ 0 → ⊥) → get_or p.starts (i - 1) 0 + get_or p.lens (i - 1) 0 + 8 ≡ splice_at p i
place_next p zero h = absurd (h refl)
place_next p (suc j) h = let z : suc j - 1 ≡ j = omega arith in rw z

-- ---- what `takes` and `has_separator` tell

module _ (p : Places) (d : ℕ) where
  module _ (i n : ℕ) where
    record Takes : Type 0 where
      within : i ≤ p.count
      short : n ≤ 288
      node : is_node_of d p ≡ true

    takes : takes_at p d i n ≡ true → Takes
    takes h =
        let y = both_true (leb i p.count) (leb n longest_key && is_node_of d p) h in
        let z = both_true (leb n longest_key) (is_node_of d p) y.1 in
        record { within = leb-true i p.count y.0; short = leb-true n longest_key z.0; node = z.1 }

  module _ (i : ℕ) where
    has_lem : has_at p d i ≡ true → (i < p.count) × (is_node_of d p ≡ true)
    has_lem h = let y = both_true (ltb i p.count) (is_node_of d p) h in (ltb-true i p.count y.0, y.1)

and_true : (a : Bool) → (a && true) ≡ a
and_true true = refl
and_true false = refl

-- ---- the node of a child

module _ (s : List ℕ) (x d : ℕ) {p : Places} (read : p ≡ places_in s x) where
  -- the test passes what is read at this depth
  node_read : is_node_of d p ≡ is_accepted (reading_at d s x).ending
  unfolding places_at layout
  node_read =
      ap (is_node_of d) read
      ∙ by_test (λ (q : Places). is_node_of d (places_in s x) ≡ is_accepted q.ending) (fits_depth d (places_in s x).count (places_in s x).children)
      (λ e. rw e)
      (λ e. rw e (sym (ap (λ (q : Places). is_accepted q.ending) no_places)))
      ∙ ap is_accepted (ending_at s x d)

  missing : is_node_of d p ≡ false → read_node_at d s x ≡ none
  missing h = refused_at s x d (sym node_read ∙ h)

  record There : Type 0 where
    found : read_node_at d s x ≡ some (node_in s x)
    accepted : is_accepted (reading_in s x).ending ≡ true

  there : is_node_of d p ≡ true → There
  there h =
      let ok : is_accepted (reading_at d s x).ending ≡ true = sym node_read ∙ h in
      let a = accepted_at s x d ok in
      record { found = a.found; accepted = ap (λ (r : Reading). is_accepted r.ending) (sym a.reading) ∙ ok }

  count_there : p.count ≡ length (rest_in s x)
  count_there = ap (λ (q : Places). q.count) read ∙ count_in s x

  -- what `place_of` asks
  place_there : (i : ℕ) → i ≤ p.count → (i ≤ 8) × EndWithin p
  unfolding places_in
  place_there i l = (omega (arith, count_few (bytes_in s x) read), key_ends s x read)

-- ---- `split_full`

module _ (s : List ℕ) (x i : ℕ) (e : Sep ℕ) (right : Child) where
  -- a node that was read stands in a slot
  pub split_none : {o : std.Option Slot} {r : Outcome} {t : List ℕ} → o ≡ some_slot (slot_of s x) → o ≡ None → SplitsFull s x i e right.0 r t
  split_none slot gone accepted full within fit = absurd (accepted_some s x accepted slot gone)

  pub split_full : {g : Reading} {y : ℕ} {sep : Separator} {r : Outcome} {t : List ℕ} → Bytes s → g ≡ reading_in s x → y ≡ slot_of s x
      → sep ≡ separator_of (record { key = take 288 e.key; val = e.val }) → SplitsTo s y g.node i sep right r t → SplitsFull s x i e right.0 r t
  split_full {g} {y} {sep} {r} {t} small read slot made split accepted full within fit =
      let w = writable_in s x small in
      let node : g.node ≡ node_of (first_in s x) (rest_in s x) = ap (λ (h : Reading). h.node) read ∙ node_in_lem s x in
      let is : sep ≡ separator_of e = made ∙ ap (λ (k : List ℕ). separator_of (sep_from k e.val)) (take_all 288 e.key fit.short) in
      let m = split (first_in s x) (rest_in s x) e node w (omega (arith, w.most, count_in s x)) (omega (arith, count_in s x)) is fit in
      subst (λ (v : ℕ). Makes (place_m s (inserted_at i e right.0 (record { slot = v; first = first_in s x; rest = rest_in s x }))) r t) (slot ∙ (accepted_slot s x accepted).1) m

-- ---- `take_in`

module _ (s : List ℕ) (x n i place : ℕ) (e : Sep ℕ) (right : Child) where
  pub take_1 : {r : Outcome} {t : List ℕ} → 7 < n → SplitsFull s x i e right.0 r t → TakesIn s x n i place e right.0 r t
  take_1 full split accepted count within begins fit = split accepted (omega arith) within fit

  pub take_none : {o : std.Option Slot} {r : Outcome} {t : List ℕ} → o ≡ some_slot (slot_of s x) → o ≡ None → TakesIn s x n i place e right.0 r t
  take_none slot gone accepted count within begins fit = absurd (accepted_some s x accepted slot gone)

  pub take_2 : {v : ℕ} {t : List ℕ} → Bytes s → right.0 < 2 ^ 64 → n ≤ 7 → v ≡ slot_of s x → t ≡ inserted_bytes s v place e right.0 → TakesIn s x n i place e right.0 (Ok Plain) t
  unfolding place_m inserted
  take_2 {v} {t} small bs few slot wrote accepted count within begins fit =
      let w = writable_in s x small in
      let q : List Step = rest_in s x in
      let c : ℕ = first_in s x in
      let more = length_more q i (e, right.0) (omega (arith, count_in s x)) in
      let fine : Writable c (insert_at i (e, right.0) q) = record { first = w.first; rest = fit_insert i (e, right.0) q fit bs w.rest; most = omega (arith, count_in s x) } in
      let z : leb (length (insert_at i (e, right.0) q)) 8 ≡ true = le-leb (length (insert_at i (e, right.0) q)) 8 (omega (arith, count_in s x)) in
      let node = inserts_node s x i e right.0 small (accepted_holds s x accepted) (accepted_standard s x accepted) within fit fine in
      let written : t ≡ write_node s (inserted_at i e right.0 (node_in s x)) =
      wrote ∙ ap (λ (y : ℕ). inserted_bytes s y place e right.0) (slot ∙ (accepted_slot s x accepted).1) ∙ ap (λ (y : ℕ). inserted_bytes s x y e right.0) begins ∙ node in
      rw z (refl, written, tt)

-- ---- a key of n bytes for index i

module _ (s : List ℕ) (x d i n : ℕ) {p : Places} {b : Bool} (read : p ≡ places_in s x) (test : b ≡ takes_at p d i n) where
  not_taken : not b ≡ true → n ≤ longest_key → (e : Sep ℕ) (c : ℕ) → insert_node_m d s x i e c ≡ record { out = bad; store = s }
  unfolding insert_node_m
  not_taken out_of_lem short e c =
      by_bool (is_node_of d p)
      (λ h.
      let l : leb i p.count ≡ false = rw (le-leb n longest_key short, h, and_true (leb i p.count)) at (sym test ∙ not-true b out_of_lem) in
      rw ((there s x d read h).found, ap (leb i) (sym (count_there s x d read)) ∙ l))
      (λ h. rw (missing s x d read h))

  module _ (passed : not b ≡ false) where
    taken_lem : Takes p d i n
    taken_lem = takes p d i n (sym test ∙ not-false b passed)

    pub place_fits : (i ≤ 8) × EndWithin p
    place_fits = place_there s x d read i taken_lem.within

    put_there : {place : ℕ} {r : Outcome} {t : List ℕ} → place ≡ splice_at p i → (e : Sep ℕ) (c : ℕ) → TakesIn s x p.count i place e c r t → Fit e → Makes (insert_node_m d s x i e c) r t
    unfolding insert_node_m
    put_there begins e c put fit =
        let node = there s x d read taken_lem.node in
        let index : leb i (length (rest_in s x)) ≡ true = le-leb i (length (rest_in s x)) (omega (arith, taken_lem.within, count_there s x d read)) in
        let within : i ≤ (places_in s x).count = subst (λ (q : Places). i ≤ q.count) read taken_lem.within in
        rw (node.found, index) (put node.accepted (ap (λ (q : Places). q.count) read) within (begins ∙ ap (λ (q : Places). splice_at q i) read) fit)

-- ---- `insert_node`

module _ (s : List ℕ) (x d i : ℕ) (sep : Separator) (right : Child) {p : Places} {b : Bool} (read : p ≡ places_in s x) (test : b ≡ takes_at p d i sep.len) where
  abbrev InsertsTo : Outcome → List ℕ → Type 0
  InsertsTo r t = (e : Sep ℕ) → sep ≡ separator_of e → Fit e → Makes (insert_node_m d s x i e right.0) r t

  pub insert_1 : not b ≡ true → InsertsTo refused s
  insert_1 h e k f =
      let short : sep.len ≤ longest_key = rw (ap (λ (y : Separator). y.len) k) f.short in
      rw (not_taken s x d i sep.len read test h short e right.0) (refl, refl, tt)

  pub insert_2 : {place : ℕ} {r : Outcome} {t : List ℕ} → not b ≡ false → place ≡ splice_at p i
      → TakesIn s x p.count i place (sep_from (take (sep.len - 0) (drop 0 sep.key)) sep.value.0) right.0 r t → InsertsTo r t
  insert_2 {place} {r} {t} h begins put e k f =
      put_there s x d i sep.len read test h begins e right.0 (subst (λ (y : Sep ℕ). TakesIn s x p.count i place y right.0 r t) (own_key sep e k) put) f

-- ---- `insert_leaf`

module _ (s : List ℕ) (x i : ℕ) (k : List ℕ) (v : Value) {p : Places} {b : Bool} (read : p ≡ places_in s x) (test : b ≡ takes_at p 0 i (length k)) where
  abbrev LeafTo : Outcome → List ℕ → Type 0
  LeafTo r t = 0 < v.0 → length k ≤ longest_key → Makes (insert_node_m 0 s x i (sep_from k v.0) 0) r t

  pub leaf_1 : not b ≡ true → LeafTo refused s
  leaf_1 h pos short = rw (not_taken s x 0 i (length k) read test h short (sep_from k v.0) 0) (refl, refl, tt)

  pub leaf_2 : {place : ℕ} {r : Outcome} {t : List ℕ} → Bytes k → v.0 < 2 ^ 64 → not b ≡ false → place ≡ splice_at p i → TakesIn s x p.count i place (sep_from k v.0) 0 r t → LeafTo r t
  leaf_2 small most h begins put pos short =
      put_there s x 0 i (length k) read test h begins (sep_from k v.0) 0 put (record { bytes = small; short = short; there = pos; small = most })

-- ---- `set_value`

step_there : (j : ℕ) (l : List Step) → j < length l → drop j l ≡ step_at j l ∷ drop (suc j) l
unfolding step_at
step_there j l h = drop-cons l j _ h

module _ (s : List ℕ) (x d i : ℕ) (value : Value) {p : Places} {b : Bool} (read : p ≡ places_in s x) (test : b ≡ has_at p d i) where
  abbrev SetsTo : Outcome → List ℕ → Type 0
  SetsTo r t = 0 < value.0 → Makes (set_value_m i value.0 x s (read_node_at d s x)) r t

  pub value_1 : not b ≡ true → SetsTo refused s
  value_1 out_of_lem k =
      by_bool (is_node_of d p)
      (λ h.
      let l : p.count ≤ i = ltb-false i p.count (rw (h, and_true (ltb i p.count)) at (sym test ∙ not-true b out_of_lem)) in
      rw ((there s x d read h).found, drop_past (rest_in s x) i (omega (arith, l, count_there s x d read))) (refl, refl, tt))
      (λ h. rw (missing s x d read h) (refl, refl, tt))

  module _ (passed : not b ≡ false) where
    at_index : (i < p.count) × (is_node_of d p ≡ true)
    at_index = has_lem p d i (sym test ∙ not-false b passed)

    pub value_place : (i ≤ 8) × EndWithin p
    value_place = place_there s x d read i (omega (arith, at_index.0))

    pub value_none : {o : std.Option Slot} {r : Outcome} {t : List ℕ} → o ≡ some_slot (slot_of s x) → o ≡ None → SetsTo r t
    value_none slot gone k = absurd (accepted_some s x (there s x d read at_index.1).accepted slot gone)

    pub value_2 : {place v : ℕ} {t : List ℕ} → place ≡ splice_at p i → Bytes s → value.0 < 2 ^ 64 → v ≡ slot_of s x → t ≡ revalued_bytes s v place value.0 → SetsTo (Ok Plain) t
    value_2 {place} {v} {t} begins small vs slot wrote k =
        let h = there s x d read at_index.1 in
        let accepted = h.accepted in
        let within : i ≤ (places_in s x).count = omega (arith, at_index.0, count_there s x d read, count_in s x) in
        let q : List Step = rest_in s x in
        let y : Step = step_at i q in
        let rest : drop i q ≡ y ∷ drop (suc i) q = step_there i q (omega (arith, at_index.0, count_there s x d read)) in
        let fits : FitAll (y ∷ drop (suc i) q) = subst FitAll rest (fit_drop i q (writable_in s x small).rest) in
        let e : Sep ℕ = record { key = y.0.key; val = value.0 } in
        let fit : Fit e = record { bytes = fits.0.bytes; short = fits.0.short; there = k; small = vs } in
        let node = revalues_node s x i e y.1 small (accepted_holds s x accepted) (accepted_standard s x accepted) within fit y (drop (suc i) q) rest refl in
        let written : t ≡ write_node s (record { slot = x; first = first_in s x; rest = take i q ++ ((e, y.1) ∷ drop (suc i) q) }) =
        wrote ∙ ap (λ (z : ℕ). revalued_bytes s z place value.0) (slot ∙ (accepted_slot s x accepted).1) ∙ ap (λ (z : ℕ). revalued_bytes s x z value.0) (begins ∙ ap (λ (z : Places). splice_at z i) read) ∙ node in
        rw (h.found, rest) (refl, written, tt)
