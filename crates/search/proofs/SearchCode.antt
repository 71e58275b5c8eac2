-- The walk of `search` along node bytes: what its helpers make, and each way through its loop. Assumes nothing.
use mathlib.Core.Path.{◌≡◌, refl, sym, ap, subst, ◌∙◌}
use mathlib.Core.List.{List, map}
use mathlib.Core.Bool.{Bool, true, false, ◌&&◌, ◌||◌, not}
use Prim.Native.Nat.{ℕ, suc, ◌+◌, ◌-◌, ◌≤◌, ◌<◌}
use lib.ListN.{length}
use lib.Dec.{eqb, leb}
use native.Mathlib.Omega.{arith}
use borrow.Author.Tests.{eq-eqb, ne_eqb, not-true, not-false}
use Rattle.word.specs.Pick.{pick, pick_t, pick_f, by_test}
use Rattle.word.specs.At.{fits_in, read_at}
use Rattle.word.specs.Key.{Key, cmp, order_of}
use Rattle.word.specs.Part.{part}
use Rattle.std.specs.declared.cmp.Ordering.{Ordering}
use Rattle.std.specs.declared.cmp.Ordering.TheVariants.{Less, Equal, Greater}
use Rattle.node.specs.declared.Child.{Child}
use Rattle.codec.specs.declared.Ending.{Ending}
use Rattle.codec.specs.declared.Ending.TheVariants.{NoByteLeft, BytesIgnored, ShortChild}
use Rattle.std.specs.Prelude.{Result, Ok, Err}
use Rattle.codec.specs.declared.Head.{Head}
use Rattle.search.specs.declared.Turn.{Turn}
use Rattle.search.specs.declared.Turn.TheVariants.{First, NotBelow, Above, Last}
use Rattle.search.specs.declared.Spot.{Spot}
use Rattle.search.specs.declared.Sight.{Sight}
use Rattle.codec.specs.Codec as codec
use Rattle.codec.specs.Codec.{Scan, stop, before, head_at, follow, scan_from}
use Rattle.node.specs.Chain.{child_of}
use Rattle.codec.specs.Layout.{any_of, is_whole}
use Rattle.codec.proofs.ScanLaws.{head_ends}
use Rattle.search.specs.Search.{bar_of, rank_of, passes, meets, misfits, empty_sight, with_child, met_child, counted, behind_spot, at_spot, met_spot, spot_of, order_with, along, fits_kind, sight_in, sight_of, Saw, SeesLast, GoesOn}

-- ---- one child, one separator

pass_numbers : (t : Turn) (o : Ordering) → leb (bar_of t) (rank_of o) ≡ passes t o
pass_numbers First Less = refl
pass_numbers First Equal = refl
pass_numbers First Greater = refl
pass_numbers NotBelow Less = refl
pass_numbers NotBelow Equal = refl
pass_numbers NotBelow Greater = refl
pass_numbers Above Less = refl
pass_numbers Above Equal = refl
pass_numbers Above Greater = refl
pass_numbers Last Less = refl
pass_numbers Last Equal = refl
pass_numbers Last Greater = refl

pub pass_told : (t : Turn) (o : Ordering) {b k : ℕ} → b ≡ bar_of t → k ≡ rank_of o → leb b k ≡ passes t o
pass_told t o p q = rw (p, q) (pass_numbers t o)

module _ (v : Sight) (c : Child) where
  pub child_seen : v.turned ≡ false → with_child v c ≡ met_child v c
  unfolding met_child
  child_seen h = sym (pick_f _ _ h)

  pub child_passed : v.turned ≡ true → v ≡ met_child v c
  unfolding met_child
  child_passed h = sym (pick_t _ _ h)

module _ (t : Turn) (v : Sight) (x : Spot) where
  spot_counted : (o : Ordering) → v.turned ≡ true → counted v ≡ met_spot t v x o
  unfolding met_spot
  spot_counted o h = sym (pick_t _ _ h)

  module _ {o q : Ordering} {p : Bool} (h : v.turned ≡ false) (e : o ≡ q) (a : p ≡ passes t o) where
    passes_so : {b : Bool} → p ≡ b → passes t q ≡ b
    passes_so b = ap (passes t) (sym e) ∙ sym a ∙ b

    spot_passed : not p ≡ false → behind_spot v x ≡ met_spot t v x q
    unfolding met_spot
    spot_passed b = sym (pick_f _ _ h ∙ pick_t _ _ (passes_so (not-false _ b)))

    spot_turned : {m : Bool} → not p ≡ true → m ≡ meets t o → at_spot v x m ≡ met_spot t v x q
    unfolding met_spot
    spot_turned b g = ap (at_spot v x) (g ∙ ap (meets t) e) ∙ sym (pick_f _ _ h ∙ pick_f _ _ (passes_so (not-true _ b)))

-- ---- one step along what is scanned

and_false : (b : Bool) → (b && false) ≡ false
and_false true = refl
and_false false = refl

unfit : (leaf : Bool) (r : Scan) (c : ℕ) → r.first ≡ c → misfits leaf (child_of c) ≡ true → fits_kind leaf r ≡ false
unfolding fits_kind
unfit leaf r c e m =
    ap (λ (b : Bool). not (b || any_of (misfits leaf) (map (λ (x : codec.Spot × ℕ). child_of x.1) r.rest))) (ap (λ (n : ℕ). misfits leaf (child_of n)) e ∙ m)

module _ (t : Turn) (leaf : Bool) (s : List ℕ) (k : Key) (v : Sight) where
  refused : (r : Scan) → is_whole r ≡ false → sight_in t leaf s k v r ≡ empty_sight false
  unfolding sight_in
  refused r a = pick_f _ _ (ap (λ (b : Bool). b && fits_kind leaf r) a)

  misfit : (r : Scan) (c : ℕ) → r.first ≡ c → misfits leaf (child_of c) ≡ true → sight_in t leaf s k v r ≡ empty_sight false
  unfolding sight_in
  misfit r c e m = pick_f _ _ (ap (λ (b : Bool). is_whole r && b) (unfit leaf r c e m) ∙ and_false (is_whole r))

  stopped_lem : (c : ℕ) → misfits leaf (child_of c) ≡ false → sight_in t leaf s k v (stop NoByteLeft c) ≡ met_child v (child_of c)
  unfolding sight_in along fits_kind
  stopped_lem c m = pick_t _ _ (rw m)

  passed_lem : (c : ℕ) (x : codec.Spot) (r : Scan) → x.plain ≡ true → misfits leaf (child_of c) ≡ false
      → sight_in t leaf s k v (before c x r) ≡ sight_in t leaf s k (met_spot t (met_child v (child_of c)) (spot_of x) (order_with s k x)) r
  unfolding sight_in along fits_kind
  passed_lem c x r p m = rw (p, m)

-- ---- what is handed back

module _ {t : Turn} {leaf : Bool} {s : List ℕ} {k : Key} {r : Sight} where
  saw_all : r ≡ sight_of t leaf s k → Saw t leaf s k r
  saw_all e = record { good_is = ap (λ (v : Sight). v.good) e; all_is = λ h. e }

  saw_none : sight_of t leaf s k ≡ empty_sight false → r.good ≡ false → Saw t leaf s k r
  saw_none e g = record {
    good_is = g ∙ sym (ap (λ (v : Sight). v.good) e);
    all_is = λ h. let f : false ≡ true = sym g ∙ h in let n : ◌≡◌ {A = ℕ} 0 1 = cc in absurd (omega arith);
  }

-- ---- the ways through a loop

abbrev spot_at : Head → Spot
spot_at h = record { start = h.start; len = h.len; value = h.value }

module _ (s : List ℕ) where
  follow_first : (next : ℕ → Scan) (c : ℕ) (d : Result Head Ending) → (follow s next c d).first ≡ c
  follow_first next c (Ok h) = refl
  follow_first next c (Err e) = refl

module _ (t : Turn) (leaf : Bool) (s : List ℕ) (k : Key) where
  -- what is left to scan, behind what was seen, makes the whole
  abbrev pub Seen : Sight → ℕ → ℕ → Type 0
  Seen v at i = sight_of t leaf s k ≡ sight_in t leaf s k v (scan_from s (8 - i) at)

  module _ (v : Sight) (at i : ℕ) (l : Seen v at i) (h : i < 8) where
    from_index : scan_from s (8 - i) at ≡
        pick (fits_in (length s) at 8)
        (pick (eqb (at + 8) (length s)) (stop NoByteLeft (read_at 8 s at)) (follow s (scan_from s (8 - (i + 1))) (read_at 8 s at) (head_at s (at + 8))))
        (stop ShortChild 0)
    unfolding scan_from
    from_index = let e : 8 - i ≡ suc (8 - (i + 1)) = omega arith in rw e

    walk_short : {b : Bool} {r : Sight} → b ≡ fits_in (length s) at 8 → not b ≡ true → r.good ≡ false → Saw t leaf s k r
    walk_short f n = saw_none (l ∙ ap (sight_in t leaf s k v) (from_index ∙ pick_f _ _ (sym f ∙ not-true _ n)) ∙ refused t leaf s k v (stop ShortChild 0) refl)

    module _ {b : Bool} {c : ℕ} (f : b ≡ fits_in (length s) at 8) (n : not b ≡ false) (g : c ≡ read_at 8 s at) {m : Bool} (a : m ≡ misfits leaf (child_of c)) where
      in_bytes : scan_from s (8 - i) at ≡ pick (eqb (at + 8) (length s)) (stop NoByteLeft c) (follow s (scan_from s (8 - (i + 1))) c (head_at s (at + 8)))
      in_bytes = from_index ∙ pick_t _ _ (sym f ∙ not-false _ n) ∙ rw g

      first_is : (scan_from s (8 - i) at).first ≡ c
      first_is = ap (λ (r : Scan). r.first) in_bytes ∙ by_test (λ (r : Scan). r.first ≡ c) (eqb (at + 8) (length s)) (λ e. refl) (λ e. follow_first s (scan_from s (8 - (i + 1))) c (head_at s (at + 8)))

      walk_misfit : {r : Sight} → m ≡ true → r.good ≡ false → Saw t leaf s k r
      walk_misfit y = saw_none (l ∙ misfit t leaf s k v _ c first_is (sym a ∙ y))

      -- u: with this child, if it is the walk's
      module _ (u : Sight) (y : m ≡ false) (q : u ≡ met_child v (child_of c)) where
        walk_whole : at + 8 ≡ length s → Saw t leaf s k u
        walk_whole e = saw_all (q ∙ sym (l ∙ ap (sight_in t leaf s k v) (in_bytes ∙ pick_t _ _ (eq-eqb _ _ e)) ∙ stopped_lem t leaf s k v c (sym a ∙ y)))

        module _ (z : at + 8 ≡ length s → ⊥) {d : Result Head Ending} (j : d ≡ head_at s (at + 8)) where
          behind_lem : {x : Result Head Ending} → d ≡ x → sight_of t leaf s k ≡ sight_in t leaf s k v (follow s (scan_from s (8 - (i + 1))) c x)
          behind_lem e = l ∙ ap (sight_in t leaf s k v) (in_bytes ∙ pick_f _ _ (ne_eqb _ _ z) ∙ ap (follow s (scan_from s (8 - (i + 1))) c) (sym j ∙ e))

          walk_end : {e : Ending} {r : Sight} → d ≡ Err e → r.good ≡ false → Saw t leaf s k r
          walk_end {e} x = saw_none (behind_lem x ∙ refused t leaf s k v (stop e c) (head_ends s (at + 8) j x))

          walk_low : {o : Head} {r : Sight} → d ≡ Ok o → not o.plain ≡ true → r.good ≡ false → Saw t leaf s k r
          walk_low {o} x low = saw_none (behind_lem x ∙ refused t leaf s k v (follow s (scan_from s (8 - (i + 1))) c (Ok o)) (rw (not-true o.plain low)))

          walk_spot : {o : Head} (r : Sight) → d ≡ Ok o → not o.plain ≡ false
              → r ≡ met_spot t u (spot_at o) (order_of (cmp k (part s o.start o.len))) → Seen r (o.start + o.len) (i + 1)
          walk_spot {o} r x p e =
              behind_lem x ∙ passed_lem t leaf s k v c (record { value = o.value.0; start = o.start; len = o.len; plain = o.plain }) _ (not-false o.plain p) (sym a ∙ y)
              ∙ ap (λ (r : Sight). sight_in t leaf s k r (scan_from s (8 - (i + 1)) (o.start + o.len))) (ap (λ (u : Sight). met_spot t u (spot_at o) (order_of (cmp k (part s o.start o.len)))) (sym q) ∙ sym e)

  -- ---- the child behind the eighth separator

  module _ (v : Sight) (at : ℕ) (l : sight_of t leaf s k ≡ sight_in t leaf s k v (scan_from s 0 at)) where
    last_scan : sight_of t leaf s k ≡ sight_in t leaf s k v
        (pick (fits_in (length s) at 8) (pick (eqb (at + 8) (length s)) (stop NoByteLeft (read_at 8 s at)) (stop BytesIgnored (read_at 8 s at))) (stop ShortChild 0))
    unfolding scan_from
    last_scan = l

    pub last_short : {b : Bool} {r : Sight} → b ≡ fits_in (length s) at 8 → not b ≡ true → r.good ≡ false → Saw t leaf s k r
    last_short f n = saw_none (last_scan ∙ ap (sight_in t leaf s k v) (pick_f _ _ (sym f ∙ not-true _ n)) ∙ refused t leaf s k v (stop ShortChild 0) refl)

    module _ {b : Bool} {c : ℕ} (f : b ≡ fits_in (length s) at 8) (n : not b ≡ false) (g : c ≡ read_at 8 s at) {m : Bool} (a : m ≡ misfits leaf (child_of c)) where
      last_there : sight_of t leaf s k ≡ sight_in t leaf s k v (pick (eqb (at + 8) (length s)) (stop NoByteLeft c) (stop BytesIgnored c))
      last_there = last_scan ∙ ap (sight_in t leaf s k v) (pick_t _ _ (sym f ∙ not-false _ n) ∙ rw g)

      pub last_misfit : {r : Sight} → m ≡ true → r.good ≡ false → Saw t leaf s k r
      last_misfit y = saw_none (last_there ∙ misfit t leaf s k v _ c (by_test (λ (r : Scan). r.first ≡ c) (eqb (at + 8) (length s)) (λ e. refl) (λ e. refl)) (sym a ∙ y))

      pub last_behind : {r : Sight} → m ≡ false → (at + 8 ≡ length s → ⊥) → r.good ≡ false → Saw t leaf s k r
      last_behind y z = saw_none (last_there ∙ ap (sight_in t leaf s k v) (pick_f _ _ (ne_eqb _ _ z)) ∙ refused t leaf s k v (stop BytesIgnored c) refl)

      last_child_lem : (u : Sight) → m ≡ false → at + 8 ≡ length s → u ≡ met_child v (child_of c) → Saw t leaf s k u
      last_child_lem u y e q = saw_all (q ∙ sym (last_there ∙ ap (sight_in t leaf s k v) (pick_t _ _ (eq-eqb _ _ e)) ∙ stopped_lem t leaf s k v c (sym a ∙ y)))

      pub last_seen : m ≡ false → at + 8 ≡ length s → not v.turned ≡ true → Saw t leaf s k (with_child v (child_of c))
      last_seen y e h = last_child_lem (with_child v (child_of c)) y e (child_seen v (child_of c) (not-true _ h))

      pub last_passed : m ≡ false → at + 8 ≡ length s → not v.turned ≡ false → Saw t leaf s k v
      last_passed y e h = last_child_lem v y e (child_passed v (child_of c) (not-false _ h))

  at_last : (v : Sight) (at : ℕ) {r : Sight} → 8 ≤ v.count → v.count ≤ 8 → Seen v at v.count → SeesLast leaf s v at r → Saw t leaf s k r
  at_last v at h o l q = let e : v.count ≡ 8 = omega arith in q t k (l ∙ ap (λ (n : ℕ). sight_in t leaf s k v (scan_from s (8 - n) at)) e)

-- ---- the loop behind the turn: what it hands back of the rest, it hands back of the whole

module _ (leaf : Bool) (s : List ℕ) (v : Sight) (at : ℕ) where
  pub on_last : {r : Sight} → 8 ≤ v.count → SeesLast leaf s v at r → GoesOn leaf s v at r
  on_last h q t k w o l = at_last t leaf s k v at h o l q

  module _ (h : v.count < 8) where
    pub on_short : {b : Bool} {r : Sight} → b ≡ fits_in (length s) at 8 → not b ≡ true → r.good ≡ false → GoesOn leaf s v at r
    on_short f n g t k w o l = walk_short t leaf s k v at v.count l h f n g

    module _ {b : Bool} {c : ℕ} (f : b ≡ fits_in (length s) at 8) (n : not b ≡ false) (g : c ≡ read_at 8 s at) {m : Bool} (a : m ≡ misfits leaf (child_of c)) where
      pub on_misfit : {r : Sight} → m ≡ true → r.good ≡ false → GoesOn leaf s v at r
      on_misfit y e t k w o l = walk_misfit t leaf s k v at v.count l h f n g a y e

      module _ (y : m ≡ false) where
        pub on_whole : at + 8 ≡ length s → GoesOn leaf s v at v
        on_whole e t k w o l = walk_whole t leaf s k v at v.count l h f n g a v y (child_passed v (child_of c) w) e

        module _ (z : at + 8 ≡ length s → ⊥) {d : Result Head Ending} (j : d ≡ head_at s (at + 8)) where
          pub on_end : {e : Ending} {r : Sight} → d ≡ Err e → r.good ≡ false → GoesOn leaf s v at r
          on_end x e t k w o l = walk_end t leaf s k v at v.count l h f n g a v y (child_passed v (child_of c) w) z j x e

          pub on_low : {p : Head} {r : Sight} → d ≡ Ok p → not p.plain ≡ true → r.good ≡ false → GoesOn leaf s v at r
          on_low x p e t k w o l = walk_low t leaf s k v at v.count l h f n g a v y (child_passed v (child_of c) w) z j x p e

          pub on_spot : {p : Head} (r : Sight) → d ≡ Ok p → not p.plain ≡ false → GoesOn leaf s (counted v) (p.start + p.len) r → GoesOn leaf s v at r
          on_spot r x p q t k w o l =
              q t k w (omega arith)
              (walk_spot t leaf s k v at v.count l h f n g a v y (child_passed v (child_of c) w) z j (counted v) x p (spot_counted t v _ _ w))

-- ---- the loop before it

module _ (t : Turn) (leaf : Bool) (s : List ℕ) (k : Key) where
  -- its invariant
  abbrev pub Going : Sight → ℕ → Type 0
  Going v at = (v.count ≤ 8) × (v.turned ≡ false) × Seen t leaf s k v at v.count

  pub going_start : {v : Sight} → v ≡ empty_sight true → Going v 0
  unfolding sight_of
  going_start e = rw e (omega arith, refl, refl)

  module _ (v : Sight) (at : ℕ) (l : Going v at) where
    pub going_last : {r : Sight} → 8 ≤ v.count → SeesLast leaf s v at r → Saw t leaf s k r
    going_last h q = at_last t leaf s k v at h l.0 l.2 q

    module _ (h : v.count < 8) where
      pub going_short : {b : Bool} {r : Sight} → b ≡ fits_in (length s) at 8 → not b ≡ true → r.good ≡ false → Saw t leaf s k r
      going_short = walk_short t leaf s k v at v.count l.2 h

      module _ {b : Bool} {c : ℕ} (f : b ≡ fits_in (length s) at 8) (n : not b ≡ false) (g : c ≡ read_at 8 s at) {m : Bool} (a : m ≡ misfits leaf (child_of c)) where
        pub going_misfit : {r : Sight} → m ≡ true → r.good ≡ false → Saw t leaf s k r
        going_misfit = walk_misfit t leaf s k v at v.count l.2 h f n g a

        module _ (y : m ≡ false) where
          abbrev u : Sight
          u = with_child v (child_of c)

          seen : u ≡ met_child v (child_of c)
          seen = child_seen v (child_of c) l.1

          pub going_whole : at + 8 ≡ length s → Saw t leaf s k u
          going_whole = walk_whole t leaf s k v at v.count l.2 h f n g a u y seen

          module _ (z : at + 8 ≡ length s → ⊥) {d : Result Head Ending} (j : d ≡ head_at s (at + 8)) where
            pub going_end : {e : Ending} {r : Sight} → d ≡ Err e → r.good ≡ false → Saw t leaf s k r
            going_end = walk_end t leaf s k v at v.count l.2 h f n g a u y seen z j

            pub going_low : {x : Head} {r : Sight} → d ≡ Ok x → not x.plain ≡ true → r.good ≡ false → Saw t leaf s k r
            going_low = walk_low t leaf s k v at v.count l.2 h f n g a u y seen z j

            module _ {x : Head} (sep : d ≡ Ok x) (as_written : not x.plain ≡ false) {o : Ordering} (e : o ≡ order_of (cmp k (part s x.start x.len))) {p : Bool} (told : p ≡ passes t o) where
              abbrev spot : Spot
              spot = spot_at x

              pub going_turn : {b : Bool} {w r : Sight} → not p ≡ true → b ≡ meets t o → w ≡ at_spot u spot b → GoesOn leaf s w (x.start + x.len) r → Saw t leaf s k r
              going_turn {b} {w} {r} left met is q =
                  let on : Seen t leaf s k (at_spot u spot b) (x.start + x.len) (v.count + 1) =
                  walk_spot t leaf s k v at v.count l.2 h f n g a u y seen z j (at_spot u spot b) sep as_written (spot_turned t u spot l.1 e told left met) in
                  subst (λ (w : Sight). GoesOn leaf s w (x.start + x.len) r) is q t k refl (omega arith) on

              pub going_behind : {r : Sight} → not p ≡ false → r ≡ behind_spot u spot → Going r (x.start + x.len)
              going_behind passed_lem is =
                  let on : Seen t leaf s k (behind_spot u spot) (x.start + x.len) (v.count + 1) =
                  walk_spot t leaf s k v at v.count l.2 h f n g a u y seen z j (behind_spot u spot) sep as_written (spot_passed t u spot l.1 e told passed_lem) in
                  subst (λ (r : Sight). Going r (x.start + x.len)) (sym is) (omega arith, l.1, on)
