-- The loop of `Places::read`: each way through it, and that the places it fills are those of the scan. Assumes nothing.
use mathlib.Core.Path.{◌≡◌, refl, sym, ap, ◌∙◌}
use mathlib.Core.List.{List, [], ◌∷◌, ◌++◌, map, append_assoc}
use mathlib.Core.Bool.{Bool, true, false, ◌&&◌, not}
use Prim.Native.Nat.{ℕ, suc, ◌+◌, ◌-◌, ◌≤◌, ◌<◌}
use lib.ListN.{length, set, replicate, length-append, length-map}
use lib.Seq.{set-append_seam}
use lib.Dec.{eqb}
use native.Mathlib.Omega.{arith}
use native.Mathlib.Nat.{suc-add, zero-add, add-zero}
use borrow.Author.Tests.{eq-eqb, ne_eqb, not-true, not-false}
use Rattle.word.specs.Pick.{pick, pick_t, pick_f, by_test}
use Rattle.word.specs.At.{fits_in, read_at}
use Rattle.node.specs.declared.Child.{Child}
use Rattle.codec.specs.declared.Ending.{Ending}
use Rattle.codec.specs.declared.Ending.TheVariants.{NoByteLeft, BytesIgnored, ShortChild}
use Rattle.std.specs.Prelude.{Result, Ok, Err}
use Rattle.codec.specs.declared.Head.{Head}
use Rattle.codec.specs.declared.Places.{Places}
use Rattle.node.specs.declared.Value.{Value}
use Rattle.codec.specs.Codec.{Spot, Scan, stop, before, is_accepted, head_at, follow, scan_from, settle, scan}
use Rattle.node.specs.Chain.{padded, child_of, value_of}
use Rattle.codec.specs.Layout.{all_plain, layout, places_of}
use Rattle.codec.proofs.ScanLaws.{few_from}
use Rattle.node.specs.EditMirror.{fill}
use Rattle.codec.specs.Mirror.{empty_places, ended_with, filled}

-- ---- filling from the front is padding

module _ {A : Type 0} (z : A) where
  fill_behind : (p xs : List A) (m : ℕ) → fill (p ++ replicate (length xs + m) z) (length p) xs ≡ p ++ (xs ++ replicate m z)
  fill_behind p [] m = rw zero-add
  fill_behind p (x ∷ xs) m =
      let n : ℕ = length xs + m in
      let one : replicate (suc (length xs) + m) z ≡ z ∷ replicate n z = ap (λ (k : ℕ). replicate k z) (suc-add (length xs) m) in
      let put : set (p ++ (z ∷ replicate n z)) (length p) x ≡ (p ++ (x ∷ [])) ++ replicate n z = set-append_seam p z (replicate n z) x ∙ sym (append_assoc p (x ∷ []) (replicate n z)) in
      let next : length p + 1 ≡ length (p ++ (x ∷ [])) = simp length-append in
      rw (one, put, next) (fill_behind (p ++ (x ∷ [])) xs m ∙ append_assoc p (x ∷ []) (xs ++ replicate m z))

  fill_padded : (n : ℕ) (xs : List A) → length xs ≤ n → fill (replicate n z) 0 xs ≡ padded n z xs
  unfolding padded
  fill_padded n xs h = let e : n ≡ length xs + (n - length xs) = omega arith in ap (λ (k : ℕ). fill (replicate k z) 0 xs) e ∙ fill_behind [] xs (n - length xs)

-- ---- the places of a scan, filled from the front

filled_start : (e : Ending) (r : Scan) → length r.rest ≤ 8 → filled (empty_places e) 0 r ≡ layout (settle r)
unfolding filled settle layout
filled_start e r h =
    let children : List Child = child_of r.first ∷ map (λ (x : Spot × ℕ). child_of x.1) r.rest in
    let values : List Value = map (λ (x : Spot × ℕ). value_of x.0.value) r.rest in
    let starts : List ℕ = map (λ (x : Spot × ℕ). x.0.start) r.rest in
    let lens : List ℕ = map (λ (x : Spot × ℕ). x.0.len) r.rest in
    let c = fill_padded (child_of 0) 9 children (omega (arith, length-map r.rest (λ (x : Spot × ℕ). child_of x.1))) in
    let v = fill_padded (value_of 0) 8 values (omega (arith, length-map r.rest (λ (x : Spot × ℕ). value_of x.0.value))) in
    let s = fill_padded 0 8 starts (omega (arith, length-map r.rest (λ (x : Spot × ℕ). x.0.start))) in
    let l = fill_padded 0 8 lens (omega (arith, length-map r.rest (λ (x : Spot × ℕ). x.0.len))) in
    by_test (λ (t : Places). t ≡ layout (pick (is_accepted r.ending) r (stop r.ending 0))) (is_accepted r.ending)
    (λ a. rw (pick_t r (stop r.ending 0) a, c, v, s, l, zero-add)) (λ a. rw (pick_f r (stop r.ending 0) a))

and_true : (b : Bool) → (b && true) ≡ b
and_true true = refl
and_true false = refl

and_assoc : (a b c : Bool) → (a && (b && c)) ≡ ((a && b) && c)
and_assoc true b c = refl
and_assoc false b c = refl

abbrev with_child : Places → ℕ → Child → Places
with_child p i c = record { ending = p.ending; standard = p.standard; count = p.count; children = set p.children i c; values = p.values; starts = p.starts; lens = p.lens }

-- places with the separator x and the child before it
abbrev with_spot : Places → ℕ → Child → Value → ℕ → ℕ → Bool → Places
with_spot p i c v start len standard = record {
  ending = p.ending;
  standard = standard;
  count = p.count;
  children = set p.children i c;
  values = set p.values i v;
  starts = set p.starts i start;
  lens = set p.lens i len;
}

filled_stop : (p : Places) (i : ℕ) (e : Ending) (c : ℕ) → filled p i (stop e c) ≡ ended_with (with_child p i (child_of c)) e i
unfolding filled ended_with
filled_stop p i e c = rw (and_true p.standard, add-zero i)

filled_refused : (p q : Places) (i n : ℕ) (e : Ending) (c : ℕ) → is_accepted e ≡ false → filled p i (stop e c) ≡ ended_with q e n
unfolding filled ended_with
filled_refused p q i n e c a = pick_f _ _ a ∙ sym (pick_f _ _ a)

filled_before : (p : Places) (i c : ℕ) (x : Spot) (r : Scan)
    → filled p i (before c x r) ≡ filled (with_spot p i (child_of c) (value_of x.value) x.start x.len (p.standard && x.plain)) (i + 1) r
unfolding filled
filled_before p i c x r =
    let n : i + suc (length r.rest) ≡ i + 1 + length r.rest = omega arith in
    rw (n, and_assoc p.standard x.plain (all_plain r.rest))

-- ---- the ways through the loop

module _ (s : List ℕ) where
  -- what is left to read makes the whole
  abbrev pub Left : Places → ℕ → ℕ → Type 0
  Left p at i = places_of s ≡ filled p i (scan_from s (8 - i) at)

  pub read_start : {p : Places} → p ≡ empty_places NoByteLeft → Left p 0 0
  unfolding places_of scan
  read_start e = rw e (sym (filled_start NoByteLeft (scan_from s 8 0) (few_from s 8 0)))

  module _ (p : Places) (at i : ℕ) (l : Left p at i) (h : i < 8) where
    from_index : scan_from s (8 - i) at ≡
        pick (fits_in (length s) at 8)
        (pick (eqb (at + 8) (length s)) (stop NoByteLeft (read_at 8 s at)) (follow s (scan_from s (8 - (i + 1))) (read_at 8 s at) (head_at s (at + 8))))
        (stop ShortChild 0)
    unfolding scan_from
    from_index = let e : 8 - i ≡ suc (8 - (i + 1)) = omega arith in rw e

    pub read_short : {b : Bool} {r : Places} → b ≡ fits_in (length s) at 8 → not b ≡ true → r ≡ ended_with p ShortChild i → r ≡ places_of s
    read_short f t e = e ∙ sym (l ∙ ap (filled p i) (from_index ∙ pick_f _ _ (sym f ∙ not-true _ t)) ∙ filled_refused p p i i ShortChild 0 refl)

    module _ {b : Bool} {v : ℕ} (f : b ≡ fits_in (length s) at 8) (t : not b ≡ false) (g : v ≡ read_at 8 s at) where
      pub read_whole : {r : Places} → at + 8 ≡ length s → r ≡ ended_with (with_child p i (child_of v)) NoByteLeft i → r ≡ places_of s
      read_whole e q = q ∙ sym (l ∙ ap (filled p i) (from_index ∙ pick_t _ _ (sym f ∙ not-false _ t) ∙ pick_t _ _ (eq-eqb _ _ e)) ∙ filled_stop p i NoByteLeft (read_at 8 s at) ∙ rw g)

      behind_lem : (at + 8 ≡ length s → ⊥) → scan_from s (8 - i) at ≡ follow s (scan_from s (8 - (i + 1))) v (head_at s (at + 8))
      behind_lem e = from_index ∙ pick_t _ _ (sym f ∙ not-false _ t) ∙ pick_f _ _ (ne_eqb _ _ e) ∙ rw g

      pub read_ended : {d : Result Head Ending} {e : Ending} {r : Places} → (at + 8 ≡ length s → ⊥) → d ≡ head_at s (at + 8) → d ≡ Err e → r ≡ ended_with (with_child p i (child_of v)) e i → r ≡ places_of s
      read_ended {e = e} n a k q = q ∙ sym (l ∙ ap (filled p i) (behind_lem n ∙ ap (follow s (scan_from s (8 - (i + 1))) v) (sym a ∙ k)) ∙ filled_stop p i e v)

      pub read_turn : {d : Result Head Ending} {h : Head} {y : Bool} → (at + 8 ≡ length s → ⊥) → d ≡ head_at s (at + 8) → d ≡ Ok h → y ≡ (p.standard && h.plain)
          → Left (with_spot p i (child_of v) h.value h.start h.len y) (h.start + h.len) (i + 1)
      read_turn n a k q = l ∙ ap (filled p i) (behind_lem n ∙ ap (follow s (scan_from s (8 - (i + 1))) v) (sym a ∙ k)) ∙ filled_before p i v _ _ ∙ rw q

  module _ (p : Places) (at i : ℕ) (l : Left p at i) (h : 8 ≤ i) (k : i ≤ 8) where
    last_child_lem : places_of s ≡ filled p 8 (pick (fits_in (length s) at 8) (pick (eqb (at + 8) (length s)) (stop NoByteLeft (read_at 8 s at)) (stop BytesIgnored (read_at 8 s at))) (stop ShortChild 0))
    unfolding scan_from
    last_child_lem = let e : i ≡ 8 = omega arith in rw e at l

    pub last_short : {b : Bool} {r : Places} → b ≡ fits_in (length s) at 8 → not b ≡ true → r ≡ ended_with p ShortChild 8 → r ≡ places_of s
    last_short f t e = e ∙ sym (last_child_lem ∙ ap (filled p 8) (pick_f _ _ (sym f ∙ not-true _ t)) ∙ filled_refused p p 8 8 ShortChild 0 refl)

    pub last_whole : {b : Bool} {v : ℕ} {r : Places} → b ≡ fits_in (length s) at 8 → not b ≡ false → v ≡ read_at 8 s at → at + 8 ≡ length s → r ≡ ended_with (with_child p 8 (child_of v)) NoByteLeft 8 → r ≡ places_of s
    last_whole f t g e q = q ∙ sym (last_child_lem ∙ ap (filled p 8) (pick_t _ _ (sym f ∙ not-false _ t) ∙ pick_t _ _ (eq-eqb _ _ e)) ∙ filled_stop p 8 NoByteLeft (read_at 8 s at) ∙ rw g)

    pub last_ignored : {b : Bool} {v : ℕ} {r : Places} → b ≡ fits_in (length s) at 8 → not b ≡ false → v ≡ read_at 8 s at → (at + 8 ≡ length s → ⊥) → r ≡ ended_with (with_child p 8 (child_of v)) BytesIgnored 8 → r ≡ places_of s
    last_ignored f t g e q = q ∙ sym (last_child_lem ∙ ap (filled p 8) (pick_t _ _ (sym f ∙ not-false _ t) ∙ pick_f _ _ (ne_eqb _ _ e)) ∙ filled_stop p 8 BytesIgnored (read_at 8 s at) ∙ rw g)
