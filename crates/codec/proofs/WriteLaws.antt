-- Writing a node: the refusals and the length of standard form, one separator, and the loop. Assumes nothing.
use mathlib.Core.Path.{◌≡◌, refl, sym, ap, subst, ◌∙◌}
use mathlib.Core.List.{List, [], ◌∷◌, ◌++◌, append_assoc, append-nil}
use mathlib.Core.Bool.{Bool, true, false, not}
use Prim.Native.Nat.{ℕ, zero, suc, ◌+◌, ◌*◌, ◌-◌, ◌≤◌, ◌<◌}
use lib.ListN.{length, get_or, take, drop, set, length-append, length-set, drop_of_length-le}
use lib.Seq.{drop-cons}
use lib.Dec.{ltb}
use native.Mathlib.Omega.{arith}
use native.Mathlib.Nat.{zero-add}
use native.Mathlib.Numerals.{add-one}
use borrow.Author.Tests.{not-true, not-false, le-ltb, lt-ltb, ltb-false}
use Rattle.word.specs.Pick.{pick, pick_t, pick_f, by_test}
use Rattle.word.specs.Part.{part, over}
use Rattle.word.specs.Num.{le}
use Rattle.word.specs.At.{fits_in, write_at, copy_at}
use Rattle.word.proofs.NumLaws.{length_le}
use Rattle.word.proofs.PartLaws.{length_part, length_over, over_beside, drop_over, set_over}
use Rattle.word.proofs.AtLaws.{fits_in_lem, fits_true, fitted, write_at_in, copy_at_in, length_write_at, length_copy_at}
use Rattle.tree.specs.Map.{Sep}
use Rattle.node.specs.declared.Value.{Value}
use Rattle.node.specs.declared.Node.{Node}
use Rattle.std.specs.Prelude.{Result, Ok, Err}
use Rattle.codec.specs.declared.WriteError.{WriteError}
use Rattle.codec.specs.declared.WriteError.TheVariants.{LongKey, NoValue, ShortDestination, TooMany}
use Rattle.node.specs.Chain.{Step, longest_key, value_of, child_of, steps_from, steps_of, first_of}
use Rattle.codec.specs.Codec.{sized, sep_length, rest_length, encode_sep, encode_rest, encode}
use Rattle.codec.specs.Layout.{any_of, any_first, is_long, is_none, written_of, left_by}
use Rattle.codec.specs.Mirror.{width_all, width_first, measured, put_sep}
use Rattle.codec.proofs.EncodeLaws.{length_sep, rest_append, length_encode, sep_least, sep_long}
use Rattle.codec.proofs.Theorems.{none_long_at}

-- ---- a loop along the first n of a list

module _ {A : Type 0} (z : A) (l : List A) (n i : ℕ) where
  pub take_cons : i < n → i < length l → take (n - i) (drop i l) ≡ get_or l i z ∷ take (n - (i + 1)) (drop (i + 1) l)
  take_cons h k = let e : n - i ≡ suc (n - (i + 1)) = omega arith in rw (e, add-one, drop-cons l i z k)

  pub take_none : n ≤ i → take (n - i) (drop i l) ≡ []
  take_none h = let e : n - i ≡ 0 = omega arith in rw e

  pub take_past : length l ≤ i → take (n - i) (drop i l) ≡ []
  take_past h = rw (drop_of_length-le l {i = i} h) (lib.Seq.take-nil (n - i))

module _ {A : Type 0} (f : A → Bool) (z : A) (l : List A) (n : ℕ) where
  -- what is left to look at decides
  abbrev pub AnyLeft : ℕ → Type 0
  AnyLeft i = any_first f n l ≡ any_first f (n - i) (drop i l)

  pub any_start : AnyLeft 0
  any_start = let e : n - 0 ≡ n = omega arith in rw e

  pub any_none : (i : ℕ) → AnyLeft i → n ≤ i → false ≡ any_first f n l
  unfolding any_first
  any_none i a h = sym (a ∙ ap (any_of f) (take_none z l n i h))

  pub any_past : (i : ℕ) → AnyLeft i → length l ≤ i → false ≡ any_first f n l
  unfolding any_first
  any_past i a h = sym (a ∙ ap (any_of f) (take_past z l n i h))

  pub any_here : (i : ℕ) → AnyLeft i → i < n → i < length l → f (get_or l i z) ≡ true → true ≡ any_first f n l
  unfolding any_first
  any_here i a h k t = sym (a ∙ ap (any_of f) (take_cons z l n i h k) ∙ rw t)

  pub any_turn : (i : ℕ) → AnyLeft i → i < n → i < length l → f (get_or l i z) ≡ false → AnyLeft (i + 1)
  unfolding any_first
  any_turn i a h k t = a ∙ ap (any_of f) (take_cons z l n i h k) ∙ rw t

-- ---- the length of standard form

pub width_start : (n : ℕ) (l : List ℕ) → width_first 8 n l ≡ width_first 8 (n - 0) (drop 0 l)
width_start n l = let e : n - 0 ≡ n = omega arith in rw e

pub width_turn : (n a i : ℕ) (l : List ℕ) {w : ℕ} → i < n → i < length l → w ≡ sep_length (get_or l i 0)
    → width_first a (n - i) (drop i l) ≡ width_first (a + (w + 8)) (n - (i + 1)) (drop (i + 1) l)
unfolding width_first
width_turn n a i l h k e = ap (width_all a) (take_cons 0 l n i h k) ∙ rw e

pub width_end : (n a i : ℕ) (l : List ℕ) → n ≤ i → width_first a (n - i) (drop i l) ≡ a
unfolding width_first
width_end n a i l h = ap (width_all a) (take_none 0 l n i h)

-- ---- measure

module _ (n : ℕ) (lens : List ℕ) (values : List Value) where
  pub measure_1 : 8 < n → Err TooMany ≡ measured n lens values
  unfolding measured
  measure_1 h = sym (pick_t _ _ (lt-ltb 8 n h))

  module _ {b : Bool} (h : n ≤ 8) (f : b ≡ any_of is_long (take n lens)) where
    pub measure_2 : b ≡ true → Err LongKey ≡ measured n lens values
    unfolding measured any_first
    measure_2 t = sym (pick_f _ _ (le-ltb 8 n h) ∙ pick_t _ _ (sym f ∙ t))

    module _ {c : Bool} (t : b ≡ false) (g : c ≡ any_of is_none (take n values)) where
      pub measure_3 : c ≡ true → Err NoValue ≡ measured n lens values
      unfolding measured any_first
      measure_3 u = sym (pick_f _ _ (le-ltb 8 n h) ∙ pick_f _ _ (sym f ∙ t) ∙ pick_t _ _ (sym g ∙ u))

      pub measure_4 : {w i : ℕ} → c ≡ false → width_first 8 n lens ≡ width_first w (n - i) (drop i lens) → n ≤ i → Ok w ≡ measured n lens values
      unfolding measured any_first
      measure_4 {w} {i} u e k = sym (pick_f _ _ (le-ltb 8 n h) ∙ pick_f _ _ (sym f ∙ t) ∙ pick_f _ _ (sym g ∙ u) ∙ ap Ok (e ∙ width_end n w i lens k))

    -- a length that `measure` adds up
    pub measure_short : b ≡ false → (i : ℕ) → i < n → get_or lens i 0 ≤ 288
    unfolding any_first
    measure_short t i k = none_long_at n lens i (sym f ∙ t) k

-- ---- a separator at a place

-- what `write_separator`'s test says
module _ (n at k : ℕ) {b : Bool} {w : ℕ} (e : w ≡ sep_length k) (f : b ≡ fits_in n at w) (t : not b ≡ false) where
  pub sep_room : at + (9 + k) ≤ n
  sep_room = omega (arith, fitted n at w f (not-false _ t), sep_least k)

  pub sep_room_long : 255 ≤ k → at + (13 + k) ≤ n
  sep_room_long h = omega (arith, fitted n at w f (not-false _ t), sep_long k h)

beside : (d : List ℕ) (a : ℕ) (x y : List ℕ) (m : ℕ) → length x ≡ m → a + m + length y ≤ length d → over (over d a x) (a + m) y ≡ over d a (x ++ y)
beside d a x y m l r = rw (← l) (over_beside d a x y (omega arith))

from_front : (d x y : List ℕ) (m : ℕ) → length x ≡ m → m + length y ≤ length d → over (over d 0 x) m y ≡ over d 0 (x ++ y)
from_front d x y m l r = ap (λ (a : ℕ). over (over d 0 x) a y) (sym (zero-add m)) ∙ beside d 0 x y m l (rw (zero-add m) r)

-- the key is a part of the keys s
module _ (d : List ℕ) (at : ℕ) (s : List ℕ) (from n v : ℕ) (within : from + n ≤ length s) where
  abbrev cut : Sep ℕ
  cut = record { key = part s from n; val = v }

  cut_length : length (part s from n) ≡ n
  cut_length = length_part s from n within

  pub put_1 : 288 < n → d ≡ put_sep d at cut
  unfolding put_sep
  put_1 h = sym (pick_t _ _ (rw cut_length (lt-ltb longest_key n h)))

  cut_short : n < 255 → encode_sep cut ≡ le 8 v ++ (n ∷ part s from n)
  unfolding encode_sep sized
  cut_short h = rw cut_length (ap (λ (t : List ℕ). le 8 v ++ t) (pick_t _ _ (lt-ltb n 255 h)))

  cut_long : 255 ≤ n → encode_sep cut ≡ le 8 v ++ (255 ∷ (le 4 n ++ part s from n))
  unfolding encode_sep sized
  cut_long h = rw cut_length (ap (λ (t : List ℕ). le 8 v ++ t) (pick_f _ _ (le-ltb n 255 h)))

  module _ {b : Bool} {w : ℕ} (h : n ≤ 288) (g : w ≡ sep_length n) (f : b ≡ fits_in (length d) at w) where
    pub put_2 : not b ≡ true → d ≡ put_sep d at cut
    unfolding put_sep
    put_2 t = sym (pick_f _ _ (rw cut_length (le-ltb longest_key n h)) ∙ pick_f _ _ (rw (cut_length, ← g) (sym f ∙ not-true _ t)))

    put_room : not b ≡ false → at + sep_length n ≤ length d
    put_room t = rw (← g) (fits_true (length d) at w (sym f ∙ not-false _ t))

    put_in : not b ≡ false → over d at (encode_sep cut) ≡ put_sep d at cut
    unfolding put_sep
    put_in t = sym (pick_f _ _ (rw cut_length (le-ltb longest_key n h)) ∙ pick_t _ _ (rw (cut_length, ← g) (sym f ∙ not-false _ t)))

    pub put_3 : {d1 d2 : List ℕ} → not b ≡ false → d1 ≡ write_at 8 d at v → n < 255 → d2 ≡ copy_at (set d1 (at + 8) n) (at + 9) s from n → d2 ≡ put_sep d at cut
    put_3 t p small q =
        let room = put_room t in
        let wide = sep_least n in
        let k : List ℕ = part s from n in
        let lk : length k ≡ n = cut_length in
        let x : List ℕ = le 8 v in
        let lx = length_le 8 v in
        let l1 : length (over d at x) ≡ length d = length_over d at x (omega arith) in
        let e1 : write_at 8 d at v ≡ over d at x = write_at_in 8 d at v (omega arith) in
        let e2 : set (over d at x) (at + 8) n ≡ over d at (x ++ (n ∷ [])) = set_over (over d at x) (at + 8) n (omega arith) ∙ beside d at x (n ∷ []) 8 lx (omega arith) in
        let l2 : length (over d at (x ++ (n ∷ []))) ≡ length d = length_over d at (x ++ (n ∷ [])) (simp length-append (omega arith)) in
        let e3 : copy_at (over d at (x ++ (n ∷ []))) (at + 9) s from n ≡ over d at ((x ++ (n ∷ [])) ++ k) =
        copy_at_in (over d at (x ++ (n ∷ []))) (at + 9) s from n (omega arith) (omega arith) ∙ beside d at (x ++ (n ∷ [])) k 9 (simp length-append (omega arith)) (omega arith) in
        q ∙ rw (p, e1, e2, e3) (ap (over d at) (append_assoc x (n ∷ []) k ∙ sym (cut_short small)) ∙ put_in t)

    pub put_4 : {d1 d2 d3 : List ℕ} → not b ≡ false → d1 ≡ write_at 8 d at v → 255 ≤ n → d2 ≡ write_at 4 (set d1 (at + 8) 255) (at + 9) n → d3 ≡ copy_at d2 (at + 13) s from n → d3 ≡ put_sep d at cut
    put_4 t p big r q =
        let room = put_room t in
        let wide : sep_length n ≡ 13 + n = sep_long n big in
        let k : List ℕ = part s from n in
        let lk : length k ≡ n = cut_length in
        let l8 = length_le 8 v in
        let l1 : length (over d at (le 8 v)) ≡ length d = length_over d at (le 8 v) (omega arith) in
        let e1 : write_at 8 d at v ≡ over d at (le 8 v) = write_at_in 8 d at v (omega arith) in
        let x : List ℕ = le 8 v ++ (255 ∷ []) in
        let lx : length x ≡ 9 = simp length-append (omega arith) in
        let e2 : set (over d at (le 8 v)) (at + 8) 255 ≡ over d at x = set_over (over d at (le 8 v)) (at + 8) 255 (omega arith) ∙ beside d at (le 8 v) (255 ∷ []) 8 l8 (omega arith) in
        let l2 : length (over d at x) ≡ length d = length_over d at x (omega arith) in
        let m : List ℕ = le 4 n in
        let lm = length_le 4 n in
        let e3 : write_at 4 (over d at x) (at + 9) n ≡ over d at (x ++ m) = write_at_in 4 (over d at x) (at + 9) n (omega arith) ∙ beside d at x m 9 lx (omega arith) in
        let y : List ℕ = x ++ m in
        let ly : length y ≡ 13 = simp length-append (omega arith) in
        let l3 : length (over d at y) ≡ length d = length_over d at y (omega arith) in
        let e4 : copy_at (over d at y) (at + 13) s from n ≡ over d at (y ++ k) = copy_at_in (over d at y) (at + 13) s from n (omega arith) (omega arith) ∙ beside d at y k 13 ly (omega arith) in
        let same : y ++ k ≡ le 8 v ++ (255 ∷ (m ++ k)) = simp append_assoc in
        q ∙ rw (r, p, e1, e2, e3, e4, same) (ap (over d at) (sym (cut_long big)) ∙ put_in t)

-- both ways keep the length
module _ (d k : List ℕ) (at i x j f n v : ℕ) {d1 : List ℕ} (p : d1 ≡ write_at 8 d at v) where
  pub put_length : {d2 : List ℕ} → d2 ≡ copy_at (set d1 i x) j k f n → length d2 ≡ length d
  put_length q = ap length q ∙ length_copy_at (set d1 i x) j k f n ∙ length-set d1 i x ∙ ap length p ∙ length_write_at 8 d at v

  pub put_length_long : (h m : ℕ) {d2 d3 : List ℕ} → d2 ≡ write_at 4 (set d1 i x) h m → d3 ≡ copy_at d2 j k f n → length d3 ≡ length d
  put_length_long h m r q = ap length q ∙ length_copy_at _ j k f n ∙ ap length r ∙ length_write_at 4 (set d1 i x) h m ∙ length-set d1 i x ∙ ap length p ∙ length_write_at 8 d at v

-- ---- the loop of `write`

module _ (n : Node) where
  abbrev pub step_at : ℕ → Step
  step_at i = (record { key = part n.keys (288 * i) (get_or n.lens i 0); val = (get_or n.values i (value_of 0)).0 }, (get_or n.children (i + 1) (child_of 0)).0)

  steps_append : (i j k : ℕ) → steps_from n i (j + k) ≡ steps_from n i j ++ steps_from n (i + j) k
  steps_append i zero k = let a : 0 + k ≡ k = omega arith in let b : i + 0 ≡ i = omega arith in rw (a, b)
  steps_append i (suc j) k =
      let a : suc j + k ≡ suc (j + k) = omega arith in
      let b : i + suc j ≡ i + 1 + j = omega arith in
      rw (a, b) (ap (λ (l : List Step). step_at i ∷ l) (steps_append (i + 1) j k))

  steps_one : (i : ℕ) → steps_from n 0 (i + 1) ≡ steps_from n 0 i ++ (step_at i ∷ [])
  steps_one i = let b : 0 + i ≡ i = omega arith in steps_append 0 i 1 ∙ rw b

  -- the first i separators in standard form
  abbrev pub front : ℕ → List ℕ
  front i = encode (first_of n) (steps_from n 0 i)

  front_append : (i k : ℕ) → front (i + k) ≡ front i ++ encode_rest (steps_from n (0 + i) k)
  unfolding encode
  front_append i k = rw (steps_append 0 i k, rest_append (steps_from n 0 i) (steps_from n (0 + i) k)) (sym (append_assoc (le 8 (first_of n)) (encode_rest (steps_from n 0 i)) (encode_rest (steps_from n (0 + i) k))))

  front_grows : (i j : ℕ) → i ≤ j → length (front i) ≤ length (front j)
  front_grows i j h =
      let e : j ≡ i + (j - i) = omega arith in
      let l : length (front j) ≡ length (front i) + length (encode_rest (steps_from n (0 + i) (j - i))) = ap (λ (m : ℕ). length (front m)) e ∙ ap length (front_append i (j - i)) ∙ length-append (front i) (encode_rest (steps_from n (0 + i) (j - i))) in
      omega arith

  one_more_lem : (x : Step) → encode_rest (x ∷ []) ≡ encode_sep x.0 ++ le 8 x.1
  unfolding encode_rest
  one_more_lem x = rw (append-nil (le 8 x.1))

  front_one : (i : ℕ) → front (i + 1) ≡ front i ++ (encode_sep (step_at i).0 ++ le 8 (step_at i).1)
  front_one i = let b : 0 + i ≡ i = omega arith in front_append i 1 ∙ ap (λ (l : List ℕ). front i ++ l) (rw b (one_more_lem (step_at i)))

-- ---- the answer

-- the lengths of the keys make the length of standard form
width_adds : (a b : ℕ) (l : List ℕ) → width_all (a + b) l ≡ a + width_all b l
width_adds a b [] = refl
width_adds a b (n ∷ l) = let e : a + b + (sep_length n + 8) ≡ a + (b + (sep_length n + 8)) = omega arith in rw e (width_adds a (b + (sep_length n + 8)) l)

module _ (n : Node) (eight : length n.lens ≡ 8) (keys : length n.keys ≡ 2304) (few : n.count ≤ 8) (short : (i : ℕ) → i < n.count → get_or n.lens i 0 ≤ 288) where
  width_rest : (i k : ℕ) → i + k ≡ n.count → width_all 0 (take k (drop i n.lens)) ≡ rest_length (steps_from n i k)
  width_rest i zero e = refl
  width_rest i (suc k) e =
      let s = short i (omega arith) in
      let lk : length (part n.keys (288 * i) (get_or n.lens i 0)) ≡ get_or n.lens i 0 = length_part n.keys (288 * i) (get_or n.lens i 0) (omega arith) in
      let w : ℕ = sep_length (get_or n.lens i 0) in
      let c : drop i n.lens ≡ get_or n.lens i 0 ∷ drop (i + 1) n.lens = rw add-one (drop-cons n.lens i 0 (omega arith)) in
      let z : 0 + (w + 8) ≡ w + 8 + 0 = omega arith in
      let ih = width_rest (i + 1) k (omega arith) in
      let rest : List ℕ = take k (drop (i + 1) n.lens) in
      ap (λ (l : List ℕ). width_all 0 (take (suc k) l)) c ∙ ap (λ (a : ℕ). width_all a rest) z ∙ width_adds (w + 8) 0 rest ∙ rw (ih, lk) (omega arith)

  pub width_is : width_first 8 n.count n.lens ≡ length (encode (first_of n) (steps_of n))
  unfolding steps_of width_first
  width_is = width_adds 8 0 (take n.count n.lens) ∙ ap (λ (m : ℕ). 8 + m) (width_rest 0 n.count (zero-add n.count)) ∙ sym (length_encode (first_of n) (steps_from n 0 n.count))

-- what `write` makes of the measure
abbrev room_for : List ℕ → Result ℕ WriteError → Result ℕ WriteError
room_for d (Ok len) = pick (ltb (length d) len) (Err ShortDestination) (Ok len)
room_for d (Err e) = Err e

pub record Measured (n : Node) (len : ℕ) : Type 0 where
  pub few : n.count ≤ 8
  pub short : (i : ℕ) → i < n.count → get_or n.lens i 0 ≤ 288
  pub len_is : len ≡ length (encode (first_of n) (steps_of n))

module _ (n : Node) (eight : length n.lens ≡ 8) (keys : length n.keys ≡ 2304) where
  abbrev IfMeasured : Result ℕ WriteError → Type 0
  IfMeasured (Ok len) = Measured n len
  IfMeasured (Err e) = Unit {0}

  if_measured : IfMeasured (measured n.count n.lens n.values)
  unfolding measured
  if_measured =
      by_test IfMeasured (ltb 8 n.count) (λ a. tt) λ a.
      by_test IfMeasured (any_first is_long n.count n.lens) (λ b. tt) λ b.
      by_test IfMeasured (any_first is_none n.count n.values) (λ c. tt) λ c.
      let few = ltb-false 8 n.count a in
      let short : (i : ℕ) → i < n.count → get_or n.lens i 0 ≤ 288 = λ i k. none_long_at n.count n.lens i b k in
      record { few = few; short = short; len_is = width_is n eight keys few short }

  pub measured_fine : {w : Result ℕ WriteError} {len : ℕ} → w ≡ measured n.count n.lens n.values → w ≡ Ok len → Measured n len
  measured_fine e f = subst IfMeasured (sym e ∙ f) if_measured

  written_is : (d : List ℕ) → written_of n d ≡ room_for d (measured n.count n.lens n.values)
  unfolding written_of measured
  written_is d =
      by_test (λ (w : Result ℕ WriteError). w ≡ room_for d (measured n.count n.lens n.values)) (ltb 8 n.count) (λ a. ap (room_for d) (sym (pick_t _ _ a))) λ a.
      by_test (λ (w : Result ℕ WriteError). w ≡ room_for d (measured n.count n.lens n.values)) (any_first is_long n.count n.lens) (λ b. ap (room_for d) (sym (pick_f _ _ a ∙ pick_t _ _ b))) λ b.
      by_test (λ (w : Result ℕ WriteError). w ≡ room_for d (measured n.count n.lens n.values)) (any_first is_none n.count n.values) (λ c. ap (room_for d) (sym (pick_f _ _ a ∙ pick_f _ _ b ∙ pick_t _ _ c))) λ c.
      let few = ltb-false 8 n.count a in
      let short : (i : ℕ) → i < n.count → get_or n.lens i 0 ≤ 288 = λ i k. none_long_at n.count n.lens i b k in
      sym (ap (room_for d) (pick_f _ _ a ∙ pick_f _ _ b ∙ pick_f _ _ c) ∙ rw (width_is n eight keys few short))

  module _ (d : List ℕ) {w : Result ℕ WriteError} (m : w ≡ measured n.count n.lens n.values) where
    -- a refusal of the measure is the answer
    pub write_refused : {e : WriteError} → w ≡ Err e → (Err e ≡ written_of n d) × (d ≡ left_by (written_of n d) n d)
    write_refused f = let is : written_of n d ≡ Err _ = written_is d ∙ ap (room_for d) (sym m ∙ f) in (sym is, rw is)

    module _ {k : ℕ} (f : w ≡ Ok k) where
      pub write_short : length d < k → (Err ShortDestination ≡ written_of n d) × (d ≡ left_by (written_of n d) n d)
      write_short h = let is : written_of n d ≡ Err ShortDestination = written_is d ∙ ap (room_for d) (sym m ∙ f) ∙ pick_t _ _ (lt-ltb (length d) k h) in (sym is, rw is)

      pub write_done : {d2 : List ℕ} → k ≤ length d → d2 ≡ over d 0 (encode (first_of n) (steps_of n)) → (Ok k ≡ written_of n d) × (d2 ≡ left_by (written_of n d) n d)
      write_done h q = let is : written_of n d ≡ Ok k = written_is d ∙ ap (room_for d) (sym m ∙ f) ∙ pick_f _ _ (le-ltb (length d) k h) in (sym is, rw is q)

-- ---- the loop: the first i separators are written

pub record WriteLeft (n : Node) (d₀ d : List ℕ) (at i : ℕ) : Type 0 where
  pub place : at ≡ length (front n i)
  pub bytes : d ≡ over d₀ 0 (front n i)

over_longer : (d b c : List ℕ) → length c ≤ length d → length b ≤ length c → over (over d 0 b) 0 c ≡ over d 0 c
unfolding over
over_longer d b c h k = go (drop_over d 0 (0 + length c) b (omega arith) (omega arith))
  where
    go : drop (0 + length c) (over d 0 b) ≡ drop (0 + length c) d → over (over d 0 b) 0 c ≡ over d 0 c
    go e = ap (λ (t : List ℕ). c ++ t) e

module _ (n : Node) (keys : length n.keys ≡ 2304) {k : ℕ} (fine : Measured n k) where
  front_all : length (front n n.count) ≡ k
  unfolding steps_of
  front_all = sym fine.len_is

  front_first : front n 0 ≡ le 8 (first_of n)
  unfolding encode encode_rest
  front_first = append-nil (le 8 (first_of n))

  front_some : (i : ℕ) → 8 ≤ length (front n i)
  front_some i = omega (arith, length_encode (first_of n) (steps_from n 0 i))

  pub write_start : (d : List ℕ) {d₀ : List ℕ} → k ≤ length d → d₀ ≡ write_at 8 d 0 (first_of n) → WriteLeft n d₀ d₀ 8 0
  write_start d {d₀} h e =
      let l = length_le 8 (first_of n) in
      let g = front_some n.count in
      let f = front_all in
      let is : d₀ ≡ over d 0 (le 8 (first_of n)) = e ∙ write_at_in 8 d 0 (first_of n) (omega arith) in
      record {
        place = sym (ap length front_first ∙ l);
        bytes = is ∙ sym (ap (λ (t : List ℕ). over t 0 (front n 0)) is ∙ rw front_first (over_longer d (le 8 (first_of n)) (le 8 (first_of n)) (omega arith) (omega arith)));
      }

  pub write_keeps : (d : List ℕ) {d₀ : List ℕ} → d₀ ≡ write_at 8 d 0 (first_of n) → length d₀ ≡ length d
  write_keeps d e = ap length e ∙ length_write_at 8 d 0 (first_of n)

  module _ (d₀ : List ℕ) (room : k ≤ length d₀) {d : List ℕ} {at i : ℕ} (left : WriteLeft n d₀ d at i) where
    front_room : i ≤ n.count → length (front n i) ≤ length d₀
    front_room h = omega (arith, front_grows n i n.count h, front_all)

    pub left_length : i ≤ n.count → length d ≡ length d₀
    left_length h = ap length left.bytes ∙ length_over d₀ 0 (front n i) (omega (arith, front_room h))

    module _ (h : i < n.count) where
      key_length : length (part n.keys (288 * i) (get_or n.lens i 0)) ≡ get_or n.lens i 0
      key_length = length_part n.keys (288 * i) (get_or n.lens i 0) (omega (arith, fine.short i h, fine.few))

      width_at : {w : ℕ} → w ≡ sep_length (get_or n.lens i 0) → length (encode_sep (step_at n i).0) ≡ w
      width_at q = length_sep (step_at n i).0 ∙ ap sep_length key_length ∙ sym q

      front_more : {w : ℕ} → w ≡ sep_length (get_or n.lens i 0) → length (front n (i + 1)) ≡ at + w + 8
      front_more q = ap length (front_one n i) ∙ simp length-append (omega (arith, width_at q, length_le 8 (step_at n i).1, left.place))

      pub next_within : {w : ℕ} → w ≡ sep_length (get_or n.lens i 0) → at + w + 8 ≤ k
      next_within q = omega (arith, front_more q, front_grows n (i + 1) n.count (omega arith), front_all)

      put_is : length (step_at n i).0.key ≤ longest_key → at + sep_length (length (step_at n i).0.key) ≤ length d → put_sep d at (step_at n i).0 ≡ over d at (encode_sep (step_at n i).0)
      unfolding put_sep
      put_is s r = pick_f _ _ (le-ltb longest_key (length (step_at n i).0.key) s) ∙ pick_t _ _ (fits_in_lem (length d) at (sep_length (length (step_at n i).0.key)) r)

      pub write_turn : {d1 d2 : List ℕ} {w : ℕ}
          → d1 ≡ put_sep d at (step_at n i).0
          → w ≡ sep_length (get_or n.lens i 0) → d2 ≡ write_at 8 d1 (at + w) (get_or n.children (i + 1) (child_of 0)).0 → WriteLeft n d₀ d2 (at + w + 8) (i + 1)
      write_turn {d1} {d2} {w} p q r =
          let e : Sep ℕ = (step_at n i).0 in
          let c : ℕ = (step_at n i).1 in
          let x : List ℕ = front n i in
          let ls = width_at q in
          let lk = key_length in
          let lc = length_le 8 c in
          let la = left.place in
          let within = next_within q in
          let ld : length d ≡ length d₀ = left_length (omega arith) in
          let s = fine.short i h in
          let ws : sep_length (length e.key) ≡ w = ap sep_length lk ∙ sym q in
          let p1 : d1 ≡ over d₀ 0 (x ++ encode_sep e) =
          p ∙ put_is (omega arith) (omega arith) ∙ rw left.bytes (from_front d₀ x (encode_sep e) at (sym la) (omega arith)) in
          let l1 : length (x ++ encode_sep e) ≡ at + w = simp length-append (omega arith) in
          let ld1 : length d1 ≡ length d₀ = ap length p1 ∙ length_over d₀ 0 (x ++ encode_sep e) (omega arith) in
          record {
            place = sym (front_more q);
            bytes = r ∙ write_at_in 8 d1 (at + w) c (omega arith) ∙ rw p1 (from_front d₀ (x ++ encode_sep e) (le 8 c) (at + w) l1 (omega arith)) ∙ ap (over d₀ 0) (append_assoc x (encode_sep e) (le 8 c) ∙ sym (front_one n i));
          }

    pub write_end : (d' : List ℕ) → k ≤ length d' → d₀ ≡ write_at 8 d' 0 (first_of n) → n.count ≤ i → i ≤ n.count → d ≡ over d' 0 (encode (first_of n) (steps_of n))
    unfolding steps_of
    write_end d' r e h g =
        let q : i ≡ n.count = omega arith in
        let l = length_le 8 (first_of n) in
        let f = front_all in
        let s = front_some n.count in
        left.bytes ∙ rw (q, e, write_at_in 8 d' 0 (first_of n) (omega arith)) (over_longer d' (le 8 (first_of n)) (front n n.count) (omega arith) (omega arith))
