-- The writers: how many digits a number has, and the ways through the functions that write digits. Assumes nothing.
use mathlib.Core.Path.{◌≡◌, refl, sym, ap, ◌∙◌}
use mathlib.Core.List.{List, [], ◌∷◌, ◌++◌, append_assoc, append-nil}
use mathlib.Core.Bool.{Bool, true, false, not}
use Prim.Native.Nat.{ℕ, zero, suc, ◌+◌, ◌-◌, ◌*◌, ◌/◌, ◌%◌, ◌^◌, ◌≤◌, ◌<◌}
use lib.ListN.{length, get_or, set, take, drop, length-append}
use lib.Seq.{take_all, take-append-le, take-take, drop_at, take-suc, length-take-le}
use lib.Dec.{ltb}
use native.Mathlib.Nat.{pow-suc}
use native.Mathlib.Numerals.{add-one}
use native.Mathlib.Omega.{arith}
use borrow.Author.Tests.{lt-ltb, le-ltb, le-leb, lt-leb, ltb-true, ltb-false, not-true, not-false}
use Rattle.std.specs.Prelude.{Some, None}
use Rattle.word.specs.Pick.{pick_t, pick_f, by_test}
use Rattle.word.specs.Key.{Key}
use Rattle.word.specs.Part.{over, part}
use Rattle.word.specs.At.{fits_in, copy_at}
use Rattle.word.proofs.PartLaws.{length_over, over_none, set_over}
use Rattle.word.proofs.AtLaws.{fits_in_lem, fits_out, fitted, unfitted, copy_at_in}
use Rattle.tree.proofs.Cases.{by_bool}
use Rattle.lines.specs.Digits.{digit_byte, hex_of, decimal_up_to, decimal_of}
use Rattle.lines.specs.Lines.{tab, lf}
use Rattle.lines.specs.Written.{entry_line, refused_word, refused_line, Writes}
use Rattle.lines.specs.Mirror.{put_at}
use Rattle.lines.proofs.PutLaws.{over_next}

-- ---- the digits of a number

decimal_few : (v : ℕ) → v < 10 → decimal_of v ≡ (48 + v) ∷ []
unfolding decimal_of decimal_up_to
decimal_few v h = pick_t _ _ (lt-ltb v 10 h)

-- one place more changes nothing where the places are enough
enough : (k w : ℕ) → w < 10 ^ suc k → decimal_up_to k w ≡ decimal_up_to (suc k) w
unfolding decimal_up_to
enough zero w h =
    let e = rw (pow-suc 10 0) at h in
    let m : w % 10 ≡ w = omega arith in
    rw m (sym (pick_t _ _ (lt-ltb w 10 (omega arith))))
enough (suc k) w h =
    let e = rw (pow-suc 10 (suc k)) at h in
    by_bool (ltb w 10) (λ t. pick_t _ _ t ∙ sym (pick_t _ _ t))
    (λ t. pick_f _ _ t ∙ ap (λ (s : List ℕ). s ++ ((48 + w % 10) ∷ [])) (enough k (w / 10) (omega arith)) ∙ sym (pick_f _ _ t))

decimal_many : (v : ℕ) → 10 ≤ v → v < 256 ^ 8 → decimal_of v ≡ decimal_of (v / 10) ++ ((48 + v % 10) ∷ [])
unfolding decimal_of
decimal_many v h small = go
  where
    go : decimal_up_to 19 v ≡ decimal_up_to 19 (v / 10) ++ ((48 + v % 10) ∷ [])
    go = unfold decimal_up_to in (pick_f _ _ (le-ltb v 10 h)) ∙ ap (λ (s : List ℕ). s ++ ((48 + v % 10) ∷ [])) (enough 18 (v / 10) (omega arith))

some_digit : (k v : ℕ) → 1 ≤ length (decimal_up_to k v)
unfolding decimal_up_to
some_digit zero v = omega arith
some_digit (suc k) v = by_test (λ (s : List ℕ). 1 ≤ length s) (ltb v 10) (λ t. omega arith) (λ t. simp length-append (omega arith))

pub at_least_1 : (v : ℕ) → 1 ≤ length (decimal_of v)
unfolding decimal_of
at_least_1 v = some_digit 19 v

-- ---- how many digits, by the power of ten that a number reaches

pub digits_few : (v : ℕ) → v < 10 → 1 ≡ length (decimal_of v)
digits_few v h = sym (ap length (decimal_few v h))

pub digits_many : (k v : ℕ) → 10 ^ k ≤ v → v < 10 * 10 ^ k → v < 256 ^ 8 → k + 1 ≡ length (decimal_of v)
digits_many zero v h g small = digits_few v (omega arith)
digits_many (suc k) v h g small =
    let p = pow-suc 10 k in
    let one_less = digits_many k (v / 10) (omega arith) (omega arith) (omega arith) in
    let e : length (decimal_of v) ≡ length (decimal_of (v / 10)) + 1 = ap length (decimal_many v (omega arith) small) ∙ simp length-append in
    omega arith

-- ---- bytes at a place

pub put_at_in : (d : List ℕ) (at : ℕ) (b : List ℕ) → at + length b ≤ length d → put_at d at b ≡ over d at b
unfolding put_at
put_at_in d at b h = pick_t _ _ (fits_in_lem _ _ _ h)

put_at_out : (d : List ℕ) (at : ℕ) (b : List ℕ) → length d < at + length b → put_at d at b ≡ d
unfolding put_at
put_at_out d at b h = pick_f _ _ (fits_out _ _ _ h)

-- a byte stored before those that are stored already
over_before : (d : List ℕ) (a : ℕ) (b : List ℕ) (i c : ℕ) → i ≡ a + 1 → i + length b ≤ length d → set (over d i b) a c ≡ over d a (c ∷ b)
over_before d a b i c e h =
    set_over (over d i b) a c (omega (arith, length_over d i b h)) ∙ go
  where
    go : over (over d i b) a (c ∷ []) ≡ over d a (c ∷ b)
    go = unfold over in
        let l : length (take i d) ≡ i = length-take-le i d (omega arith) in
        let f : a + suc (length b) ≡ i + length b = omega arith in
        rw (take-append-le a (take i d) (b ++ drop (i + length b) d) (omega arith), take-take a i d (omega arith), ← e, drop_at (take i d) (b ++ drop (i + length b) d) i l, f)

-- ---- the ways through `put_decimal`

-- the digits of v, of which i are left
abbrev pub left : ℕ → ℕ → List ℕ
left zero v = []
left (suc i) v = decimal_of v

left_some : (i v : ℕ) → 0 < i → left i v ≡ decimal_of v
left_some zero v h = absurd (omega arith)
left_some (suc i) v h = refl

one_less : (v i : ℕ) → v < 256 ^ 8 → i ≡ length (decimal_of v) → (decimal_of v ≡ left (i - 1) (v / 10) ++ ((48 + v % 10) ∷ [])) × (i - 1 ≡ length (left (i - 1) (v / 10)))
one_less v i small e =
    by_bool (ltb v 10)
    (λ t.
    let h = ltb-true v 10 t in
    let few = decimal_few v h in
    let n : length (decimal_of v) ≡ 1 = ap length few in
    let z : i - 1 ≡ 0 = omega arith in
    let m : v % 10 ≡ v = omega arith in
    rw (z, m) (few, refl))
    (λ t.
    let h = ltb-false v 10 t in
    let many = decimal_many v h small in
    let n : length (decimal_of v) ≡ length (decimal_of (v / 10)) + 1 = ap length many ∙ simp length-append in
    let o = at_least_1 (v / 10) in
    let l : left (i - 1) (v / 10) ≡ decimal_of (v / 10) = left_some (i - 1) (v / 10) (omega arith) in
    rw l (many, omega arith))

module _ (d : List ℕ) (at value : ℕ) where
  pub decimal_out : {f : Bool} {n : ℕ} → n ≡ length (decimal_of value) → f ≡ fits_in (length d) at n → not f ≡ true → d ≡ put_at d at (decimal_of value)
  decimal_out e q t = sym (put_at_out d at (decimal_of value) (unfitted (length d) at (length (decimal_of value)) (q ∙ rw e) (not-true _ t)))

  -- the last digits stand at their place, and the i digits of v do not
  pub record Standing (v i : ℕ) (e : List ℕ) : Type 0 where
    pub last : List ℕ
    pub splits : decimal_of value ≡ left i v ++ last
    pub index : i ≡ length (left i v)
    pub bytes : e ≡ over d (at + i) last

  pub stand_start : {n : ℕ} → n ≡ length (decimal_of value) → Standing value n d
  stand_start {n} e =
      let h = at_least_1 value in
      let l : left n value ≡ decimal_of value = left_some n value (omega arith) in
      record { last = []; splits = sym (append-nil (left n value) ∙ l); index = e ∙ sym (ap length l); bytes = sym (over_none d (at + n)) }

  module _ (v i : ℕ) {e : List ℕ} (s : Standing v i e) (room : at + length (decimal_of value) ≤ length d) where
    long : length (decimal_of value) ≡ i + length s.last
    long = let x = s.index in ap length s.splits ∙ simp length-append (omega arith)

    pub stand_turn : 0 < i → v < 256 ^ 8 → Standing (v / 10) (i - 1) (set e (at + (i - 1)) (48 + v % 10))
    stand_turn h small =
        let l = long in
        let some : left i v ≡ decimal_of v = left_some i v h in
        let w = one_less v i small (s.index ∙ ap length some) in
        record {
          last = (48 + v % 10) ∷ s.last;
          splits = s.splits ∙ ap (λ (t : List ℕ). t ++ s.last) (some ∙ w.0) ∙ simp append_assoc;
          index = w.1;
          bytes = ap (λ (t : List ℕ). set t (at + (i - 1)) (48 + v % 10)) s.bytes ∙ over_before d (at + (i - 1)) s.last (at + i) (48 + v % 10) (omega arith) (omega arith);
        }

    pub stand_end : i ≡ 0 → e ≡ put_at d at (decimal_of value)
    stand_end z =
        let f : at + i ≡ at = omega arith in
        let w : decimal_of value ≡ s.last = rw z at s.splits in
        s.bytes ∙ rw (f, ← w) (sym (put_at_in d at (decimal_of value) room))

-- ---- the ways through `digit_byte` and `put_hex`

pub byte_1 : (n : ℕ) → n < 10 → 48 + n ≡ digit_byte n
unfolding digit_byte
byte_1 n h = sym (pick_t _ _ (lt-ltb n 10 h))

pub byte_2 : (n : ℕ) → 10 ≤ n → 97 - 10 + n ≡ digit_byte n
unfolding digit_byte
byte_2 n h = let e : 97 - 10 + n ≡ 87 + n = omega arith in e ∙ sym (pick_f _ _ (le-ltb n 10 h))

pub length_hex_of : (k : Key) → length (hex_of k) ≡ length k * 2
unfolding hex_of
length_hex_of [] = omega arith
length_hex_of (b ∷ k) = let h = length_hex_of k in omega arith

hex_of_append : (a b : Key) → hex_of (a ++ b) ≡ hex_of a ++ hex_of b
unfolding hex_of
hex_of_append [] b = refl
hex_of_append (x ∷ a) b = rw (hex_of_append a b)

-- bytes put behind those at the front
module _ (d b : List ℕ) (i : ℕ) {e : List ℕ} (long : length b ≡ i) (front : e ≡ over d 0 b) where
  front_long : i ≤ length d → length e ≡ length d
  front_long h = rw front (length_over d 0 b (omega arith))

  pub put_more : (c : List ℕ) → i + length c ≤ length d → put_at e i c ≡ over d 0 (b ++ c)
  put_more c h =
      let z : 0 + i ≡ i = omega arith in
      let l = front_long (omega arith) in
      put_at_in e i c (omega arith) ∙ rw front (rw z at (over_next d 0 b c i long (omega arith)))

  pub set_more : (c : ℕ) → i < length d → set e i c ≡ over d 0 (b ++ (c ∷ []))
  set_more c h =
      let z : 0 + i ≡ i = omega arith in
      let l = front_long (omega arith) in
      set_over e i c (omega arith) ∙ rw front (rw z at (over_next d 0 b (c ∷ []) i long (omega arith)))

module _ (d : List ℕ) (key : Key) where
  pub hex_out : length d / 2 < length key → d ≡ put_at d 0 (hex_of key)
  hex_out h = let l = length_hex_of key in sym (put_at_out d 0 (hex_of key) (omega arith))

  -- i bytes stand in hex
  pub record Hexed (i : ℕ) (e : List ℕ) : Type 0 where
    pub bytes : e ≡ over d 0 (hex_of (take i key))

  pub hex_start : Hexed 0 d
  unfolding hex_of
  hex_start = record { bytes = sym (over_none d 0) }

  module _ (i : ℕ) {e : List ℕ} (s : Hexed i e) (room : length key * 2 ≤ length d) where
    pub hex_turn : {h l : ℕ} → i < length key → get_or key i 0 < 256 → h ≡ digit_byte (get_or key i 0 / 16 % 16) → l ≡ digit_byte (get_or key i 0 % 16) → Hexed (i + 1) (set (set e (i * 2) h) (i * 2 + 1) l)
    unfolding hex_of
    hex_turn {h} {l} g small p q =
        let x : List ℕ = hex_of (take i key) in
        let t : length (take i key) ≡ i = length-take-le i key (omega arith) in
        let n : length x ≡ i * 2 = length_hex_of (take i key) ∙ rw t in
        let m : length (x ++ (h ∷ [])) ≡ i * 2 + 1 = simp length-append (omega arith) in
        let high : get_or key i 0 / 16 % 16 ≡ get_or key i 0 / 16 = omega arith in
        let one = set_more d x (i * 2) n s.bytes h (omega arith) in
        let two = set_more d (x ++ (h ∷ [])) (i * 2 + 1) m one l (omega arith) in
        let w : (x ++ (h ∷ [])) ++ (l ∷ []) ≡ hex_of (take (i + 1) key) =
        sym (rw add-one (ap hex_of (take-suc key i 0 g) ∙ hex_of_append (take i key) (get_or key i 0 ∷ []) ∙ rw (p, q, high) (simp append_assoc))) in
        record { bytes = two ∙ ap (over d 0) w }

    pub hex_end : length key ≤ i → e ≡ put_at d 0 (hex_of key)
    hex_end g =
        let l = length_hex_of key in
        s.bytes ∙ rw (take_all i key g) (sym (put_at_in d 0 (hex_of key) (omega arith)))

-- ---- whole lines

module _ (line d : List ℕ) where
  writes_in : (r : ℕ) (e : List ℕ) → length line ≤ length d → r ≡ length line → e ≡ over d 0 line → Writes line d (Some r) e
  unfolding Writes over
  writes_in r e h p q = let z : 0 + length line ≡ length line = omega arith in rw (le-leb (length line) (length d) h) (ap Some p, rw z at q)

  writes_out : length d < length line → Writes line d None d
  unfolding Writes
  writes_out h = rw (lt-leb (length line) (length d) h) (refl, refl)

module _ (key : Key) (value : ℕ) (d : List ℕ) {n : ℕ} (size : n ≡ length (decimal_of value)) where
  length_entry : length (entry_line key value) ≡ length key * 2 + (2 + n)
  length_entry = let h = length_hex_of key in simp length-append (omega arith)

  pub entry_1 : length d / 2 < length key → Writes (entry_line key value) d None d
  entry_1 h = let l = length_entry in writes_out (entry_line key value) d (omega arith)

  module _ {f : Bool} (room : f ≡ fits_in (length d) (length key * 2) (n + 2)) where
    pub entry_2 : not f ≡ true → Writes (entry_line key value) d None d
    entry_2 t = let l = length_entry in let u = unfitted (length d) (length key * 2) (n + 2) room (not-true _ t) in writes_out (entry_line key value) d (omega arith)

    module _ (inside : not f ≡ false) where
      pub entry_within : length key * 2 + (n + 2) ≤ length d
      entry_within = fitted (length d) (length key * 2) (n + 2) room (not-false _ inside)

      pub entry_3 : {e1 e3 : List ℕ} → e1 ≡ put_at d 0 (hex_of key) → e3 ≡ put_at (set e1 (length key * 2) tab) (length key * 2 + 1) (decimal_of value)
          → Writes (entry_line key value) d (Some (length key * 2 + 2 + n)) (set e3 (length key * 2 + 1 + n) lf)
      entry_3 {e1} {e3} p q =
          let hl = length_hex_of key in
          let w = entry_within in
          let ll = length_entry in
          let x : List ℕ = hex_of key in
          let y : List ℕ = decimal_of value in
          let one : e1 ≡ over d 0 x = p ∙ put_at_in d 0 x (omega arith) in
          let two = set_more d x (length key * 2) hl one tab (omega arith) in
          let m2 : length (x ++ (tab ∷ [])) ≡ length key * 2 + 1 = simp length-append (omega arith) in
          let three : e3 ≡ over d 0 ((x ++ (tab ∷ [])) ++ y) = q ∙ put_more d (x ++ (tab ∷ [])) (length key * 2 + 1) m2 two y (omega arith) in
          let m3 : length ((x ++ (tab ∷ [])) ++ y) ≡ length key * 2 + 1 + n = simp length-append (omega arith) in
          let four = set_more d ((x ++ (tab ∷ [])) ++ y) (length key * 2 + 1 + n) m3 three lf (omega arith) in
          let same : ((x ++ (tab ∷ [])) ++ y) ++ (lf ∷ []) ≡ entry_line key value = simp append_assoc in
          writes_in (entry_line key value) d _ _ (omega arith) (omega arith) (four ∙ ap (over d 0) same)

module _ (number applied : ℕ) (d : List ℕ) {n m : ℕ} (size : n ≡ length (decimal_of number)) (count : m ≡ length (decimal_of applied)) where
  length_refused : length (refused_line number applied) ≡ 10 + n + m
  length_refused = simp length-append (omega arith)

  pub refused_1 : length d < 10 + n + m → Writes (refused_line number applied) d None d
  refused_1 h = let l = length_refused in writes_out (refused_line number applied) d (omega arith)

  module _ (room : 10 + n + m ≤ length d) where
    pub refused_2 : {e1 e2 e4 : List ℕ} → e1 ≡ copy_at d 0 (refused_word ++ (tab ∷ [])) 0 8 → e2 ≡ put_at e1 8 (decimal_of number)
        → e4 ≡ put_at (set e2 (8 + n) tab) (9 + n) (decimal_of applied) → Writes (refused_line number applied) d (Some (10 + n + m)) (set e4 (9 + n + m) lf)
    unfolding part
    refused_2 {e1} {e2} {e4} p q r =
        let ll = length_refused in
        let x : List ℕ = refused_word ++ (tab ∷ []) in
        let y : List ℕ = decimal_of number in
        let z : List ℕ = decimal_of applied in
        let one : e1 ≡ over d 0 x = p ∙ copy_at_in d 0 x 0 8 (omega arith) (omega arith) in
        let two : e2 ≡ over d 0 (x ++ y) = q ∙ put_more d x 8 refl one y (omega arith) in
        let m2 : length (x ++ y) ≡ 8 + n = simp length-append (omega arith) in
        let three = set_more d (x ++ y) (8 + n) m2 two tab (omega arith) in
        let m3 : length ((x ++ y) ++ (tab ∷ [])) ≡ 9 + n = simp length-append (omega arith) in
        let four : e4 ≡ over d 0 (((x ++ y) ++ (tab ∷ [])) ++ z) = r ∙ put_more d ((x ++ y) ++ (tab ∷ [])) (9 + n) m3 three z (omega arith) in
        let m4 : length (((x ++ y) ++ (tab ∷ [])) ++ z) ≡ 9 + n + m = simp length-append (omega arith) in
        let five = set_more d (((x ++ y) ++ (tab ∷ [])) ++ z) (9 + n + m) m4 four lf (omega arith) in
        let same : (((x ++ y) ++ (tab ∷ [])) ++ z) ++ (lf ∷ []) ≡ refused_line number applied = simp append_assoc in
        writes_in (refused_line number applied) d _ _ (omega arith) (sym ll) (five ∙ ap (over d 0) same)
