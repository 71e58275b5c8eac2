-- What was written is read: a key in hex, a number in decimal, and lines of sets. Assumes nothing.
use mathlib.Core.Path.{◌≡◌, refl, sym, ap, ◌∙◌}
use mathlib.Core.List.{List, [], ◌∷◌, ◌++◌, append_assoc}
use mathlib.Core.Bool.{Bool, true, false}
use mathlib.Core.Option.{some}
use Prim.Native.Nat.{ℕ, zero, suc, ◌+◌, ◌*◌, ◌/◌, ◌%◌, ◌^◌, ◌≤◌, ◌<◌}
use lib.ListN.{length, get_or, length-append}
use lib.Seq.{drop_at, drop-drop}
use lib.Dec.{ltb}
use native.Mathlib.Nat.{pow-suc}
use native.Mathlib.Omega.{arith}
use borrow.Author.Tests.{ne_eqb, lt-ltb, ltb-true, ltb-false}
use Rattle.word.specs.Pick.{pick_t, pick_f, by_test}
use Rattle.word.specs.Key.{Key}
use Rattle.word.specs.Num.{Bytes}
use Rattle.tree.specs.Map.{Sep}
use Rattle.tree.specs.Batch.{Rec}
use Rattle.tree.proofs.Cases.{by_bool}
use Rattle.lines.specs.Digits.{digit_of, is_hex, hex_key, are_digits, decimal_from, is_padded, is_decimal, digit_byte, hex_of, decimal_up_to, decimal_of}
use Rattle.lines.specs.Lines.{tab, lf, set_word, up_to, has, behind, change_of, set_of, line_of, with_line, lines_of}
use Rattle.lines.specs.Written.{set_line, set_lines}
use Rattle.lines.proofs.CutLaws.{up_to_here, up_to_there}
use Rattle.lines.proofs.DigitLaws.{digit_2, digit_4}
use Rattle.lines.proofs.LinesLaws.{lines_none, lines_cut}

-- ---- a digit

-- a byte of a digit is its digit, and no TAB or LF
pub record Digit (d b : ℕ) : Type 0 where
  pub counts : digit_of b ≡ d
  pub above : lf < b

digit_low : (d : ℕ) → d < 10 → Digit d (48 + d)
digit_low d h = record { counts = sym (digit_2 (48 + d) (omega arith) (omega arith)) ∙ omega arith; above = omega arith }

digit_written : (d : ℕ) → d < 16 → Digit d (digit_byte d)
unfolding digit_byte
digit_written d h =
    by_bool (ltb d 10)
    (λ t. let l = ltb-true d 10 t in rw (pick_t (48 + d) (87 + d) t) (digit_low d l))
    (λ t. let l = ltb-false d 10 t in rw (pick_f (48 + d) (87 + d) t) (record { counts = sym (digit_4 (87 + d) (omega arith) (omega arith)) ∙ omega arith; above = omega arith }))

-- no byte is TAB or LF
abbrev pub Plain : List ℕ → Type 0
Plain [] = Unit {0}
Plain (x ∷ s) = (lf < x) × Plain s

plain_append : (a b : List ℕ) → Plain a → Plain b → Plain (a ++ b)
plain_append [] b p q = q
plain_append (x ∷ a) b p q = (p.0, plain_append a b p.1 q)

-- ---- a key

pub hex_plain : (k : Key) → Bytes k → Plain (hex_of k)
unfolding hex_of
hex_plain [] p = tt
hex_plain (b ∷ k) p =
    let h = p.0 in
    ((digit_written (b / 16) (omega arith)).above, ((digit_written (b % 16) (omega arith)).above, hex_plain k p.1))

pub hex_is : (k : Key) → Bytes k → is_hex (hex_of k) ≡ true
unfolding hex_of is_hex
hex_is [] p = refl
hex_is (b ∷ k) p =
    let h = p.0 in
    let high = (digit_written (b / 16) (omega arith)).counts in
    let low = (digit_written (b % 16) (omega arith)).counts in
    rw (high, low, lt-ltb (b / 16) 16 (omega arith), lt-ltb (b % 16) 16 (omega arith)) (hex_is k p.1)

-- "key in lowercase hex": written, then read
pub hex_back : (k : Key) → Bytes k → hex_key (hex_of k) ≡ k
unfolding hex_of hex_key
hex_back [] p = refl
hex_back (b ∷ k) p =
    let h = p.0 in
    let high = (digit_written (b / 16) (omega arith)).counts in
    let low = (digit_written (b % 16) (omega arith)).counts in
    let e : b / 16 * 16 + b % 16 ≡ b = omega arith in
    rw (high, low, e, hex_back k p.1)

-- ---- a number

decimal_append : (v : ℕ) (a b : List ℕ) → decimal_from v (a ++ b) ≡ decimal_from (decimal_from v a) b
unfolding decimal_from
decimal_append v [] b = refl
decimal_append v (x ∷ a) b = decimal_append (v * 10 + digit_of x) a b

digits_append : (a b : List ℕ) → are_digits a ≡ true → are_digits b ≡ true → are_digits (a ++ b) ≡ true
unfolding are_digits
digits_append [] b p q = q
digits_append (x ∷ a) b p q = by_bool (ltb (digit_of x) 10) (λ t. rw t (digits_append a b (rw t at p) q)) (λ t. cc)

-- what the digits of v are, where k + 1 are enough
record Written (v : ℕ) (s : List ℕ) : Type 0 where
  value : decimal_from 0 s ≡ v
  digits : are_digits s ≡ true
  plain : Plain s
  some_digit : 0 < length s
  leads : (get_or s 0 0 ≡ 48) → v ≡ 0

written_one : (v : ℕ) → v < 10 → Written v ((48 + v) ∷ [])
unfolding decimal_from are_digits
written_one v h =
    let d = digit_low v h in
    record {
      value = rw d.counts (omega arith);
      digits = rw (d.counts, lt-ltb v 10 h);
      plain = (d.above, tt);
      some_digit = omega arith;
      leads = λ e. omega arith;
    }

get_or_first : (a b : List ℕ) → 0 < length a → get_or (a ++ b) 0 0 ≡ get_or a 0 0
get_or_first [] b h = absurd (omega arith)
get_or_first (x ∷ a) b h = refl

written_more : (v : ℕ) (s : List ℕ) → 10 ≤ v → Written (v / 10) s → Written v (s ++ ((48 + v % 10) ∷ []))
unfolding decimal_from are_digits
written_more v s h w =
    let d = digit_low (v % 10) (omega arith) in
    let n = w.some_digit in
    record {
      value = decimal_append 0 s ((48 + v % 10) ∷ []) ∙ rw (w.value, d.counts) (omega arith);
      digits = digits_append s ((48 + v % 10) ∷ []) w.digits (rw (d.counts, lt-ltb (v % 10) 10 (omega arith)));
      plain = plain_append s ((48 + v % 10) ∷ []) w.plain (d.above, tt);
      some_digit = simp length-append (omega arith);
      leads = λ e. let z = w.leads (sym (get_or_first s ((48 + v % 10) ∷ []) n) ∙ e) in absurd (omega arith);
    }

written : (k v : ℕ) → v < 10 ^ suc k → Written v (decimal_up_to k v)
unfolding decimal_up_to
written zero v h = let e = rw (pow-suc 10 0) at h in let m : v % 10 ≡ v = omega arith in rw m (written_one v (omega arith))
written (suc k) v h =
    by_test (λ (s : List ℕ). Written v s) (ltb v 10)
    (λ t. written_one v (ltb-true v 10 t))
    (λ t. let l = ltb-false v 10 t in let e = rw (pow-suc 10 (suc k)) at h in written_more v (decimal_up_to k (v / 10)) l (written k (v / 10) (omega arith)))

written_u64 : (v : ℕ) → v < 256 ^ 8 → Written v (decimal_of v)
unfolding decimal_of
written_u64 v h = written 19 v (omega arith)

pub decimal_plain : (v : ℕ) → v < 256 ^ 8 → Plain (decimal_of v)
decimal_plain v h = (written_u64 v h).plain

-- "decimal": written, then read
pub decimal_back : (v : ℕ) → v < 256 ^ 8 → decimal_from 0 (decimal_of v) ≡ v
decimal_back v h = (written_u64 v h).value

-- "no .. leading zeros": one digit, or the first is no 0
plainly : (v : ℕ) → v < 256 ^ 8 → is_padded (decimal_of v) ≡ false
unfolding is_padded decimal_of decimal_up_to
plainly v h =
    let w = written_u64 v h in
    by_bool (ltb v 10)
    (λ t. pick_t _ _ (rw (pick_t ((48 + v) ∷ []) (decimal_up_to 18 (v / 10) ++ ((48 + v % 10) ∷ [])) t) (lt-ltb 1 2 (omega arith))))
    (λ t.
    let l = ltb-false v 10 t in
    by_test (λ (b : Bool). b ≡ false) (ltb (length (decimal_up_to 19 v)) 2) (λ s. refl) (λ s. ne_eqb (get_or (decimal_up_to 19 v) 0 0) 48 (λ e. let z = w.leads e in omega arith)))

pub decimal_is : (v : ℕ) → v < 256 ^ 8 → is_decimal (decimal_of v) ≡ true
unfolding is_decimal is_padded
decimal_is v h =
    let w = written_u64 v h in
    let n = w.some_digit in
    pick_f _ _ (ne_eqb (length (decimal_of v)) 0 (λ e. omega arith)) ∙ pick_f _ _ (plainly v h)
    ∙ pick_t _ _ w.digits ∙ lt-ltb (decimal_from 0 (decimal_of v)) (256 ^ 8) (rw w.value h)

-- ---- a line

-- cut behind bytes that are none of its kind
abbrev Without : ℕ → List ℕ → Type 0
Without b [] = Unit {0}
Without b (x ∷ s) = (x ≡ b → ⊥) × Without b s

without_append : (b : ℕ) (a s : List ℕ) → Without b a → Without b s → Without b (a ++ s)
without_append b [] s p q = q
without_append b (x ∷ a) s p q = (p.0, without_append b a s p.1 q)

without : (b : ℕ) (s : List ℕ) → b ≤ lf → Plain s → Without b s
without b [] h p = tt
without b (x ∷ s) h p = let g = p.0 in ((λ e. omega arith), without b s h p.1)

module _ (b : ℕ) where
  up_to_without : (a s : List ℕ) → Without b a → up_to b (a ++ (b ∷ s)) ≡ a
  up_to_without [] s p = up_to_here b b s refl
  up_to_without (x ∷ a) s p = up_to_there b x (a ++ (b ∷ s)) (ne_eqb x b p.0) ∙ ap (λ (t : List ℕ). x ∷ t) (up_to_without a s p.1)

  has_without : (a s : List ℕ) → Without b a → has b (a ++ (b ∷ s)) ≡ true
  unfolding has
  has_without a s p = rw (up_to_without a s p) (lt-ltb (length a) (length (a ++ (b ∷ s))) (simp length-append (omega arith)))

  behind_without : (a s : List ℕ) → Without b a → behind b (a ++ (b ∷ s)) ≡ s
  unfolding behind
  behind_without a s p = rw (up_to_without a s p) (sym (drop-drop 1 (length a) (a ++ (b ∷ s))) ∙ rw (drop_at a (b ∷ s) (length a) refl))

module _ (k : Key) (v : ℕ) (bytes : Bytes k) (small : v < 256 ^ 8) where
  abbrev fields : List ℕ
  fields = hex_of k ++ (tab ∷ decimal_of v)

  no_tab : Without tab (hex_of k)
  no_tab = without tab (hex_of k) (omega arith) (hex_plain k bytes)

  abbrev set : Rec ℕ
  set = record { key = k; op = some v }

  set_read : set_of fields ≡ some set
  unfolding set_of change_of
  set_read =
      pick_t _ _ (has_without tab (hex_of k) (decimal_of v) no_tab)
      ∙ rw (up_to_without tab (hex_of k) (decimal_of v) no_tab, behind_without tab (hex_of k) (decimal_of v) no_tab)
      (pick_t _ _ (decimal_is v small) ∙ pick_t _ _ (hex_is k bytes) ∙ rw (hex_back k bytes, decimal_back v small))

  word_plain : Plain set_word
  word_plain = (omega arith, (omega arith, (omega arith, tt)))

  line_read : line_of (set_word ++ (tab ∷ fields)) ≡ some set
  unfolding line_of
  line_read =
      let w = without tab set_word (omega arith) word_plain in
      pick_t _ _ (has_without tab set_word fields w)
      ∙ rw (up_to_without tab set_word fields w, behind_without tab set_word fields w) (pick_t _ _ refl ∙ set_read)

  no_lf : Without lf (set_word ++ (tab ∷ fields))
  no_lf =
      without_append lf set_word (tab ∷ fields) (without lf set_word (omega arith) word_plain) (
        (λ e. omega arith),
        without_append lf (hex_of k) (tab ∷ decimal_of v) (without lf (hex_of k) (omega arith) (hex_plain k bytes))
            ((λ e. omega arith), without lf (decimal_of v) (omega arith) (decimal_plain v small)),
      )

  pub first_line : (s : List ℕ) → lines_of (set_line k v ++ s) ≡ with_line (some set) (lines_of s)
  first_line s =
      let l : List ℕ = set_word ++ (tab ∷ fields) in
      let e : set_line k v ++ s ≡ l ++ (lf ∷ s) = simp append_assoc in
      ap lines_of e ∙ lines_cut (l ++ (lf ∷ s)) (has_without lf l s no_lf)
      ∙ rw (up_to_without lf l s no_lf, behind_without lf l s no_lf, line_read)

-- ---- lines of sets

abbrev pub AllSmall : List (Sep ℕ) → Type 0
AllSmall [] = Unit {0}
AllSmall (e ∷ es) = Bytes e.key × (e.val < 256 ^ 8) × AllSmall es

abbrev pub sets : List (Sep ℕ) → List (Rec ℕ)
sets [] = []
sets (e ∷ es) = record { key = e.key; op = some e.val } ∷ sets es

-- entries written as lines of sets say those sets
pub sets_back : (es : List (Sep ℕ)) → AllSmall es → lines_of (set_lines es) ≡ some (sets es)
sets_back [] p = lines_none
sets_back (e ∷ es) p = first_line e.key e.val p.0 p.1 (set_lines es) ∙ rw (sets_back es p.2)
