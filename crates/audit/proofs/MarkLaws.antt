-- Mark words: testing a bit, setting a clear one, counting the ones, and that they depend on which slots are marked only. Assumes
-- nothing.
use mathlib.Core.Path.{◌≡◌, refl, sym, ap, subst, ◌∙◌}
use mathlib.Core.List.{List, [], ◌∷◌}
use mathlib.Core.Bool.{Bool, true, false}
use Prim.Native.Nat.{ℕ, zero, suc, ◌+◌, ◌*◌, ◌-◌, ◌/◌, ◌%◌, ◌^◌, ◌≤◌, ◌<◌}
use native.Mathlib.Nat.{pow-suc, div-one, div-add-mod', mod-lt, zero-lt-suc}
use native.Mathlib.Omega.{arith}
use lib.ListN.{length, get_or, set, take}
use lib.Dec.{leb}
use lib.Arith.{digits_div, digits_mod}
use lib.Pow.{shr-shr}
use lib.Count.{ones, ones_step}
use borrow.Author.Tests.{leb-true, leb-false, le-leb, ne_eqb}
use Rattle.word.specs.Num.{zeros}
use Rattle.tree.specs.Free.{bit, occurs, in_store}
use Rattle.tree.proofs.Cases.{by_bool}
use Rattle.tree.proofs.Slots.{in_store_le, total, within_total}
use Rattle.slots.proofs.Framing.{Within, occurs_itself}
use Rattle.audit.specs.Marks.{words_for, word_of, bit_of, mark_of, among, bits_from, words_from, mark_words, all_ones}
use Rattle.audit.specs.Walk.{marked}
use Rattle.audit.proofs.ChainLaws.{total_most}

bit_small : (b : Bool) → bit b < 2
bit_small true = omega arith
bit_small false = omega arith

among_small : (us : List ℕ) (x : ℕ) → among us x < 2
among_small us x = bit_small (leb 1 (occurs x us))

among_absent : (us : List ℕ) (x : ℕ) → occurs x us ≡ 0 → among us x ≡ 0
among_absent us x z = rw z

among_here : (us : List ℕ) (x : ℕ) → among (x ∷ us) x ≡ 1
among_here us x = rw (le-leb 1 (occurs x (x ∷ us)) (omega (arith, occurs_itself x)))

among_other : (us : List ℕ) (x y : ℕ) → (x ≡ y → ⊥) → among (y ∷ us) x ≡ among us x
among_other us x y ne = let e : occurs x (y ∷ us) ≡ occurs x us = rw (ne_eqb x y ne) (omega arith) in ap (λ (n : ℕ). bit (leb 1 n)) e

-- ---- one word

-- twice r and a bit
half : (r a : ℕ) → a < 2 → (r * 2 + a) / 2 ≡ r
half r a h = digits_div r h

lowest : (r a : ℕ) → a < 2 → (r * 2 + a) % 2 ≡ a
lowest r a h = digits_mod r h

pub shift : (n b : ℕ) → n / 2 ^ suc b ≡ n / 2 / 2 ^ b
shift n b = let e : 1 + b ≡ suc b = omega arith in sym (shr-shr n 1 b ∙ ap (λ (k : ℕ). n / 2 ^ k) e)

module _ (us : List ℕ) where
  pub bits_small : (x k : ℕ) → bits_from us x k < 2 ^ k
  unfolding bits_from
  bits_small x zero = omega arith
  bits_small x (suc k) = rw (pow-suc 2 k) (omega (arith, bits_small (suc x) k, among_small us x))

  -- bit b tells of slot x + b
  pub bit_tells : (x k b : ℕ) → b < k → bits_from us x k / 2 ^ b % 2 ≡ among us (x + b)
  unfolding bits_from
  bit_tells x zero b h = absurd (omega arith)
  bit_tells x (suc k) zero h =
      let e : x + 0 ≡ x = omega arith in
      rw (div-one (bits_from us (suc x) k * 2 + among us x), e) (lowest (bits_from us (suc x) k) (among us x) (among_small us x))
  bit_tells x (suc k) (suc b) h =
      let e : x + suc b ≡ suc x + b = omega arith in
      rw (shift (bits_from us (suc x) k * 2 + among us x) b, half (bits_from us (suc x) k) (among us x) (among_small us x), e) (bit_tells (suc x) k b (omega arith))

  -- a slot of which these bits don't tell changes nothing
  bits_outside : (y x k : ℕ) → ((i : ℕ) → i < k → x + i ≡ y → ⊥) → bits_from (y ∷ us) x k ≡ bits_from us x k
  unfolding bits_from
  bits_outside y x zero h = refl
  bits_outside y x (suc k) h =
      let e = among_other us x y (λ q. h 0 (omega arith) (omega arith)) in
      let ih = bits_outside y (suc x) k (λ i l q. h (suc i) (omega arith) (omega arith)) in
      omega arith

  -- one that is new sets its bit
  pub bits_set : (x k b : ℕ) → b < k → occurs (x + b) us ≡ 0 → bits_from ((x + b) ∷ us) x k ≡ bits_from us x k + 2 ^ b
  unfolding bits_from
  bits_set x zero b h z = absurd (omega arith)
  bits_set x (suc k) zero h z =
      let e : x + 0 ≡ x = omega arith in
      let v = rw e at z in
      let w = bits_outside x (suc x) k (λ i l q. omega arith) in
      let a = among_here us x in
      let c = among_absent us x v in
      subst (λ (y : ℕ). bits_from (y ∷ us) x (suc k) ≡ bits_from us x (suc k) + 2 ^ 0) (sym e) (omega arith)
  bits_set x (suc k) (suc b) h z =
      let e : x + suc b ≡ suc x + b = omega arith in
      let v = rw e at z in
      let ih = bits_set (suc x) k b (omega arith) v in
      let o = among_other us x (suc x + b) (λ q. omega arith) in
      subst (λ (y : ℕ). bits_from (y ∷ us) x (suc k) ≡ bits_from us x (suc k) + 2 ^ suc b) (sym e) (rw (pow-suc 2 b) (omega arith))

  -- ---- many words

  pub length_words : (x k : ℕ) → length (words_from us x k) ≡ k
  unfolding words_from
  length_words x zero = refl
  length_words x (suc k) = ap suc (length_words (x + 64) k)

  word_is : (x k i : ℕ) → i < k → get_or (words_from us x k) i 0 ≡ bits_from us (x + 64 * i) 64
  unfolding words_from
  word_is x zero i h = absurd (omega arith)
  word_is x (suc k) zero h = let e : x ≡ x + 64 * 0 = omega arith in ap (λ (y : ℕ). bits_from us y 64) e
  word_is x (suc k) (suc i) h = let e : x + 64 + 64 * i ≡ x + 64 * suc i = omega arith in word_is (x + 64) k i (omega arith) ∙ ap (λ (y : ℕ). bits_from us y 64) e

  words_outside : (y x k : ℕ) → y < x → words_from (y ∷ us) x k ≡ words_from us x k
  unfolding words_from
  words_outside y x zero h = refl
  words_outside y x (suc k) h =
      let e = bits_outside y x 64 (λ i l q. omega arith) in
      let f = words_outside y (x + 64) k (omega arith) in
      λ j. e j ∷ f j

  words_set : (x k i b : ℕ) → i < k → b < 64 → occurs (x + 64 * i + b) us ≡ 0
      → words_from ((x + 64 * i + b) ∷ us) x k ≡ set (words_from us x k) i (bits_from us (x + 64 * i) 64 + 2 ^ b)
  unfolding words_from
  words_set x zero i b h l z = absurd (omega arith)
  words_set x (suc k) zero b h l z =
      let e : x + 64 * 0 ≡ x = omega arith in
      let f = words_outside (x + b) (x + 64) k (omega arith) in
      let g = bits_set x 64 b l (rw e at z) in
      subst (λ (y : ℕ). words_from ((y + b) ∷ us) x (suc k) ≡ set (words_from us x (suc k)) zero (bits_from us y 64 + 2 ^ b)) (sym e) (λ j. g j ∷ f j)
  words_set x (suc k) (suc i) b h l z =
      let e : x + 64 * suc i ≡ x + 64 + 64 * i = omega arith in
      let f = bits_outside (x + 64 + 64 * i + b) x 64 (λ j m q. omega arith) in
      let g = words_set (x + 64) k i b (omega arith) l (rw e at z) in
      subst (λ (y : ℕ). words_from ((y + b) ∷ us) x (suc k) ≡ set (words_from us x (suc k)) (suc i) (bits_from us y 64 + 2 ^ b)) (sym e) (λ j. f j ∷ g j)

-- ---- the words of a store's slots

-- a slot's word and bit
place_lem : (x : ℕ) → 1 ≤ x → x ≡ 1 + 64 * word_of x + bit_of x
unfolding word_of bit_of
place_lem x h = omega (arith, div-add-mod' (x - 1) 64)

pub bit_in : (x : ℕ) → bit_of x < 64
unfolding bit_of
bit_in x = mod-lt (x - 1) (zero-lt-suc 63)

pub word_in : (x k : ℕ) → 1 ≤ x → x ≤ 64 * k → word_of x < k
word_in x k lo hi = omega (arith, place_lem x lo)

pub words_enough : (n k : ℕ) → words_for n ≤ k → n ≤ 64 * k
unfolding words_for
words_enough n k h = omega (arith, div-add-mod' (n + 63) 64, mod-lt (n + 63) (zero-lt-suc 63))

module _ (us : List ℕ) (k : ℕ) where
  pub length_marks : length (mark_words us k) ≡ k
  unfolding mark_words
  length_marks = length_words us 1 k

  module _ (x : ℕ) (lo : 1 ≤ x) (hi : x ≤ 64 * k) where
    pub mark_word : get_or (mark_words us k) (word_of x) 0 ≡ bits_from us (1 + 64 * word_of x) 64
    unfolding mark_words
    mark_word = word_is us 1 k (word_of x) (word_in x k lo hi)

    -- "bit (s−1) .. set exactly for reached slots"
    pub mark_tells : mark_of (mark_words us k) x ≡ among us x
    unfolding mark_of
    mark_tells = rw mark_word (bit_tells us (1 + 64 * word_of x) 64 (bit_of x) (bit_in x) ∙ ap (among us) (sym (place_lem x lo)))

    new_words : occurs x us ≡ 0 → mark_words (x ∷ us) k ≡ set (mark_words us k) (word_of x) (bits_from us (1 + 64 * word_of x) 64 + 2 ^ bit_of x)
    unfolding mark_words
    new_words z =
        let e = place_lem x lo in
        ap (λ (y : ℕ). words_from (y ∷ us) 1 k) e ∙ words_set us 1 k (word_of x) (bit_of x) (word_in x k lo hi) (bit_in x) (ap (λ (y : ℕ). occurs y us) (sym e) ∙ z)

    -- a clear bit is set by adding its power of two
    pub mark_sets : occurs x us ≡ 0 → marked (mark_words us k) x ≡ mark_words (x ∷ us) k
    unfolding marked
    mark_sets z = rw mark_word (sym (new_words z))

-- ---- no slot, and the same slots

bits_none : (x k : ℕ) → bits_from [] x k ≡ 0
unfolding bits_from
bits_none x zero = refl
bits_none x (suc k) = omega (arith, bits_none (suc x) k)

words_none : (x k : ℕ) → words_from [] x k ≡ zeros k
unfolding words_from zeros
words_none x zero = refl
words_none x (suc k) = let e = bits_none x 64 in let f = words_none (x + 64) k in λ j. e j ∷ f j

pub marks_none : (k : ℕ) → mark_words [] k ≡ zeros k
unfolding mark_words
marks_none k = words_none 1 k

module _ (us vs : List ℕ) (h : (x : ℕ) → occurs x us ≡ occurs x vs) where
  bits_same : (x k : ℕ) → bits_from us x k ≡ bits_from vs x k
  unfolding bits_from
  bits_same x zero = refl
  bits_same x (suc k) = let e : among us x ≡ among vs x = ap (λ (n : ℕ). bit (leb 1 n)) (h x) in omega (arith, bits_same (suc x) k)

  words_same : (x k : ℕ) → words_from us x k ≡ words_from vs x k
  unfolding words_from
  words_same x zero = refl
  words_same x (suc k) = let e = bits_same x 64 in let f = words_same (x + 64) k in λ j. e j ∷ f j

  -- the words depend on which slots are marked only
  pub marks_same : (k : ℕ) → mark_words us k ≡ mark_words vs k
  unfolding mark_words
  marks_same k = words_same 1 k

-- ---- the ones

ones_double : (r a : ℕ) → a < 2 → ones (r * 2 + a) ≡ a + ones r
ones_double r a h = ones_step (r * 2 + a) ∙ rw (lowest r a h, half r a h)

among_once : (us : List ℕ) (x : ℕ) → occurs x us ≤ 1 → among us x ≡ occurs x us
among_once us x h = by_bool (leb 1 (occurs x us)) (λ e. rw e (omega (arith, leb-true 1 (occurs x us) e))) (λ e. rw e (omega (arith, leb-false 1 (occurs x us) e)))

module _ (us : List ℕ) (h : (x : ℕ) → occurs x us ≤ 1) where
  ones_bits : (m k : ℕ) → ones (bits_from us (suc m) k) + total m us ≡ total (m + k) us
  unfolding bits_from ones
  ones_bits m zero = let e : m + 0 ≡ m = omega arith in rw e (omega arith)
  ones_bits m (suc k) =
      let e : m + suc k ≡ suc m + k = omega arith in
      rw (e, ones_double (bits_from us (suc (suc m)) k) (among us (suc m)) (among_small us (suc m))) (omega (arith, ones_bits (suc m) k, among_once us (suc m) (h (suc m))))

  ones_words : (m k : ℕ) → all_ones (words_from us (suc m) k) + total m us ≡ total (m + 64 * k) us
  unfolding words_from all_ones
  ones_words m zero = let e : m + 64 * 0 ≡ m = omega arith in rw e (omega arith)
  ones_words m (suc k) =
      let e : m + 64 * suc k ≡ m + 64 + 64 * k = omega arith in
      let f : suc m + 64 ≡ suc (m + 64) = omega arith in
      rw (e, f) (omega (arith, ones_words (m + 64) k, ones_bits m 64))

in_store_more : (n m x : ℕ) → n ≤ m → in_store n x ≤ in_store m x
in_store_more n m x h =
    by_bool (leb x n) (λ e. let w = leb-true x n e in rw (e, le-leb x m (omega arith)) (omega arith)) (λ e. rw e (by_bool (leb 1 x) (λ q. rw q (omega arith)) (λ q. rw q (omega arith))))

-- as many ones as marked slots
pub marks_count : (n k : ℕ) (us : List ℕ) → n ≤ 64 * k → Within n us → all_ones (mark_words us k) ≡ length us
unfolding mark_words
marks_count n k us le h =
    let once : (x : ℕ) → occurs x us ≤ 1 = λ x. omega (arith, h x, in_store_le n x) in
    let w = within_total (64 * k) us (λ x. omega (arith, h x, in_store_more n (64 * k) x le)) in
    let e : 0 + 64 * k ≡ 64 * k = omega arith in
    let t = rw e at (ones_words us once 0 k) in
    omega (arith, w, t, total_most (64 * k) us)

words_first : (us : List ℕ) (x n k : ℕ) → n ≤ k → take n (words_from us x k) ≡ words_from us x n
unfolding words_from
words_first us x zero k h = refl
words_first us x (suc n) zero h = absurd (omega arith)
words_first us x (suc n) (suc k) h = ap (λ (ws : List ℕ). bits_from us x 64 ∷ ws) (words_first us (x + 64) n k (omega arith))

-- the words that the slots need have all of them
pub count_first : (n m k : ℕ) (us : List ℕ) → n ≤ 64 * m → m ≤ k → Within n us → all_ones (take m (mark_words us k)) ≡ length us
count_first n m k us le fits h = ap all_ones (first_lem k fits) ∙ marks_count n m us le h
  where
    first_lem : (k : ℕ) → m ≤ k → take m (mark_words us k) ≡ mark_words us m
    first_lem k f = unfold mark_words in words_first us 1 m k f
