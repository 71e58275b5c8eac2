-- How long standard form is, and that scanning it finds what was written. Assumes nothing.
use mathlib.Core.Path.{◌≡◌, refl, sym, ap, subst, ◌∙◌}
use mathlib.Core.List.{List, [], ◌∷◌, ◌++◌, map, append_assoc}
use mathlib.Core.Bool.{Bool, true, false}
use Prim.Native.Nat.{ℕ, zero, suc, ◌+◌, ◌^◌, ◌≤◌, ◌<◌}
use lib.ListN.{length, get_or, length-append}
use lib.Seq.{get_or_at}
use lib.Dec.{ltb}
use native.Mathlib.Omega.{arith}
use borrow.Author.Tests.{ltb-true, ltb-false, eq-eqb, ne_eqb, lt-ltb, le-ltb, le-leb}
use Rattle.word.specs.Pick.{pick, pick_t, pick_f, by_test}
use Rattle.word.specs.Part.{part}
use Rattle.word.specs.Num.{le}
use Rattle.word.specs.At.{read_at}
use Rattle.word.proofs.NumLaws.{length_le}
use Rattle.word.proofs.PartLaws.{part_seam}
use Rattle.tree.specs.Map.{Sep}
use Rattle.codec.specs.declared.Ending.TheVariants.{NoByteLeft}
use Rattle.std.specs.Prelude.{Result, Ok}
use Rattle.codec.specs.declared.Head.{Head}
use Rattle.codec.specs.declared.Ending.{Ending}
use Rattle.node.specs.Chain.{Step, longest_key, Fit, FitAll}
use Rattle.codec.specs.Codec.{sized, sep_length, rest_length, encode_sep, encode_rest, encode, is_accepted, Scan, before, key_at, size_at, head_at, scan_from, settle, scan, step_of}
use Rattle.codec.specs.Layout.{all_plain}
use Rattle.word.proofs.AtLaws.{fits_in_lem}
use Rattle.codec.proofs.ByteLaws.{read_seam}

-- ---- lengths

pub length_sep : (e : Sep ℕ) → length (encode_sep e) ≡ sep_length (length e.key)
unfolding encode_sep sized sep_length pick
length_sep e = go (ltb (length e.key) 255)
  where
    go : (b : Bool) → length (le 8 e.val ++ pick b (length e.key ∷ e.key) (255 ∷ (le 4 (length e.key) ++ e.key))) ≡ 8 + pick b (1 + length e.key) (5 + length e.key)
    go true = simp (length-append, length_le) (omega arith)
    go false = simp (length-append, length_le) (omega arith)

pub length_rest : (r : List Step) → length (encode_rest r) ≡ rest_length r
unfolding encode_rest
length_rest [] = refl
length_rest (x ∷ r) = let ih = length_rest r in simp (length-append, length_le, length_sep, ih)

pub rest_append : (p q : List Step) → encode_rest (p ++ q) ≡ encode_rest p ++ encode_rest q
unfolding encode_rest
rest_append [] q = refl
rest_append (x ∷ p) q = rw (rest_append p q) (simp append_assoc)

pub length_encode : (c : ℕ) (r : List Step) → length (encode c r) ≡ 8 + rest_length r
unfolding encode
length_encode c r = simp (length-append, length_le, length_rest)

pub sep_least : (n : ℕ) → 9 + n ≤ sep_length n
unfolding sep_length
sep_least n = by_test (λ (m : ℕ). 9 + n ≤ 8 + m) (ltb n 255) (λ e. omega arith) (λ e. omega arith)

pub sep_most : (n : ℕ) → sep_length n ≤ 13 + n
unfolding sep_length
sep_most n = by_test (λ (m : ℕ). 8 + m ≤ 13 + n) (ltb n 255) (λ e. omega arith) (λ e. omega arith)

pub sep_short : (n : ℕ) → n < 255 → sep_length n ≡ 9 + n
unfolding sep_length
sep_short n h = ap (λ (m : ℕ). 8 + m) (pick_t (1 + n) (5 + n) (lt-ltb n 255 h)) ∙ omega arith

pub sep_long : (n : ℕ) → 255 ≤ n → sep_length n ≡ 13 + n
unfolding sep_length
sep_long n h = ap (λ (m : ℕ). 8 + m) (pick_f (1 + n) (5 + n) (le-ltb n 255 h)) ∙ omega arith

pub sep_bound : (n : ℕ) {w : ℕ} → w ≡ sep_length n → n ≤ longest_key → w ≤ 301
sep_bound n e h = omega (arith, sep_most n)

-- ---- what was written is found

pub record HeadIs (s : List ℕ) (at : ℕ) (e : Sep ℕ) (d : Result Head Ending) : Type 0 where
  pub start : ℕ
  pub is : d ≡ Ok (record { value = record { 0 = e.val }; start = start; len = length e.key; plain = true })
  pub key : part s start (length e.key) ≡ e.key
  pub next : start + length e.key ≡ at + length (encode_sep e)

module _ (s : List ℕ) (at : ℕ) (e : Sep ℕ) (f : Fit e) where
  key_is : (start : ℕ) → start + length e.key ≤ length s → key_at s e.val start (length e.key) true ≡ Ok (record { value = record { 0 = e.val }; start = start; len = length e.key; plain = true })
  unfolding key_at
  key_is start w =
      let t = f.there in
      pick_t _ _ (fits_in_lem (length s) start (length e.key) w) ∙ pick_f _ _ (ne_eqb e.val 0 (omega arith)) ∙ pick_f _ _ (le-ltb longest_key (length e.key) f.short)

  short_is : (p q : List ℕ) → length p ≡ at → length e.key < 255 → s ≡ p ++ (le 8 e.val ++ ((length e.key ∷ e.key) ++ q)) → HeadIs s at e (head_at s at)
  unfolding head_at size_at encode_sep sized
  short_is p q l h w =
      let n : ℕ = length e.key in
      let v : List ℕ = le 8 e.val in
      let lv = length_le 8 e.val in
      let big : length s ≡ at + (8 + suc (n + length q)) = ap length w ∙ simp (length-append, length_le) (omega arith) in
      let value : read_at 8 s at ≡ e.val = ap (λ (t : List ℕ). read_at 8 t at) w ∙ read_seam 8 p ((n ∷ e.key) ++ q) e.val at l f.small in
      let head : get_or s (at + 8) 0 ≡ n = ap (λ (t : List ℕ). get_or t (at + 8) 0) (w ∙ sym (append_assoc p v ((n ∷ e.key) ++ q))) ∙ get_or_at (p ++ v) n (e.key ++ q) 0 (at + 8) (simp length-append (omega arith)) in
      let key : part s (at + 9) n ≡ e.key = ap (λ (t : List ℕ). part t (at + 9) n) (w ∙ simp append_assoc) ∙ part_seam (p ++ (v ++ (n ∷ []))) e.key q (at + 9) n (simp length-append (omega arith)) refl in
      record {
        start = at + 9;
        is = pick_t _ _ (fits_in_lem (length s) at 9 (omega arith)) ∙ rw (value, head) (pick_t _ _ (lt-ltb n 255 h) ∙ key_is (at + 9) (omega arith));
        key = key;
        next = rw (pick_t (n ∷ e.key) (255 ∷ (le 4 n ++ e.key)) (lt-ltb n 255 h)) (simp length-append (omega arith));
      }

  long_is : (p q : List ℕ) → length p ≡ at → 255 ≤ length e.key → s ≡ p ++ (le 8 e.val ++ ((255 ∷ (le 4 (length e.key) ++ e.key)) ++ q)) → HeadIs s at e (head_at s at)
  unfolding head_at size_at encode_sep sized
  long_is p q l h w =
      let n : ℕ = length e.key in
      let v : List ℕ = le 8 e.val in
      let m : List ℕ = le 4 n in
      let lv = length_le 8 e.val in
      let lm = length_le 4 n in
      let short = f.short in
      let big : length s ≡ at + (8 + suc (4 + (n + length q))) = ap length w ∙ simp (length-append, length_le) (omega arith) in
      let value : read_at 8 s at ≡ e.val = ap (λ (t : List ℕ). read_at 8 t at) w ∙ read_seam 8 p ((255 ∷ (m ++ e.key)) ++ q) e.val at l f.small in
      let head : get_or s (at + 8) 0 ≡ 255 = ap (λ (t : List ℕ). get_or t (at + 8) 0) (w ∙ sym (append_assoc p v ((255 ∷ (m ++ e.key)) ++ q))) ∙ get_or_at (p ++ v) 255 ((m ++ e.key) ++ q) 0 (at + 8) (simp length-append (omega arith)) in
      let size : read_at 4 s (at + 9) ≡ n = ap (λ (t : List ℕ). read_at 4 t (at + 9)) (w ∙ simp append_assoc) ∙ read_seam 4 (p ++ (v ++ (255 ∷ []))) (e.key ++ q) n (at + 9) (simp length-append (omega arith)) (omega arith) in
      let key : part s (at + 13) n ≡ e.key = ap (λ (t : List ℕ). part t (at + 13) n) (w ∙ simp append_assoc) ∙ part_seam (p ++ (v ++ (255 ∷ m))) e.key q (at + 13) n (simp length-append (omega arith)) refl in
      record {
        start = at + 13;
        is = pick_t _ _ (fits_in_lem (length s) at 9 (omega arith)) ∙ rw (value, head, size, le-leb 255 n h) (pick_f _ _ refl ∙ pick_t _ _ (fits_in_lem (length s) (at + 9) 4 (omega arith)) ∙ key_is (at + 13) (omega arith));
        key = key;
        next = rw (pick_f (n ∷ e.key) (255 ∷ (le 4 n ++ e.key)) (le-ltb n 255 h)) (simp length-append (omega arith));
      }

  pub head_is : (p q : List ℕ) → length p ≡ at → s ≡ p ++ (encode_sep e ++ q) → HeadIs s at e (head_at s at)
  unfolding encode_sep sized pick
  head_is p q l w = go (ltb (length e.key) 255) refl (w ∙ ap (λ (t : List ℕ). p ++ t) (append_assoc (le 8 e.val) (pick (ltb (length e.key) 255) (length e.key ∷ e.key) (255 ∷ (le 4 (length e.key) ++ e.key))) q))
    where
      go : (b : Bool) → ltb (length e.key) 255 ≡ b → s ≡ p ++ (le 8 e.val ++ (pick b (length e.key ∷ e.key) (255 ∷ (le 4 (length e.key) ++ e.key)) ++ q)) → HeadIs s at e (head_at s at)
      go true c w = short_is p q l (ltb-true (length e.key) 255 c) w
      go false c w = long_is p q l (ltb-false (length e.key) 255 c) w

pub record Finds (s : List ℕ) (c : ℕ) (r : List Step) (f : Scan) : Type 0 where
  pub ending : f.ending ≡ NoByteLeft
  pub first : f.first ≡ c
  pub rest : map (step_of s) f.rest ≡ r
  pub plain : all_plain f.rest ≡ true

module _ (s : List ℕ) where
  last_finds : (k c at : ℕ) → at + 8 ≡ length s → read_at 8 s at ≡ c → Finds s c [] (scan_from s k at)
  unfolding scan_from
  last_finds zero c at h e = subst (Finds s c []) (sym (pick_t _ _ (fits_in_lem (length s) at 8 (omega arith)) ∙ pick_t _ _ (eq-eqb (at + 8) (length s) h))) (record { ending = refl; first = e; rest = refl; plain = refl })
  last_finds (suc k) c at h e = subst (Finds s c []) (sym (pick_t _ _ (fits_in_lem (length s) at 8 (omega arith)) ∙ pick_t _ _ (eq-eqb (at + 8) (length s) h))) (record { ending = refl; first = e; rest = refl; plain = refl })

  finds : (k : ℕ) (p : List ℕ) (c : ℕ) (r : List Step) (at : ℕ) → c < 2 ^ 64 → FitAll r → length r ≤ k → length p ≡ at → s ≡ p ++ encode c r → Finds s c r (scan_from s k at)
  unfolding scan_from encode encode_rest
  finds k p c [] at hc f m l w =
      let big : length s ≡ length p + (8 + 0) = ap length w ∙ simp (length-append, length_le) in
      last_finds k c at (omega arith) (ap (λ (t : List ℕ). read_at 8 t at) w ∙ read_seam 8 p [] c at l hc)
  finds zero p c (x ∷ r) at hc f m l w = absurd (omega arith)
  finds (suc k) p c (x ∷ r) at hc f m l w =
      let q : List ℕ = le 8 x.1 ++ encode_rest r in
      let big : length s ≡ at + (8 + (length (encode_sep x.0) + length q)) = ap length w ∙ simp (length-append, length_le) (omega arith) in
      let least = sep_least (length x.0.key) in
      let ls = length_sep x.0 in
      let value : read_at 8 s at ≡ c = ap (λ (t : List ℕ). read_at 8 t at) w ∙ read_seam 8 p (encode_sep x.0 ++ q) c at l hc in
      let h = head_is s (at + 8) x.0 f.0 (p ++ le 8 c) q (simp (length-append, length_le) (omega arith)) (w ∙ sym (append_assoc p (le 8 c) (encode_sep x.0 ++ q))) in
      let to : ℕ = h.start + length x.0.key in
      let ih = finds k (p ++ (le 8 c ++ encode_sep x.0)) x.1 r to f.1 f.2 (omega arith) (omega (arith, h.next, length-append p (le 8 c ++ encode_sep x.0), length-append (le 8 c) (encode_sep x.0), length_le 8 c)) (w ∙ simp append_assoc) in
      let is : scan_from s (suc k) at ≡ before c (record { value = x.0.val; start = h.start; len = length x.0.key; plain = true }) (scan_from s k to) =
      pick_t _ _ (fits_in_lem (length s) at 8 (omega arith)) ∙ pick_f _ _ (ne_eqb (at + 8) (length s) (λ z. omega arith)) ∙ rw (value, h.is) in
      subst (Finds s c (x ∷ r)) (sym is) (record {
        ending = ih.ending;
        first = refl;
        rest = rw (h.key, ih.first, ih.rest);
        plain = ih.plain;
      })

  pub scan_finds : (c : ℕ) (r : List Step) → c < 2 ^ 64 → FitAll r → length r ≤ 8 → s ≡ encode c r → Finds s c r (scan s)
  unfolding scan settle
  scan_finds c r hc f m w =
      let g = finds 8 [] c r 0 hc f m refl w in
      subst (Finds s c r) (sym (pick_t _ _ (ap is_accepted g.ending))) g
