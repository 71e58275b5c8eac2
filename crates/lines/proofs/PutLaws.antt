-- A line's record: the ways through `put`, `put_set` and `put_line`. Assumes nothing.
use mathlib.Core.Path.{◌≡◌, refl, sym, ap, ◌∙◌}
use mathlib.Core.List.{List, [], ◌∷◌, ◌++◌, append_assoc}
use mathlib.Core.Bool.{Bool, true, false, not}
use mathlib.Core.Option.{Option, none, some}
use Prim.Native.Nat.{ℕ, ◌+◌, ◌*◌, ◌/◌, ◌%◌, ◌≤◌, ◌<◌}
use lib.ListN.{length, set, take, length-append, length-set}
use lib.Dec.{compare_is_eq}
use native.Mathlib.Omega.{arith}
use borrow.Author.Tests.{not-true, not-false}
use Rattle.word.specs.Pick.{pick, pick_t, pick_f, by_test}
use Rattle.word.specs.Key.{cmp}
use Rattle.word.specs.Num.{le}
use Rattle.word.specs.Part.{over}
use Rattle.word.specs.At.{fits_in, write_at}
use Rattle.word.proofs.PartLaws.{length_over, over_beside, set_over}
use Rattle.word.proofs.NumLaws.{length_le}
use Rattle.word.proofs.AtLaws.{fits_in_lem, fits_true, fits_false, fitted, write_at_in, length_write_at}
use Rattle.tree.specs.Batch.{Rec}
use Rattle.tree.proofs.Cases.{by_bool}
use Rattle.changes.specs.Records.{encode_record}
use Rattle.changes.proofs.RecordLaws.{impossible}
use Rattle.std.specs.Prelude.{Option as Maybe, Some, None, is_some, unwrap_or, ◌==◌, position}
use Rattle.lines.specs.Digits.{is_hex, hex_key, is_decimal, decimal_from}
use Rattle.lines.specs.Lines.{tab, set_word, del_word, up_to, behind, change_of, set_of, line_of}
use Rattle.lines.specs.Mirror.{amount_of, is_key, headed, kind_byte, keyed, encoded, Put}
use Rattle.lines.proofs.DigitLaws.{picked, unpicked}
use Rattle.lines.proofs.CutLaws.{tail, not_found, is_found, found_front, found_behind}
use Rattle.lines.proofs.HexLaws.{length_hex_key}

-- ---- what is put

put_in : (b d : List ℕ) (at r : ℕ) (e : List ℕ) → fits_in (length d) at (length b) ≡ true → r ≡ length b → e ≡ over d at b → Put (some b) d at (Some r) e
unfolding Put
put_in b d at r e f p q = rw f (ap Some p, q)

put_out : (b d : List ℕ) (at : ℕ) (e : List ℕ) → fits_in (length d) at (length b) ≡ false → Put (some b) d at None e
unfolding Put
put_out b d at e f = rw f refl

pub put_nothing : (o : Option (List ℕ)) (d : List ℕ) (at : ℕ) (e : List ℕ) → o ≡ none → Put o d at None e
unfolding Put
put_nothing o d at e p = rw p refl

pub put_as : {o p : Option (List ℕ)} (d : List ℕ) (at : ℕ) (r : Maybe ℕ) (e : List ℕ) → p ≡ o → Put o d at r e → Put p d at r e
put_as d at r e q h = rw q h

-- ---- what an answer says

pub put_none : (d : List ℕ) (at : ℕ) (r : Maybe ℕ) (e : List ℕ) → Put none d at r e → r ≡ None
unfolding Put
put_none d at r e p = p

module _ (b d : List ℕ) (at : ℕ) (r : Maybe ℕ) (e : List ℕ) (p : Put (some b) d at r e) where
  pub put_some : (n : ℕ) → r ≡ Some n → (n ≡ length b) × (at + length b ≤ length d) × (e ≡ over d at b)
  unfolding Put
  put_some n z =
      by_bool (fits_in (length d) at (length b))
      (λ t. let q = rw t at p in let s : Some n ≡ Some (length b) = sym z ∙ q.0 in (cc, fits_true (length d) at (length b) t, q.1))
      (λ t. let q : r ≡ None = rw t at p in cc)

  pub put_zero : r ≡ None → length d < at + length b
  unfolding Put
  put_zero z =
      by_bool (fits_in (length d) at (length b))
      (λ t. let q = rw t at p in let s : r ≡ Some (length b) = q.0 in cc)
      (λ t. fits_false (length d) at (length b) t)

-- ---- the ways through `put`

pub over_next : (s : List ℕ) (a : ℕ) (b d : List ℕ) (k : ℕ) → length b ≡ k → a + k + length d ≤ length s → over (over s a b) (a + k) d ≡ over s a (b ++ d)
over_next s a b d k e h = rw (← e) (over_beside s a b d (rw e h))

cut_at : (a q b : ℕ) → b < 256 → ((b + (a + q * 256) * 256) % 256 ≡ b) × ((b + (a + q * 256) * 256) / 256 ≡ a + q * 256)
cut_at a q b h = (omega arith, omega arith)

-- two bytes hold a number but for what is above them
le_cut : (n : ℕ) → le 2 (n % 65536) ≡ le 2 n
unfolding le
le_cut n =
    let q : ℕ = n / 65536 in
    let r : ℕ = n % 65536 in
    let e : n ≡ r % 256 + (r / 256 + q * 256) * 256 = omega arith in
    let c = rw (← e) at (cut_at (r / 256) q (r % 256) (omega arith)) in
    let high : r / 256 % 256 ≡ (r / 256 + q * 256) % 256 = omega arith in
    rw (c.0, c.1) (rw high)

pub length_headed : (kind value : ℕ) (key : List ℕ) → length (headed kind value key) ≡ 11 + length key
length_headed kind value key = simp (length-append, length_le) (omega arith)

pub put_within : (field d : List ℕ) (at : ℕ) {f : Bool} → f ≡ fits_in (length d) at (11 + length field / 2) → not f ≡ false → at + (11 + length field / 2) ≤ length d
put_within field d at room inside = fitted (length d) at (11 + length field / 2) room (not-false _ inside)

module _ (value : Maybe ℕ) (field d : List ℕ) (at : ℕ) where
  abbrev kind : ℕ
  kind = kind_byte value

  abbrev number : ℕ
  number = unwrap_or value 0

  length_keyed : length (headed kind number (hex_key field)) ≡ 11 + length field / 2
  length_keyed = length_headed kind number (hex_key field) ∙ rw length_hex_key

  module _ {f : Bool} (room : f ≡ fits_in (length d) at (11 + length field / 2)) where
    pub put_1 : (e : List ℕ) → not f ≡ true → Put (keyed value field) d at None e
    unfolding keyed
    put_1 e t =
        by_test (λ (o : Option (List ℕ)). Put o d at None e) (is_hex field)
        (λ h. put_out (headed kind number (hex_key field)) d at e (rw length_keyed (sym room ∙ not-true _ t))) (λ h. put_nothing none d at e refl)

    module _ (inside : not f ≡ false) where
      within_lem : at + (11 + length field / 2) ≤ length d
      within_lem = put_within field d at room inside

      module _ {e2 e3 : List ℕ} (size : e2 ≡ write_at 2 (set d at kind) (at + 1) (length field / 2 % 65536)) (eight : e3 ≡ write_at 8 e2 (at + 3) number) where
        same_size : length e3 ≡ length d
        same_size = rw (eight, length_write_at, size, length_write_at, length-set)

        sized_lem : e2 ≡ over d at (kind ∷ le 2 (length field / 2))
        sized_lem =
            let w = within_lem in
            let l = length_le 2 (length field / 2) in
            let fits : at + 1 + 2 ≤ length (over d at (kind ∷ [])) = omega (arith, length_over d at (kind ∷ []) (omega arith)) in
            size
            ∙ rw (set_over d at kind (omega arith), write_at_in 2 (over d at (kind ∷ [])) (at + 1) (length field / 2 % 65536) fits, le_cut)
            (over_next d at (kind ∷ []) (le 2 (length field / 2)) 1 refl (omega arith))

        head_is : e3 ≡ over d at (kind ∷ (le 2 (length field / 2) ++ le 8 number))
        head_is =
            let w = within_lem in
            let l = length_le 2 (length field / 2) in
            let m = length_le 8 number in
            let s : List ℕ = kind ∷ le 2 (length field / 2) in
            let fits : at + 3 + 8 ≤ length (over d at s) = omega (arith, length_over d at s (omega arith)) in
            eight
            ∙ rw (sized_lem, write_at_in 8 (over d at s) (at + 3) number fits)
            (over_next d at s (le 8 number) 3 (omega arith) (omega arith))

        module _ {A : Type 0} {g : Maybe A} (key : is_some g ≡ is_key field (length e3) (at + 11)) where
          pub put_2 : (e : List ℕ) → g ≡ None → Put (keyed value field) d at None e
          unfolding keyed is_key
          put_2 e t = put_nothing _ d at e (pick_f _ _ (by_bool (is_hex field) (λ h. impossible (sym (ap is_some t) ∙ key ∙ pick_t _ _ h ∙ fits)) (λ h. h)))
            where
              fits : fits_in (length e3) (at + 11) (length field / 2) ≡ true
              fits = let w = within_lem in let l = same_size in fits_in_lem (length e3) (at + 11) (length field / 2) (omega arith)

          pub put_3 : (e : List ℕ) {x : A} → g ≡ Some x → e ≡ over e3 (at + 11) (hex_key field) → Put (keyed value field) d at (Some (11 + length field / 2)) e
          unfolding keyed is_key
          put_3 e {x} t q =
              by_bool (is_hex field)
              (λ h. put_as d at _ e (pick_t _ _ h) (put_in (headed kind number (hex_key field)) d at _ e (rw length_keyed (sym room ∙ not-false _ inside)) (sym length_keyed) all_lem))
              (λ h. impossible (sym (sym (ap is_some t) ∙ key ∙ pick_f _ _ h)))
            where
              all_lem : e ≡ over d at (headed kind number (hex_key field))
              all_lem =
                  let w = within_lem in
                  let l = length_le 2 (length field / 2) in
                  let m = length_le 8 number in
                  let k = length_hex_key field in
                  let s : List ℕ = kind ∷ (le 2 (length field / 2) ++ le 8 number) in
                  let n : length s ≡ 11 = simp length-append (omega arith) in
                  let x : e ≡ over d at (s ++ hex_key field) = q ∙ rw head_is (over_next d at s (hex_key field) 11 n (omega arith)) in
                  let y : s ++ hex_key field ≡ headed kind number (hex_key field) = rw k (simp append_assoc) in
                  x ∙ ap (over d at) y

-- ---- what a line says

encoded_pick : (b : Bool) (r : Rec ℕ) → encoded (pick b (some r) none) ≡ pick b (some (encode_record r)) none
unfolding pick
encoded_pick true r = refl
encoded_pick false r = refl

encoded_set : (field : List ℕ) (v : ℕ) → encoded (change_of field (some v)) ≡ keyed (Some v) field
unfolding change_of keyed encode_record
encoded_set field v = encoded_pick (is_hex field) (record { key = hex_key field; op = some v })

encoded_del : (field : List ℕ) → encoded (change_of field none) ≡ keyed None field
unfolding change_of keyed encode_record
encoded_del field = encoded_pick (is_hex field) (record { key = hex_key field; op = none })

module _ (s : List ℕ) {f : Maybe ℕ} (sought : f ≡ position (λ x. x == tab) s) where
  -- ---- the ways through `put_set`

  pub set_1 : (d : List ℕ) (at : ℕ) (e : List ℕ) → f ≡ None → Put (encoded (set_of s)) d at None e
  unfolding set_of
  set_1 d at e l = put_nothing _ d at e (ap encoded (pick_f _ _ (not_found tab s sought l)))

  pub line_1 : (d : List ℕ) (at : ℕ) (e : List ℕ) → f ≡ None → Put (encoded (line_of s)) d at None e
  unfolding line_of
  line_1 d at e l = put_nothing _ d at e (ap encoded (pick_f _ _ (not_found tab s sought l)))

  module _ {t : ℕ} (found : f ≡ Some t) where
    module _ {a : Maybe ℕ} (amount : a ≡ amount_of (tail s (t + 1))) where
      amount_behind : a ≡ amount_of (behind tab s)
      amount_behind = amount ∙ ap amount_of (found_behind tab s sought found)

      pub set_2 : (d : List ℕ) (at : ℕ) (e : List ℕ) → a ≡ None → Put (encoded (set_of s)) d at None e
      unfolding set_of amount_of
      set_2 d at e q =
          put_nothing _ d at e (ap encoded (pick_t _ _ (is_found tab s sought found) ∙ pick_f _ _ (unpicked _ _ (sym amount_behind ∙ q))))

      pub set_3 : (d : List ℕ) (at : ℕ) (r : Maybe ℕ) (e : List ℕ) (v : ℕ) → a ≡ Some v → Put (keyed (Some v) (take t s)) d at r e → Put (encoded (set_of s)) d at r e
      unfolding set_of amount_of
      set_3 d at r e v q h =
          let w = picked (is_decimal (behind tab s)) (decimal_from 0 (behind tab s)) v (sym amount_behind ∙ q) in
          put_as d at r e
          (ap encoded (pick_t _ _ (is_found tab s sought found) ∙ pick_t _ _ w.0) ∙ encoded_set (up_to tab s) (decimal_from 0 (behind tab s)) ∙ rw (w.1, found_front tab s sought found)) h

    -- ---- the ways through `put_line`

    module _ {w : Bool} (word : w ≡ compare_is_eq (cmp (take t s) set_word)) where
      is_set : w ≡ compare_is_eq (cmp (up_to tab s) set_word)
      is_set = word ∙ rw (found_front tab s sought found)

      pub line_2 : (d : List ℕ) (at : ℕ) (r : Maybe ℕ) (e : List ℕ) → w ≡ true → Put (encoded (set_of (tail s (t + 1)))) d at r e → Put (encoded (line_of s)) d at r e
      unfolding line_of
      line_2 d at r e q h =
          put_as d at r e (ap encoded (pick_t _ _ (is_found tab s sought found) ∙ pick_t _ _ (sym is_set ∙ q) ∙ ap set_of (sym (found_behind tab s sought found)))) h

      module _ (other : w ≡ false) {w2 : Bool} (word2 : w2 ≡ compare_is_eq (cmp (take t s) del_word)) where
        is_del : w2 ≡ compare_is_eq (cmp (up_to tab s) del_word)
        is_del = word2 ∙ rw (found_front tab s sought found)

        pub line_3 : (d : List ℕ) (at : ℕ) (r : Maybe ℕ) (e : List ℕ) → w2 ≡ true → Put (keyed None (tail s (t + 1))) d at r e → Put (encoded (line_of s)) d at r e
        unfolding line_of
        line_3 d at r e q h =
            put_as d at r e
            (ap encoded (pick_t _ _ (is_found tab s sought found) ∙ pick_f _ _ (sym is_set ∙ other) ∙ pick_t _ _ (sym is_del ∙ q)) ∙ encoded_del (behind tab s) ∙ rw (found_behind tab s sought found)) h

        pub line_4 : (d : List ℕ) (at : ℕ) (e : List ℕ) → w2 ≡ false → Put (encoded (line_of s)) d at None e
        unfolding line_of
        line_4 d at e q =
            put_nothing _ d at e (ap encoded (pick_t _ _ (is_found tab s sought found) ∙ pick_f _ _ (sym is_set ∙ other) ∙ pick_f _ _ (sym is_del ∙ q)))
