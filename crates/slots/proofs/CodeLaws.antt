-- Each way through this crate's functions, in the words of specs/Code (a law NAME-k is of the k-th return); what formatting
-- leaves is `fresh`; and the ties between the code's structs and the chains of specs/Mirror. Assumes nothing.
use mathlib.Core.Path.{◌≡◌, refl, sym, ap, ◌∙◌}
use mathlib.Core.List.{List, [], ◌∷◌, ◌++◌, map, append_assoc, append-nil}
use mathlib.Core.Bool.{Bool, true, false, cond, ◌&&◌, ◌||◌, not}
use mathlib.Core.Option.{none, some}
use Rattle.std.specs.Prelude as std
use Rattle.std.specs.Prelude.{Some, None, Result, Ok, Err, min}
use Rattle.std.specs.List.{list_all}
use Rattle.std.proofs.lemmas.List.{take_min}
use Prim.Native.Nat.{ℕ, zero, suc, ◌+◌, ◌*◌, ◌-◌, ◌≤◌, ◌<◌}
use lib.ListN.{length, take, drop, replicate, length-append, length-map}
use lib.Seq.{take_at, drop-drop}
use lib.Dec.{leb, eqb}
use native.Mathlib.Numerals.{add-one}
use native.Mathlib.Omega.{arith}
use borrow.Author.Tests.{leb-true, eqb-true, not-true, not-false}
use Rattle.word.specs.Pick.{pick, pick_t, pick_f, by_test}
use Rattle.word.specs.Part.{part, over}
use Rattle.word.specs.Num.{le, zeros, Bytes}
use Rattle.word.specs.At.{fits_in, read_at, write_at, clear_at}
use Rattle.word.proofs.PartLaws.{length_part, length_over, over_part, over_in, over_seam}
use Rattle.word.proofs.NumLaws.{length_le, length_zeros, zeros_append, bytes_part}
use Rattle.word.proofs.AtLaws.{write_at_in, length_write_at, clear_at_in}
use Rattle.tree.specs.State.{AllRight}
use Rattle.tree.proofs.Cases as cases
use Rattle.node.specs.declared.Child.{Child}
use Rattle.node.specs.declared.Slot.{Slot}
use Rattle.codec.specs.declared.Places.{Places}
use Rattle.codec.specs.declared.Reading.{Reading}
use Rattle.node.specs.declared.Node as struct
use Rattle.std.specs.Prelude.{Result, Ok, Err}
use Rattle.codec.specs.declared.WriteError.{WriteError}
use Rattle.codec.specs.declared.WriteError.TheVariants.{LongKey, NoValue, ShortDestination, TooMany}
use Rattle.codec.specs.declared.Ending.TheVariants.{ShortChild}
use Rattle.node.specs.Chain as chain
use Rattle.node.specs.Chain.{Step, Writable, child_of, padded, node_of, steps_of}
use Rattle.codec.specs.Codec.{encode, decode, is_accepted, stop, settle, scan_from, scan}
use Rattle.codec.specs.Strict.{strict_of, standard_of}
use Rattle.codec.specs.Mirror.{copied}
use Rattle.codec.specs.Layout.{places_of, reading_of, any_of, any_first, written_of, left_by, write_error_number, written_number}
use Rattle.codec.specs.Layout as layout
use Rattle.codec.proofs.ReadLaws.{read_done}
use Rattle.node.proofs.ChainLaws.{steps_node, first_node}
use Rattle.codec.proofs.Theorems.{Accepted, when_done, standard_most, writes_chain, scan_writable}
use Rattle.codec.proofs.StrictLaws.{strict_flag}
use Rattle.slots.specs.declared.FormatError.{FormatError}
use Rattle.slots.specs.declared.FormatError.TheVariants.{NotStore}
use Rattle.slots.specs.Limits.{header_size, slot_size, most_slots, least_node, most_node}
use Rattle.slots.specs.Layout.{header, idle, start, count_of}
use Rattle.slots.specs.Mirror.{is_slot, length_at, node_bytes, holds_node, read_of, read_node, write_node}
use Rattle.slots.specs.Format.{blanks, fresh}
use Rattle.slots.specs.Code.{has_size, slot_of, some_slot, raw_in, bytes_in, places_in, reading_in, first_in, rest_in, node_in, misfits, children_fit, fits_depth, places_at, reading_at, chain_fits, when_fit, read_node_at, node_room, written_in, has_free, linked, format_number, Formats}

pub both_true : (a b : Bool) → (a && b) ≡ true → (a ≡ true) × (b ≡ true)
both_true true b e = (refl, e)
both_true false b e = (e, cc)

-- ---- the test for refusal 1

module _ (len n : ℕ) where
  pub record Sized : Type 0 where
    pub least : 1 ≤ n
    pub most : n ≤ most_slots
    pub size : len ≡ header_size + slot_size * n

  pub sized_lem : has_size len n ≡ true → Sized
  unfolding has_size
  sized_lem e =
      let p = both_true (leb 1 n) (leb n most_slots && eqb len (header_size + slot_size * n)) e in
      let q = both_true (leb n most_slots) (eqb len (header_size + slot_size * n)) p.1 in
      record { least = leb-true 1 n p.0; most = leb-true n most_slots q.0; size = eqb-true len (header_size + slot_size * n) q.1 }

-- ---- slots

pub record Whole (s : List ℕ) (x : ℕ) : Type 0 where
  pub least : 1 ≤ x
  pub most : x ≤ count_of s
  pub fits : header_size + slot_size * x ≤ length s
  pub within : start x + slot_size ≤ length s

module _ (s : List ℕ) (x : ℕ) where
  pub whole : is_slot s x ≡ true → Whole s x
  unfolding is_slot
  whole e =
      let p = both_true (leb 1 x) (leb x (count_of s) && leb (header_size + slot_size * x) (length s)) e in
      let q = both_true (leb x (count_of s)) (leb (header_size + slot_size * x) (length s)) p.1 in
      let a = leb-true 1 x p.0 in
      let c = leb-true (header_size + slot_size * x) (length s) q.1 in
      record { least = a; most = leb-true x (count_of s) q.0; fits = c; within = omega arith }

-- ---- the child test of a depth

not_or : (a b : Bool) → not (a || b) ≡ (not a && not b)
not_or true b = refl
not_or false b = refl

-- no child of those that `fits_depth` looks at is a misfit
all_fit : (d : ℕ) (l : List Child) → list_all (λ (c : Child). not (misfits d c)) l ≡ children_fit d l
unfolding children_fit
all_fit d [] = refl
all_fit d (c ∷ l) = rw (all_fit d l) (sym (not_or (misfits d c) (any_of (misfits d) l)))

pub fits_all : (d n k : ℕ) (l : List Child) → length l ≤ 9 → k ≡ min (n + 1) 18446744073709551615
    → list_all (λ (c : Child). not (misfits d c)) (take k l) ≡ fits_depth d n l
unfolding fits_depth
fits_all d n k l h e =
    let m : min k (length l) ≡ min (n + 1) (length l) = omega (arith, e, h) in
    all_fit d (take k l) ∙ ap (children_fit d) (sym (take_min k l) ∙ ap (λ (i : ℕ). take i l) m ∙ take_min (n + 1) l)

-- ---- a slot to write to, and the free chain

module _ (s : List ℕ) (x : ℕ) {b : Bool} (test : b ≡ is_slot s x) where
  pub slot_whole : not b ≡ false → Whole s x
  slot_whole h = whole s x (sym test ∙ not-false b h)

-- the loop of `has_free`: i links are followed, and the rest of the chain decides
module _ (s : List ℕ) (n : ℕ) where
  module _ (i x : ℕ) {f : Bool} (left : f ≡ has_free (n - i) s x) where
    module _ {b : Bool} (more : i < n) (test : b ≡ is_slot s x) where
      one_more_lem : f ≡ pick (is_slot s x) (has_free (n - (i + 1)) s (read_at 4 s (start x + 4))) false
      unfolding has_free
      one_more_lem = let z : n - i ≡ suc (n - (i + 1)) = omega arith in rw z at left

      pub free_none : b ≡ false → false ≡ f
      free_none h = sym (one_more_lem ∙ pick_f _ _ (sym test ∙ h))

      pub free_turn : {at next : ℕ} → b ≡ true → at ≡ start x → next ≡ read_at 4 s (at + 4) → f ≡ has_free (n - (i + 1)) s next
      free_turn h p q = one_more_lem ∙ pick_t _ _ (sym test ∙ h) ∙ rw (q, p)

-- ---- writing a node

written_same : (n : struct.Node) (d e : List ℕ) → length d ≡ length e → written_of n d ≡ written_of n e
unfolding written_of
written_same n d e h = rw h

-- no refusal has the number 0
refusal_counts : (e : WriteError) → eqb (write_error_number e) 0 ≡ false
refusal_counts LongKey = refl
refusal_counts NoValue = refl
refusal_counts ShortDestination = refl
refusal_counts TooMany = refl

-- a part lent and given back
pub given_back : (s : List ℕ) (from n : ℕ) (e : List ℕ) → length e ≡ n → take from s ++ (e ++ drop n (drop from s)) ≡ over s from e
unfolding over
given_back s from n e h = rw (drop-drop, ← h)

module _ (s : List ℕ) (x : ℕ) (n : struct.Node) {b : Bool} (test : b ≡ is_slot s x) where
  pub write_1 : not b ≡ true → s ≡ written_in s x n
  unfolding written_in write_node
  write_1 h =
      let e : is_slot s x ≡ false = sym test ∙ not-true b h in
      by_test (λ (t : List ℕ). s ≡ t) (eqb (written_number (written_of n (zeros node_room))) 0) (λ f. rw e) (λ f. refl)

  module _ (h : not b ≡ false) {at : ℕ} (begins : at ≡ start x) where
    there : is_slot s x ≡ true
    there = sym test ∙ not-false b h

    pub node_room_lem : at + slot_size ≤ length s
    node_room_lem = rw begins (whole s x there).within

    length_room : length (part s (at + 4) node_room) ≡ node_room
    length_room = length_part s (at + 4) node_room (omega (arith, node_room_lem))

    lent : take ((at + slot_size) - (at + 4)) (drop (at + 4) s) ≡ part s (at + 4) node_room
    unfolding part
    lent = let e : (at + slot_size) - (at + 4) ≡ node_room = omega arith in rw e

    -- the part that is lent to `codec::write`, and what it holds then
    module _ {w : Result ℕ WriteError} {d : List ℕ}
        (answer : w ≡ written_of n (take ((at + slot_size) - (at + 4)) (drop (at + 4) s)))
        (left : d ≡ left_by (written_of n (take ((at + slot_size) - (at + 4)) (drop (at + 4) s))) n (take ((at + slot_size) - (at + 4)) (drop (at + 4) s)))
      where
        abbrev pub after : List ℕ
        after = take (at + 4) s ++ (d ++ drop ((at + slot_size) - (at + 4)) (drop (at + 4) s))

        answered_lem : w ≡ written_of n (part s (at + 4) node_room)
        answered_lem = rw lent at answer

        left_by_lem : d ≡ left_by w n (part s (at + 4) node_room)
        left_by_lem = left ∙ ap (λ (y : Result ℕ WriteError). left_by y n (take ((at + slot_size) - (at + 4)) (drop (at + 4) s))) (sym answer) ∙ ap (left_by w n) lent

        back : length d ≡ node_room → after ≡ over s (at + 4) d
        back h = let e : (at + slot_size) - (at + 4) ≡ node_room = omega arith in rw e (given_back s (at + 4) node_room d h)

        same_answer : written_of n (zeros node_room) ≡ w
        same_answer = written_same n (zeros node_room) (part s (at + 4) node_room) (length_zeros node_room ∙ sym length_room) ∙ sym answered_lem

        pub write_2 : {e : WriteError} → w ≡ Err e → after ≡ written_in s x n
        unfolding written_in
        write_2 {e} f =
            let k : d ≡ part s (at + 4) node_room = left_by_lem ∙ ap (λ (y : Result ℕ WriteError). left_by y n (part s (at + 4) node_room)) f in
            back (ap length k ∙ length_room) ∙ ap (over s (at + 4)) k ∙ over_part s (at + 4) node_room (omega (arith, node_room_lem)) ∙ sym (pick_f _ _ (rw (same_answer, f) (refusal_counts e)))

        module _ {len : ℕ} (f : w ≡ Ok len) where
          done : Accepted n (part s (at + 4) node_room) len
          done = when_done n (part s (at + 4) node_room) len (sym answered_lem ∙ f)

          pub node_small : len ≤ node_room
          node_small = omega (arith, done.len_is, done.room, length_room)

          after_is : after ≡ over s (at + 4) (encode (chain.first_of n) (steps_of n))
          after_is =
              let c : List ℕ = encode (chain.first_of n) (steps_of n) in
              let e : d ≡ over (part s (at + 4) node_room) 0 c = left_by_lem ∙ ap (λ (y : Result ℕ WriteError). left_by y n (part s (at + 4) node_room)) f in
              let l : length d ≡ node_room = ap length e ∙ length_over (part s (at + 4) node_room) 0 c (omega (arith, done.room)) ∙ length_room in
              let z : (at + 4) + 0 ≡ at + 4 = omega arith in
              back l ∙ ap (over s (at + 4)) e ∙ sym (rw z at (over_in s (at + 4) 0 node_room c (omega (arith, node_room_lem)) (omega (arith, done.room, length_room))))

          pub write_3 : {u v : List ℕ} → u ≡ write_at 4 after at len → v ≡ clear_at u ((at + 4) + len) (node_room - len) → v ≡ written_in s x n
          unfolding written_in write_node
          write_3 p q =
              let c : List ℕ = encode (chain.first_of n) (steps_of n) in
              let l : len ≡ length c = done.len_is in
              let t : List ℕ = write_at 4 (over s (at + 4) c) at len in
              let k : length t ≡ length s = length_write_at 4 (over s (at + 4) c) at len ∙ length_over s (at + 4) c (omega (arith, l, node_room_lem, node_small)) in
              q ∙ ap (λ (y : List ℕ). clear_at y ((at + 4) + len) (node_room - len)) (p ∙ ap (λ (y : List ℕ). write_at 4 y at len) after_is)
              ∙ clear_at_in t ((at + 4) + len) (node_room - len) (omega (arith, k, node_room_lem, node_small))
              ∙ rw (l, begins) (sym (pick_t _ _ (rw (same_answer, f)) ∙ rw there))

-- ---- formatting

write_seam : (k : ℕ) (p q : List ℕ) (x a : ℕ) → length p ≡ a → write_at k (p ++ (zeros k ++ q)) a x ≡ p ++ (le k x ++ q)
write_seam k p q x a h =
    write_at_in k (p ++ (zeros k ++ q)) a x (simp (length-append, length_zeros) (omega arith))
    ∙ over_seam p (zeros k) (le k x) q a h (length_zeros k ∙ sym (length_le k x))

idle_zeros : idle 0 ≡ zeros slot_size
unfolding idle le zeros
idle_zeros = refl

length_idle : (x : ℕ) → length (idle x) ≡ slot_size
unfolding idle
length_idle x = simp (length-append, length_zeros, length_le)

-- a slot of zeros with x as the next
put_next : (p q : List ℕ) (x a : ℕ) → length p ≡ a → write_at 4 (p ++ (zeros slot_size ++ q)) (a + 4) x ≡ (p ++ idle x) ++ q
put_next p q x a h =
    let e : p ++ (zeros slot_size ++ q) ≡ (p ++ zeros 4) ++ (zeros 4 ++ (zeros 2552 ++ q)) =
    rw (← zeros_append 4 node_room, ← zeros_append 4 2552) (simp append_assoc) in
    rw e (write_seam 4 (p ++ zeros 4) (zeros 2552 ++ q) x (a + 4) (simp (length-append, length_zeros) (omega arith)) ∙ unfold idle in simp append_assoc)

linked_blanks : (k i : ℕ) (p : List ℕ) → 1 ≤ i → length p ≡ start i → linked (p ++ zeros (slot_size * suc k)) i k ≡ p ++ blanks i (suc k)
unfolding linked
linked_blanks zero i p l h = rw (append-nil, idle_zeros)
linked_blanks (suc k) i p l h =
    let z : zeros (slot_size * suc (suc k)) ≡ zeros slot_size ++ zeros (slot_size * suc k) = let n : slot_size * suc (suc k) ≡ slot_size + slot_size * suc k = omega arith in rw n (sym (zeros_append slot_size (slot_size * suc k))) in
    let w : length (p ++ idle (suc i)) ≡ start (suc i) = length-append p (idle (suc i)) ∙ rw (h, length_idle (suc i)) (omega arith) in
    rw (z, add-one, put_next p (zeros (slot_size * suc k)) (suc i) (start i) h)
    (linked_blanks k (suc i) (p ++ idle (suc i)) (omega arith) w ∙ append_assoc p (idle (suc i)) (blanks (suc i) (suc k)))

-- the loop of `link`
module _ (n : ℕ) {f : List ℕ} (t : List ℕ) (i : ℕ) (left : f ≡ linked t i (n - i)) where
  pub link_turn : {at : ℕ} {u : List ℕ} → i < n → at ≡ start i → u ≡ write_at 4 t (at + 4) (i + 1) → f ≡ linked u (i + 1) (n - (i + 1))
  link_turn h p q =
      let z : n - i ≡ suc (n - (i + 1)) = omega arith in
      rw z at left ∙ unfold linked in rw (q, p)

header_made : (n : ℕ) → write_at 4 (write_at 4 (zeros (header_size + slot_size * n)) 12 n) 16 1 ≡ header 0 0 n 1 ++ zeros (slot_size * n)
header_made n =
    let m : ℕ = slot_size * n in
    let a : zeros (header_size + m) ≡ zeros 12 ++ (zeros 4 ++ (zeros 4 ++ (zeros 4 ++ zeros m))) = let e : header_size + m ≡ 12 + (4 + (4 + (4 + m))) = omega arith in rw (e, ← zeros_append 12 (4 + (4 + (4 + m))), ← zeros_append 4 (4 + (4 + m)), ← zeros_append 4 (4 + m), ← zeros_append 4 m) in
    let b = write_seam 4 (zeros 12) (zeros 4 ++ (zeros 4 ++ zeros m)) n 12 (length_zeros 12) in
    let c = write_seam 4 (zeros 12 ++ le 4 n) (zeros 4 ++ zeros m) 1 16 (simp (length-append, length_zeros, length_le)) in
    let d : zeros 12 ≡ le 8 0 ++ le 4 0 = unfold le zeros in refl in
    rw (a, b, ← append_assoc (zeros 12) (le 4 n) (zeros 4 ++ (zeros 4 ++ zeros m)), c, d) (unfold header in simp append_assoc)

length_header : (n : ℕ) → length (header 0 0 n 1) ≡ header_size
unfolding header
length_header n = simp (length-append, length_zeros, length_le)

made_lem : (n : ℕ) → 1 ≤ n → linked (header 0 0 n 1 ++ zeros (slot_size * n)) 1 (n - 1) ≡ fresh n
unfolding fresh
made_lem zero h = absurd (omega arith)
made_lem (suc k) h = let e : suc k - 1 ≡ k = omega arith in rw e (linked_blanks k 1 (header 0 0 (suc k) 1) (omega arith) (length_header (suc k)))

cleared : (s : List ℕ) → clear_at s 0 (length s) ≡ zeros (length s)
cleared s =
    clear_at_in s 0 (length s) (omega arith)
    ∙ ap (λ (t : List ℕ). over t 0 (zeros (length s))) (sym (append-nil s))
    ∙ over_seam [] s (zeros (length s)) [] 0 refl (sym (length_zeros (length s))) ∙ append-nil (zeros (length s))

module _ (s : List ℕ) (n : ℕ) {b : Bool} (size : b ≡ has_size (length s) n) where
  pub formatted : {t u v w : List ℕ} → b ≡ true → t ≡ clear_at s 0 (length s) → u ≡ write_at 4 t 12 n → v ≡ write_at 4 u 16 1 → w ≡ linked v 1 (n - 1) → Formats s n (Ok tt) w
  formatted {w = w} h p q k l =
      let e : has_size (length s) n ≡ true = sym size ∙ h in
      let z = sized_lem (length s) n e in
      let m : w ≡ fresh n = rw (l, k, q, p, cleared s, z.size, header_made n) (made_lem n z.least) in
      record { number = sym (pick_t 0 1 e); bytes = m ∙ sym (pick_t (fresh n) s e) }

-- two results that the contract of `format` allows are the same
number_tells : (r q : Result (Unit {0}) FormatError) → format_number r ≡ format_number q → r ≡ q
number_tells (Ok x) (Ok y) e = refl
number_tells (Ok x) (Err NotStore) e = absurd (omega arith)
number_tells (Err NotStore) (Ok y) e = absurd (omega arith)
number_tells (Err NotStore) (Err NotStore) e = refl

pub format_unique : (s : List ℕ) (n : ℕ) (r q : Result (Unit {0}) FormatError) (t u : List ℕ) → Formats s n r t → Formats s n q u → (r ≡ q) × (t ≡ u)
format_unique s n r q t u a b = (number_tells r q (a.number ∙ sym b.number), a.bytes ∙ sym b.bytes)

-- ---- what is read, as a chain

scan_none : scan [] ≡ stop ShortChild 0
unfolding scan scan_from settle pick fits_in
scan_none = refl

-- no bytes are refused, "the node with no separator and no child"
pub no_places : places_of [] ≡ layout.layout (stop ShortChild 0)
unfolding places_of
no_places = rw scan_none

pub no_reading : reading_of [] ≡ record { ending = ShortChild; node = node_of 0 [] }
unfolding reading_of
no_reading = rw scan_none

-- a reading and the places of the same bytes
pub record Agree (p : Places) (r : Reading) : Type 0 where
  pub ending : p.ending ≡ r.ending
  pub count : p.count ≡ r.node.count
  pub children : p.children ≡ r.node.children
  pub values : p.values ≡ r.node.values
  pub lens : p.lens ≡ r.node.lens

none_left : (b : List ℕ) (p : Places) (keys : List ℕ) (n : ℕ) → keys ≡ copied b p keys n (n - n)
unfolding copied
none_left b p keys n = let z : n - n ≡ 0 = omega arith in rw z

pub agree : (b : List ℕ) → Agree (places_of b) (reading_of b)
agree b =
    let n : ℕ = (places_of b).count in
    let keys : List ℕ = copied b (places_of b) (replicate 2304 0) 0 n in
    let e = read_done b (places_of b) keys n refl (none_left b (places_of b) keys n) (omega arith) in
    record {
      ending = ap (λ (r : Reading). r.ending) e;
      count = ap (λ (r : Reading). r.node.count) e;
      children = ap (λ (r : Reading). r.node.children) e;
      values = ap (λ (r : Reading). r.node.values) e;
      lens = ap (λ (r : Reading). r.node.lens) e;
    }

module _ (s : List ℕ) (x : ℕ) where
  pub bytes_small : Bytes s → Bytes (bytes_in s x)
  unfolding bytes_in raw_in node_bytes
  bytes_small b =
      by_test Bytes (places_of (raw_in s x)).standard (λ f. by_test Bytes (holds_node s x) (λ e. bytes_part s (start x + 4) (length_at s x) b) (λ e. tt)) (λ f. tt)

  -- a node that is read is in standard form, and has all the bytes there
  pub standard_in : is_accepted (places_in s x).ending ≡ true → (places_in s x).standard ≡ true
  unfolding places_in bytes_in layout.layout
  standard_in =
      by_test (λ (b : List ℕ). is_accepted (places_of b).ending ≡ true → (places_of b).standard ≡ true) (places_of (raw_in s x)).standard
      (λ e h. e)
      (λ e h. let z : ◌≡◌ {A = Bool} false true = sym (ap (λ (p : Places). is_accepted p.ending) no_places) ∙ h in cc)

  pub raw_in_lem : (places_in s x).standard ≡ true → bytes_in s x ≡ raw_in s x
  unfolding places_in bytes_in layout.layout
  raw_in_lem =
      by_test (λ (b : List ℕ). (places_of b).standard ≡ true → b ≡ raw_in s x) (places_of (raw_in s x)).standard
      (λ e h. refl)
      (λ e h. let z : ◌≡◌ {A = Bool} false true = sym (ap (λ (p : Places). p.standard) no_places) ∙ h in cc)

  -- whether the bytes there are in standard form, and then the places
  pub same_flag : (places_of (raw_in s x)).standard ≡ (places_in s x).standard
  unfolding places_in bytes_in layout.layout
  same_flag =
      by_test (λ (b : List ℕ). (places_of (raw_in s x)).standard ≡ (places_of b).standard) (places_of (raw_in s x)).standard
      (λ e. refl)
      (λ e. e ∙ sym (ap (λ (p : Places). p.standard) no_places))

  pub same_places : (places_in s x).standard ≡ true → places_of (raw_in s x) ≡ places_in s x
  unfolding places_in
  same_places e = ap places_of (sym (raw_in_lem e))

  pub reading_is : {b : List ℕ} {r : Reading} → b ≡ raw_in s x → r ≡ reading_of (standard_of b) → r ≡ reading_in s x
  unfolding reading_in bytes_in
  reading_is e q = q ∙ ap (λ (b : List ℕ). reading_of (standard_of b)) e

  -- the struct of an accepted reading, and of a refused one too, is that of the chain
  pub node_in_lem : (reading_in s x).node ≡ node_of (first_in s x) (rest_in s x)
  unfolding reading_in reading_of
  node_in_lem = refl

  pub places_in_lem : places_in s x ≡ layout.layout (scan (bytes_in s x))
  unfolding places_in places_of
  places_in_lem = refl

  -- the chain can be written
  pub writable_in : Bytes s → Writable (first_in s x) (rest_in s x)
  writable_in b = scan_writable (bytes_in s x) (bytes_small b)

  pub agree_in : Agree (places_in s x) (reading_in s x)
  unfolding places_in reading_in
  agree_in = agree (bytes_in s x)

  nothing : read_of x (decode []) ≡ none
  nothing = unfold decode pick in rw scan_none

  read_strict : (b : List ℕ) → read_of x (strict_of b) ≡ read_of x (decode (standard_of b))
  unfolding strict_of
  read_strict b =
      cases.by_bool (places_of b).standard
      (λ e. ap (read_of x) (pick_t _ _ (strict_flag b ∙ e)) ∙ ap (λ (t : List ℕ). read_of x (decode t)) (sym (pick_t _ _ e)))
      (λ e. ap (read_of x) (pick_f _ _ (strict_flag b ∙ e)) ∙ sym (ap (λ (t : List ℕ). read_of x (decode t)) (pick_f _ _ e) ∙ nothing))

  decoded : read_node s x ≡ read_of x (decode (bytes_in s x))
  unfolding read_node bytes_in raw_in
  decoded = by_bool (holds_node s x)
    where
      by_bool : (b : Bool) → cond b (read_of x (strict_of (node_bytes s x))) none ≡ read_of x (decode (standard_of (pick b (node_bytes s x) [])))
      by_bool true = read_strict (node_bytes s x) ∙ ap (λ (t : List ℕ). read_of x (decode (standard_of t))) (sym (pick_t {b = true} (node_bytes s x) [] refl))
      by_bool false =
          sym (ap (λ (t : List ℕ). read_of x (decode (standard_of t))) (pick_f {b = false} (node_bytes s x) [] refl)
          ∙ by_test (λ (t : List ℕ). read_of x (decode t) ≡ none) (places_of []).standard (λ e. nothing) (λ e. nothing))

  pub read_accepted : is_accepted (reading_in s x).ending ≡ true → read_node s x ≡ some (node_in s x)
  unfolding reading_in reading_of decode
  read_accepted h = decoded ∙ ap (read_of x) (pick_t _ _ h)

  pub read_refused : is_accepted (reading_in s x).ending ≡ false → read_node s x ≡ none
  unfolding reading_in reading_of decode
  read_refused h = decoded ∙ ap (read_of x) (pick_f _ _ h)

  pub accepted_holds : is_accepted (reading_in s x).ending ≡ true → holds_node s x ≡ true
  unfolding reading_in bytes_in raw_in
  accepted_holds =
      by_test (λ (b : List ℕ). is_accepted (reading_of b).ending ≡ true → holds_node s x ≡ true) (places_of (raw_in s x)).standard
      (λ f. by_test (λ (b : List ℕ). is_accepted (reading_of b).ending ≡ true → holds_node s x ≡ true) (holds_node s x) (λ e h. e) no)
      no
    where
      no : {b : Bool} → b ≡ false → is_accepted (reading_of []).ending ≡ true → holds_node s x ≡ true
      no e h = let z : ◌≡◌ {A = Bool} false true = sym (ap (λ (r : Reading). is_accepted r.ending) no_reading) ∙ h in cc

  pub accepted_standard : is_accepted (reading_in s x).ending ≡ true → (places_in s x).standard ≡ true
  accepted_standard h = standard_in (ap is_accepted agree_in.ending ∙ h)

  pub accepted_bytes : is_accepted (reading_in s x).ending ≡ true → bytes_in s x ≡ node_bytes s x
  unfolding raw_in
  accepted_bytes h = raw_in_lem (accepted_standard h) ∙ pick_t _ _ (accepted_holds h)

  -- what was read stands in a slot, which is the one to write to
  pub accepted_slot : is_accepted (reading_in s x).ending ≡ true → (is_slot s x ≡ true) × (slot_of s x ≡ x)
  unfolding holds_node slot_of
  accepted_slot h =
      let e = (both_true (is_slot s x) (leb least_node (length_at s x) && leb (length_at s x) most_node) (accepted_holds h)).0 in
      (e, pick_t _ _ e)

  -- so `slot_of` has a slot to answer
  pub accepted_some : {o : std.Option Slot} → is_accepted (reading_in s x).ending ≡ true → o ≡ some_slot (slot_of s x) → o ≡ None → ⊥
  unfolding is_slot slot_of some_slot pick
  accepted_some h e f = let a = (accepted_slot h).0 in grind arith

-- what `slot_of` and `take_slot` answer: a slot's number, or none for 0
module _ {n : ℕ} {o : std.Option Slot} (e : o ≡ some_slot n) where
  pub some_number : {v : Slot} → o ≡ Some v → (v.0 ≡ n) × (v.0 ≡ 0 → ⊥)
  unfolding some_slot pick
  some_number f = grind arith

  pub none_number : o ≡ None → n ≡ 0
  unfolding some_slot pick
  none_number f = grind arith

-- ---- the child test, on chains

fit_cons : (d : ℕ) (c : Child) (l : List Child) → children_fit d (c ∷ l) ≡ (not (misfits d c) && children_fit d l)
unfolding children_fit
fit_cons d c l = not_or (misfits d c) (any_of (misfits d) l)

module _ (d : ℕ) where
  -- the child numbers behind the first that fit the depth
  abbrev pub RestFits : List Step → Type 0
  RestFits = AllRight (λ (y : ℕ). misfits d (child_of y) ≡ false)

  rest_fits : (r : List Step) → RestFits r → children_fit d (map (λ (x : Step). child_of x.1) r) ≡ true
  rest_fits [] h = unfold children_fit in refl
  rest_fits (x ∷ r) h = rw (fit_cons d (child_of x.1) (map (λ (y : Step). child_of y.1) r), h.0) (rest_fits r h.1)

  fits_rest : (r : List Step) → children_fit d (map (λ (x : Step). child_of x.1) r) ≡ true → RestFits r
  fits_rest [] h = tt
  fits_rest (x ∷ r) h =
      let p = both_true (not (misfits d (child_of x.1))) (children_fit d (map (λ (y : Step). child_of y.1) r)) (sym (fit_cons d (child_of x.1) (map (λ (y : Step). child_of y.1) r)) ∙ h) in
      (not-true (misfits d (child_of x.1)) p.0, fits_rest r p.1)

  pub chain_fits_lem : (c : ℕ) (r : List Step) → misfits d (child_of c) ≡ false → RestFits r → chain_fits d c r ≡ true
  chain_fits_lem c r h g = rw (fit_cons d (child_of c) (map (λ (y : Step). child_of y.1) r), h) (rest_fits r g)

  pub fits_chain : (c : ℕ) (r : List Step) → chain_fits d c r ≡ true → (misfits d (child_of c) ≡ false) × RestFits r
  fits_chain c r h =
      let p = both_true (not (misfits d (child_of c))) (children_fit d (map (λ (y : Step). child_of y.1) r)) (sym (fit_cons d (child_of c) (map (λ (y : Step). child_of y.1) r)) ∙ h) in
      (not-true (misfits d (child_of c)) p.0, fits_rest r p.1)

  -- the struct of a chain passes where the chain does
  pub node_fits : (c : ℕ) (r : List Step) → fits_depth d (node_of c r).count (node_of c r).children ≡ chain_fits d c r
  unfolding fits_depth node_of padded
  node_fits c r =
      let l : List Child = child_of c ∷ map (λ (x : Step). child_of x.1) r in
      ap (children_fit d) (take_at l (replicate (9 - length l) (child_of 0)) (length r + 1) (omega (arith, length-map r (λ (x : Step). child_of x.1))))

-- ---- what is read at a depth, as a chain

pub record AcceptedAt (d : ℕ) (s : List ℕ) (x : ℕ) : Type 0 where
  pub found : read_node_at d s x ≡ some (node_in s x)
  pub read : read_node s x ≡ some (node_in s x)
  pub fit : chain_fits d (first_in s x) (rest_in s x) ≡ true
  pub reading : reading_at d s x ≡ reading_in s x
  pub places : places_at d s x ≡ places_in s x

module _ (s : List ℕ) (x d : ℕ) where
  reading_fits : fits_depth d (reading_in s x).node.count (reading_in s x).node.children ≡ chain_fits d (first_in s x) (rest_in s x)
  reading_fits = ap (λ (n : struct.Node). fits_depth d n.count n.children) (node_in_lem s x) ∙ node_fits d (first_in s x) (rest_in s x)

  pub places_fit : fits_depth d (places_in s x).count (places_in s x).children ≡ chain_fits d (first_in s x) (rest_in s x)
  places_fit = rw ((agree_in s x).count, (agree_in s x).children) reading_fits

  module _ (e : chain_fits d (first_in s x) (rest_in s x) ≡ true) where
    reading_kept : reading_at d s x ≡ reading_in s x
    unfolding reading_at
    reading_kept = pick_t _ _ (reading_fits ∙ e)

    places_kept : places_at d s x ≡ places_in s x
    unfolding places_at
    places_kept = pick_t _ _ (places_fit ∙ e)

  module _ (e : chain_fits d (first_in s x) (rest_in s x) ≡ false) where
    reading_dropped : reading_at d s x ≡ reading_of []
    unfolding reading_at
    reading_dropped = pick_f _ _ (reading_fits ∙ e)

    places_dropped : places_at d s x ≡ places_of []
    unfolding places_at
    places_dropped = pick_f _ _ (places_fit ∙ e)

    -- a reading that doesn't fit is refused
    never_lem : is_accepted (reading_at d s x).ending ≡ false
    never_lem = ap (λ (r : Reading). is_accepted r.ending) (reading_dropped ∙ no_reading)

  pub ending_at : (places_at d s x).ending ≡ (reading_at d s x).ending
  ending_at = go (chain_fits d (first_in s x) (rest_in s x)) refl
    where
      go : (b : Bool) → chain_fits d (first_in s x) (rest_in s x) ≡ b → (places_at d s x).ending ≡ (reading_at d s x).ending
      go true e = ap (λ (p : Places). p.ending) (places_kept e) ∙ (agree_in s x).ending ∙ sym (ap (λ (r : Reading). r.ending) (reading_kept e))
      go false e = ap (λ (p : Places). p.ending) (places_dropped e) ∙ (agree []).ending ∙ sym (ap (λ (r : Reading). r.ending) (reading_dropped e))

  found_at : read_node s x ≡ some (node_in s x) → chain_fits d (first_in s x) (rest_in s x) ≡ true → read_node_at d s x ≡ some (node_in s x)
  unfolding read_node_at
  found_at a e = ap (when_fit d) a ∙ pick_t _ _ e

  pub accepted_at : is_accepted (reading_at d s x).ending ≡ true → AcceptedAt d s x
  accepted_at h = go (chain_fits d (first_in s x) (rest_in s x)) refl
    where
      go : (b : Bool) → chain_fits d (first_in s x) (rest_in s x) ≡ b → AcceptedAt d s x
      go true e =
          let a = read_accepted s x (sym (ap (λ (r : Reading). is_accepted r.ending) (reading_kept e)) ∙ h) in
          record {
            found = found_at a e;
            read = a;
            fit = e;
            reading = reading_kept e;
            places = places_kept e;
          }
      go false e = let z : ◌≡◌ {A = Bool} true false = sym h ∙ never_lem e in let k : ◌≡◌ {A = ℕ} 0 1 = cc in absurd (omega arith)

  pub refused_at : is_accepted (reading_at d s x).ending ≡ false → read_node_at d s x ≡ none
  unfolding read_node_at
  refused_at h = go (is_accepted (reading_in s x).ending) refl (chain_fits d (first_in s x) (rest_in s x)) refl
    where
      go : (a : Bool) → is_accepted (reading_in s x).ending ≡ a → (b : Bool) → chain_fits d (first_in s x) (rest_in s x) ≡ b → when_fit d (read_node s x) ≡ none
      go false p b e = ap (when_fit d) (read_refused s x p)
      go true p false e = ap (when_fit d) (read_accepted s x p) ∙ pick_f _ _ e
      go true p true e =
          let z : ◌≡◌ {A = Bool} true false = sym p ∙ sym (ap (λ (r : Reading). is_accepted r.ending) (reading_kept e)) ∙ h in
          let k : ◌≡◌ {A = ℕ} 0 1 = cc in
          absurd (omega arith)

-- ---- what is written, as a chain

pub written_chain : (s : List ℕ) (x c : ℕ) (r : List Step) → Writable c r → written_in s x (node_of c r) ≡ write_node s (record { slot = x; first = c; rest = r })
unfolding written_in
written_chain s x c r w =
    let d : List ℕ = zeros node_room in
    let e : written_of (node_of c r) d ≡ Ok (length (encode c r)) = writes_chain c r d w (omega (arith, standard_most c r w, length_zeros node_room)) in
    pick_t _ _ (ap (λ (a : Result ℕ WriteError). eqb (written_number a) 0) e) ∙ rw (first_node c r, steps_node c r w.rest)
