-- What 01 says of node bytes, as theorems about what `read`, `key` and `write` answer. Read Codec and Layout of specs/
-- first. Assumes nothing.
use mathlib.Core.Path.{◌≡◌, refl, sym, ap, subst, ◌∙◌}
use mathlib.Core.List.{List, [], ◌∷◌, map}
use mathlib.Core.Bool.{Bool, true, false, ◌||◌}
use Prim.Native.Nat.{ℕ, zero, suc, ◌+◌, ◌*◌, ◌^◌, ◌≤◌, ◌<◌}
use lib.ListN.{length, take, drop, get_or, length-take, length-map}
use lib.Seq.{take_at}
use lib.Dec.{ltb, eqb}
use native.Mathlib.Omega.{arith}
use borrow.Author.Tests.{ltb-false, eqb-true, eqb-false, le-ltb}
use Rattle.word.specs.Pick.{pick_f, by_test}
use Rattle.word.specs.Part.{part, over}
use Rattle.word.specs.Num.{Bytes}
use Rattle.word.proofs.PartLaws.{length_part}
use Rattle.node.specs.declared.Value.{Value}
use Rattle.node.specs.declared.Child.{Child}
use Rattle.codec.specs.declared.Ending.{Ending}
use Rattle.codec.specs.declared.Ending.TheVariants.{NoByteLeft}
use Rattle.node.specs.declared.Node.{Node}
use Rattle.codec.specs.declared.Reading.{Reading}
use Rattle.std.specs.Prelude.{Result, Ok, Err}
use Rattle.codec.specs.declared.WriteError.{WriteError}
use Rattle.node.specs.Chain.{Step, longest_key, FitAll, Writable, value_of, child_of, node_of, trimmed, steps_from, steps_of, first_of}
use Rattle.codec.specs.Codec.{rest_length, encode, Standard, is_accepted, ending_number, is_no_byte_left, Spot, Scan, stop, settle, scan_from, scan, step_of, Decoded, refused, accepted, decode}
use Rattle.codec.specs.Layout.{all_plain, layout, places_of, reading_of, key_place, any_of, any_first, is_long, is_none, written_of, left_by}
use Rattle.word.proofs.NumLaws.{bytes_part}
use Rattle.codec.proofs.ScanLaws.{positive, and_left, and_right, AllLie, AllSmall, scan_lies, scan_sound}
use Rattle.codec.proofs.EncodeLaws.{length_encode, sep_most, scan_finds}
use Rattle.node.proofs.ChainLaws.{steps_node, first_node, count_node}
use Rattle.codec.proofs.LayoutLaws.{node_none_long, node_none_zero}

-- ---- "The largest node is 9×8 + 8×(13+288) = 2,480 bytes."

rest_most : (r : List Step) → FitAll r → rest_length r ≤ 309 * length r
rest_most [] f = omega arith
rest_most (x ∷ r) f = omega (arith, sep_most (length x.0.key), f.0.short, rest_most r f.2)

-- the length of standard form is 8 bytes for each child and `sep_length` of each key's length
pub standard_length : (c : ℕ) (r : List Step) → length (encode c r) ≡ 8 + rest_length r
standard_length c r = length_encode c r

pub standard_most : (c : ℕ) (r : List Step) → Writable c r → length (encode c r) ≤ 2480
standard_most c r w = let m = w.most in omega (arith, length_encode c r, rest_most r w.rest)

-- ---- a reading is accepted exactly if the definition accepts it, and gives its chain

pub record Numbered : Type 0 where
  pub number : ℕ
  pub node : Node

abbrev pub decoded_node : Decoded → Numbered
decoded_node (refused m) = record { number = m; node = node_of 0 [] }
decoded_node (accepted c r) = record { number = 0; node = node_of c r }

settled_lem : (r : Scan) → is_accepted (settle r).ending ≡ false → settle r ≡ stop (settle r).ending 0
unfolding settle
settled_lem r a = by_test (λ (t : Scan). is_accepted t.ending ≡ false → t ≡ stop t.ending 0) (is_accepted r.ending) (λ e f. cc) (λ e f. refl) a

refused_scan : (s : List ℕ) → is_accepted (scan s).ending ≡ false → scan s ≡ stop (scan s).ending 0
unfolding scan
refused_scan s a = settled_lem (scan_from s 8 0) a

accepted_number : (e : Ending) → is_accepted e ≡ true → ending_number e ≡ 0
accepted_number e a = eqb-true (ending_number e) 0 a

-- 01's number and the node of a reading
abbrev pub read_numbered : Scan → List Step → Numbered
read_numbered r l = record { number = ending_number r.ending; node = node_of r.first l }

pub read_decodes : (s : List ℕ) → ◌≡◌ {A = Numbered} (record { number = ending_number (reading_of s).ending; node = (reading_of s).node }) (decoded_node (decode s))
unfolding reading_of decode
read_decodes s =
    by_test (λ (t : Decoded). read_numbered (scan s) (map (step_of s) (scan s).rest) ≡ decoded_node t) (is_accepted (scan s).ending)
    (λ a. rw (accepted_number (scan s).ending a)) (λ a. none a)
  where
    none : is_accepted (scan s).ending ≡ false → read_numbered (scan s) (map (step_of s) (scan s).rest) ≡ decoded_node (refused (ending_number (scan s).ending))
    none a = ap (λ (r : Scan). record { number = ending_number (scan s).ending; node = node_of r.first (map (step_of s) r.rest) }) (refused_scan s a)

-- ---- "A written node reads back, without what 01 drops"

-- what every value of the struct holds: numbers of 64 bits, bytes, arrays of their lengths
abbrev pub Below64 : {X : Type 0} → (X → ℕ) → List X → Type 0
Below64 f [] = Unit {0}
Below64 f (x ∷ l) = (f x < 2 ^ 64) × Below64 f l

pub record Typed (n : Node) : Type 0 where
  pub children : Below64 (λ (c : Child). c.0) n.children
  pub values : Below64 (λ (v : Value). v.0) n.values
  pub eight : length n.values ≡ 8
  pub keys : Bytes n.keys

below_at : {X : Type 0} (f : X → ℕ) (l : List X) (z : X) (i : ℕ) → f z < 2 ^ 64 → Below64 f l → f (get_or l i z) < 2 ^ 64
below_at f [] z i h b = h
below_at f (x ∷ l) z zero h b = b.0
below_at f (x ∷ l) z (suc i) h b = below_at f l z i h b.1

or_left : (x y : Bool) → (x || y) ≡ false → x ≡ false
or_left true y p = p
or_left false y p = refl

or_right : (x y : Bool) → (x || y) ≡ false → y ≡ false
or_right true y p = cc
or_right false y p = p

pub none_long_at : (m : ℕ) (l : List ℕ) (i : ℕ) → any_first is_long m l ≡ false → i < m → get_or l i 0 ≤ longest_key
unfolding any_first
none_long_at m [] i h k = omega arith
none_long_at zero (x ∷ l) i h k = absurd (omega arith)
none_long_at (suc m) (x ∷ l) zero h k = ltb-false longest_key x (or_left (ltb longest_key x) (any_of is_long (take m l)) h)
none_long_at (suc m) (x ∷ l) (suc i) h k = none_long_at m l i (or_right (ltb longest_key x) (any_of is_long (take m l)) h) (omega arith)

none_zero_at : (m : ℕ) (l : List Value) (i : ℕ) → any_first is_none m l ≡ false → i < m → m ≤ length l → 0 < (get_or l i (value_of 0)).0
unfolding any_first
none_zero_at m [] i h k w = absurd (omega arith)
none_zero_at zero (x ∷ l) i h k w = absurd (omega arith)
none_zero_at (suc m) (x ∷ l) zero h k w = positive x.0 (eqb-false x.0 0 (or_left (eqb x.0 0) (any_of is_none (take m l)) h))
none_zero_at (suc m) (x ∷ l) (suc i) h k w = none_zero_at m l i (or_right (eqb x.0 0) (any_of is_none (take m l)) h) (omega arith) (omega arith)

pub record Accepted (n : Node) (d : List ℕ) (len : ℕ) : Type 0 where
  pub few : n.count ≤ 8
  pub short : any_first is_long n.count n.lens ≡ false
  pub there : any_first is_none n.count n.values ≡ false
  pub room : length (encode (first_of n) (steps_of n)) ≤ length d
  pub len_is : len ≡ length (encode (first_of n) (steps_of n))

abbrev IfDone : Node → List ℕ → Result ℕ WriteError → Type 0
IfDone n d (Ok len) = Accepted n d len
IfDone n d (Err e) = Unit {0}

if_done : (n : Node) (d : List ℕ) → IfDone n d (written_of n d)
unfolding written_of
if_done n d =
    by_test (IfDone n d) (ltb 8 n.count) (λ a. tt) λ a.
    by_test (IfDone n d) (any_first is_long n.count n.lens) (λ b. tt) λ b.
    by_test (IfDone n d) (any_first is_none n.count n.values) (λ c. tt) λ c.
    by_test (IfDone n d) (ltb (length d) (length (encode (first_of n) (steps_of n)))) (λ e. tt) λ e.
    record { few = ltb-false 8 n.count a; short = b; there = c; room = ltb-false (length d) (length (encode (first_of n) (steps_of n))) e; len_is = refl }

pub when_done : (n : Node) (d : List ℕ) (len : ℕ) → written_of n d ≡ Ok len → Accepted n d len
when_done n d len e = subst (IfDone n d) e (if_done n d)

module _ (n : Node) (t : Typed n) (short : any_first is_long n.count n.lens ≡ false) (there : any_first is_none n.count n.values ≡ false) (few : n.count ≤ 8) where
  at_most : (s : List ℕ) (a m : ℕ) → length (part s a m) ≤ m
  unfolding part
  at_most s a m = omega (arith, length-take m (drop a s))

  steps_fit : (i k : ℕ) → i + k ≤ n.count → FitAll (steps_from n i k)
  steps_fit i zero h = tt
  steps_fit i (suc k) h = (
    record {
      bytes = bytes_part n.keys (288 * i) (get_or n.lens i 0) t.keys;
      short = omega (arith, at_most n.keys (288 * i) (get_or n.lens i 0), none_long_at n.count n.lens i short (omega arith));
      there = none_zero_at n.count n.values i there (omega arith) (omega (arith, t.eight));
      small = below_at (λ (v : Value). v.0) n.values (value_of 0) i (omega arith) t.values;
    },
    below_at (λ (c : Child). c.0) n.children (child_of 0) (i + 1) (omega arith) t.children,
    steps_fit (i + 1) k (omega arith),
  )

length_steps : (n : Node) (i k : ℕ) → length (steps_from n i k) ≡ k
length_steps n i zero = refl
length_steps n i (suc k) = ap suc (length_steps n (i + 1) k)

-- what can be written of a node that `write` accepts
pub node_writable : (n : Node) (d : List ℕ) (len : ℕ) → Typed n → written_of n d ≡ Ok len → Writable (first_of n) (steps_of n)
unfolding first_of steps_of
node_writable n d len t e =
    let a = when_done n d len e in
    record {
      first = below_at (λ (c : Child). c.0) n.children (child_of 0) 0 (omega arith) t.children;
      rest = steps_fit n t a.short a.there a.few 0 n.count (omega arith);
      most = omega (arith, length_steps n 0 n.count, a.few);
    }

pub reads_standard : (c : ℕ) (r : List Step) → Writable c r → reading_of (encode c r) ≡ record { ending = NoByteLeft; node = node_of c r }
unfolding reading_of
reads_standard c r w = let f = scan_finds (encode c r) c r w.first w.rest w.most refl in rw (f.ending, f.first, f.rest)

over_front : (d b : List ℕ) → take (length b) (over d 0 b) ≡ b
unfolding over
over_front d b = take_at b (drop (0 + length b) d) (length b) refl

pub written_reads_back : (n : Node) (d : List ℕ) (len : ℕ) → Typed n → written_of n d ≡ Ok len
    → reading_of (take len (left_by (Ok len) n d)) ≡ record { ending = NoByteLeft; node = trimmed n }
unfolding trimmed
written_reads_back n d len t e =
    let a = when_done n d len e in
    rw (a.len_is, over_front d (encode (first_of n) (steps_of n))) (reads_standard (first_of n) (steps_of n) (node_writable n d len t e))

-- ---- "a node in standard form, read and written, gives the same bytes"

pub writes_chain : (c : ℕ) (r : List Step) (d : List ℕ) → Writable c r → length (encode c r) ≤ length d → written_of (node_of c r) d ≡ Ok (length (encode c r))
unfolding written_of
writes_chain c r d w h =
    let few : (node_of c r).count ≤ 8 = rw (count_node c r) w.most in
    pick_f _ _ (le-ltb 8 (node_of c r).count few) ∙ pick_f _ _ (node_none_long c r w.rest) ∙ pick_f _ _ (node_none_zero c r w.rest)
    ∙ rw (first_node c r, steps_node c r w.rest) (pick_f _ _ (le-ltb (length d) (length (encode c r)) h))

pub record SameBytes (s d : List ℕ) (n : Node) : Type 0 where
  pub done : written_of n d ≡ Ok (length s)
  pub bytes : left_by (written_of n d) n d ≡ over d 0 s

pub standard_same_bytes : (s d : List ℕ) → Standard s → length s ≤ length d → SameBytes s d (reading_of s).node
standard_same_bytes s d h l = subst (λ (t : List ℕ). SameBytes t d (reading_of t).node) (sym h.bytes) (go h.first h.rest h.fine (rw (← h.bytes) l))
  where
    go : (c : ℕ) (r : List Step) → Writable c r → length (encode c r) ≤ length d → SameBytes (encode c r) d (reading_of (encode c r)).node
    go c r w k =
        let e : (reading_of (encode c r)).node ≡ node_of c r = ap (λ (x : Reading). x.node) (reads_standard c r w) in
        subst (SameBytes (encode c r) d) (sym e) (record {
          done = writes_chain c r d w k;
          bytes = rw (writes_chain c r d w k, first_node c r, steps_node c r w.rest);
        })

-- ---- the places' flag says exactly that bytes are in standard form

spots_fit : (s : List ℕ) → Bytes s → (r : List (Spot × ℕ)) → AllLie s r → AllSmall r → FitAll (map (step_of s) r)
spots_fit s b [] h m = tt
spots_fit s b (x ∷ r) h m = (
  record {
    bytes = bytes_part s x.0.start x.0.len b;
    short = rw (length_part s x.0.start x.0.len h.0.within) h.0.short;
    there = h.0.there;
    small = m.0;
  },
  m.1,
  spots_fit s b r h.1 m.2,
)

-- what was read can be written
pub scan_writable : (s : List ℕ) → Bytes s → Writable (scan s).first (map (step_of s) (scan s).rest)
scan_writable s b =
    let o = scan_sound s b in
    let l = scan_lies s in
    record { first = o.first; rest = spots_fit s b (scan s).rest l.spots o.small; most = omega (arith, length-map (scan s).rest (step_of s), l.most) }

pub flagged_standard : (s : List ℕ) → Bytes s → (places_of s).standard ≡ true → Standard s
unfolding places_of layout
flagged_standard s b e = record {
  first = (scan s).first;
  rest = map (step_of s) (scan s).rest;
  fine = scan_writable s b;
  bytes = (scan_sound s b).same (and_left (all_plain (scan s).rest) (is_no_byte_left (scan s).ending) e) (and_right (all_plain (scan s).rest) (is_no_byte_left (scan s).ending) e);
}

pub standard_flagged : (s : List ℕ) → Standard s → (places_of s).standard ≡ true
unfolding places_of layout
standard_flagged s h =
    let f = scan_finds s h.first h.rest h.fine.first h.fine.rest h.fine.most h.bytes in
    rw (f.plain, f.ending)

-- ---- two results that a contract allows are the same (docs/UNIQUE.md)

once : {A : Type 0} {x y z : A} → x ≡ z → y ≡ z → x ≡ y
once p q = p ∙ sym q

pub read_once : (s : List ℕ) {r q : Reading} → r ≡ reading_of s → q ≡ reading_of s → r ≡ q
read_once s p q = once p q

pub key_once : (s : List ℕ) (i : ℕ) {r q : List ℕ} → r ≡ part s (key_place s i).start (key_place s i).len → q ≡ part s (key_place s i).start (key_place s i).len → r ≡ q
key_once s i p q = once p q

-- the answer and the destination
pub write_once : (n : Node) (d : List ℕ) {w v : Result ℕ WriteError} {e f : List ℕ} → (w ≡ written_of n d) × (e ≡ left_by (written_of n d) n d) → (v ≡ written_of n d) × (f ≡ left_by (written_of n d) n d) → (w ≡ v) × (e ≡ f)
write_once n d p q = (once p.0 q.0, once p.1 q.1)
