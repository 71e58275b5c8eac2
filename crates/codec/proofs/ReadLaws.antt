-- The leaves of reading, the copies of keys and the part of a key: each way through the code. Assumes nothing.
use mathlib.Core.Path.{◌≡◌, refl, sym, ap, subst, ◌∙◌}
use mathlib.Core.List.{List, [], ◌∷◌, ◌++◌, map, append_assoc, append-nil}
use mathlib.Core.Bool.{Bool, true, false, ◌&&◌, not}
use Prim.Native.Nat.{ℕ, zero, suc, ◌+◌, ◌*◌, ◌-◌, ◌≤◌, ◌<◌}
use lib.ListN.{length, get_or, take, drop, replicate, length-append, length-map, length-replicate, replicate-append-replicate}
use lib.Dec.{leb}
use native.Mathlib.Omega.{arith}
use borrow.Author.Tests.{eq-eqb, ne_eqb, not-true, not-false, le-ltb, lt-ltb}
use Rattle.word.specs.Pick.{pick, pick_t, pick_f}
use Rattle.word.specs.Part.{part, over}
use Rattle.word.specs.At.{fits_in, read_at, copy_at}
use Rattle.word.proofs.PartLaws.{over_seam, length_part}
use Rattle.word.proofs.AtLaws.{copy_at_in}
use Rattle.codec.specs.declared.Ending.{Ending}
use Rattle.codec.specs.declared.Ending.TheVariants.{ZeroValue, ShortChild, ShortHead, ShortSize, ShortKey, LongKey}
use Rattle.std.specs.Prelude.{Result, Ok, Err}
use Rattle.codec.specs.declared.Head.{Head}
use Rattle.codec.specs.declared.Places.{Places}
use Rattle.codec.specs.declared.Reading.{Reading}
use Rattle.node.specs.declared.Node.{Node}
use Rattle.node.specs.Chain.{Step, longest_key, padded, child_of, value_of, blocks, node_of}
use Rattle.codec.specs.Codec.{Spot, is_accepted, is_no_byte_left, key_at, size_at, head_at, scan_from, settle, scan, step_of}
use Rattle.codec.specs.Layout.{layout, places_of, reading_of, place_in, key_place}
use Rattle.codec.specs.Mirror.{ended_with, copied}
use Rattle.codec.proofs.ScanLaws.{refused_not_whole, AllLie, scan_lies}
use Rattle.node.proofs.ChainLaws.{get_or_padded, get_or_mapped, Short, blocks_append, length_blocks}

-- ---- a separator's head

module _ (s : List ℕ) (v start len : ℕ) (plain : Bool) {b : Bool} (f : b ≡ fits_in (length s) start len) where
  pub key_1 : not b ≡ true → Err ShortKey ≡ key_at s v start len plain
  unfolding key_at
  key_1 t = sym (pick_f _ _ (sym f ∙ not-true _ t))

  pub key_2 : not b ≡ false → v ≡ 0 → Err ZeroValue ≡ key_at s v start len plain
  unfolding key_at
  key_2 t z = sym (pick_t _ _ (sym f ∙ not-false _ t) ∙ pick_t _ _ (eq-eqb v 0 z))

  pub key_3 : not b ≡ false → (v ≡ 0 → ⊥) → 288 < len → Err LongKey ≡ key_at s v start len plain
  unfolding key_at
  key_3 t z l = sym (pick_t _ _ (sym f ∙ not-false _ t) ∙ pick_f _ _ (ne_eqb v 0 z) ∙ pick_t _ _ (lt-ltb longest_key len l))

  pub key_4 : not b ≡ false → (v ≡ 0 → ⊥) → len ≤ 288 → Ok (record { value = value_of v; start = start; len = len; plain = plain }) ≡ key_at s v start len plain
  unfolding key_at
  key_4 t z l = sym (pick_t _ _ (sym f ∙ not-false _ t) ∙ pick_f _ _ (ne_eqb v 0 z) ∙ pick_f _ _ (le-ltb longest_key len l))

module _ (s : List ℕ) (at : ℕ) {b : Bool} (f : b ≡ fits_in (length s) at 9) where
  pub head_1 : not b ≡ true → Err ShortHead ≡ head_at s at
  unfolding head_at
  head_1 t = sym (pick_f _ _ (sym f ∙ not-true _ t))

  module _ {v : ℕ} (t : not b ≡ false) (g : v ≡ read_at 8 s at) where
    pub head_2 : {h : Result Head Ending} → get_or s (at + 8) 0 < 255 → h ≡ key_at s v (at + 9) (get_or s (at + 8) 0) true → h ≡ head_at s at
    unfolding head_at size_at
    head_2 l q = q ∙ rw g (sym (pick_t _ _ (sym f ∙ not-false _ t) ∙ pick_t _ _ (lt-ltb _ 255 l)))

    module _ {c : Bool} (l : 255 ≤ get_or s (at + 8) 0) (k : c ≡ fits_in (length s) (at + 9) 4) where
      pub head_3 : not c ≡ true → Err ShortSize ≡ head_at s at
      unfolding head_at size_at
      head_3 u = sym (pick_t _ _ (sym f ∙ not-false _ t) ∙ pick_f _ _ (le-ltb _ 255 l) ∙ pick_f _ _ (sym k ∙ not-true _ u))

      pub head_4 : {n : ℕ} {p : Bool} {h : Result Head Ending} → not c ≡ false → n ≡ read_at 4 s (at + 9) → p ≡ leb 255 n → h ≡ key_at s v (at + 13) n p → h ≡ head_at s at
      unfolding head_at size_at
      head_4 u m e q = q ∙ rw (e, m, g) (sym (pick_t _ _ (sym f ∙ not-false _ t) ∙ pick_f _ _ (le-ltb _ 255 l) ∙ pick_t _ _ (sym k ∙ not-false _ u)))

-- ---- no bytes

pub reads_none : {n : Node} → n ≡ node_of 0 [] → record { ending = ShortChild; node = n } ≡ reading_of []
unfolding reading_of scan settle scan_from fits_in pick
reads_none e = ap (λ (x : Node). record { ending = ShortChild; node = x }) e

-- ---- ended

pub ended_1 : (p : Places) (e : Ending) (n : ℕ) → is_accepted e ≡ false
    → ◌≡◌ {A = Places} (record { ending = e; standard = false; count = 0; children = replicate 9 (child_of 0); values = replicate 8 (value_of 0); starts = replicate 8 0; lens = replicate 8 0 }) (ended_with p e n)
unfolding ended_with layout padded
ended_1 p e n a = sym (pick_f _ _ a ∙ rw (refused_not_whole e a))

pub ended_2 : (p : Places) (e : Ending) (n : ℕ) {y : Bool} → is_accepted e ≡ true → y ≡ (p.standard && is_no_byte_left e)
    → ◌≡◌ {A = Places} (record { ending = e; standard = y; count = n; children = p.children; values = p.values; starts = p.starts; lens = p.lens }) (ended_with p e n)
unfolding ended_with
ended_2 p e n a q = rw q (sym (pick_t _ _ a))

-- ---- a place of the scan, in the arrays

module _ (s : List ℕ) where
  pub places_few : (places_of s).count ≤ 8
  unfolding places_of layout
  places_few = (scan_lies s).most

  start_is : (r : List (Spot × ℕ)) (i : ℕ) → get_or (map (λ (x : Spot × ℕ). x.0.start) r) i 0 ≡ (place_in r i).start
  start_is [] i = refl
  start_is (x ∷ r) zero = refl
  start_is (x ∷ r) (suc i) = start_is r i

  len_is : (r : List (Spot × ℕ)) (i : ℕ) → get_or (map (λ (x : Spot × ℕ). x.0.len) r) i 0 ≡ (place_in r i).len
  len_is [] i = refl
  len_is (x ∷ r) zero = refl
  len_is (x ∷ r) (suc i) = len_is r i

  pub starts_at : (i : ℕ) → get_or (places_of s).starts i 0 ≡ (key_place s i).start
  unfolding places_of layout key_place
  starts_at i = get_or_padded 8 0 (map (λ (x : Spot × ℕ). x.0.start) (scan s).rest) i ∙ start_is (scan s).rest i

  pub lens_at : (i : ℕ) → get_or (places_of s).lens i 0 ≡ (key_place s i).len
  unfolding places_of layout key_place
  lens_at i = get_or_padded 8 0 (map (λ (x : Spot × ℕ). x.0.len) (scan s).rest) i ∙ len_is (scan s).rest i

  place_lies : (r : List (Spot × ℕ)) (i : ℕ) → AllLie s r → (place_in r i).start + (place_in r i).len ≤ length s
  place_lies [] i h = omega arith
  place_lies (x ∷ r) zero h = h.0.within
  place_lies (x ∷ r) (suc i) h = place_lies r i h.1

  pub key_within : (i : ℕ) → (key_place s i).start + (key_place s i).len ≤ length s
  unfolding key_place
  key_within i = place_lies (scan s).rest i (scan_lies s).spots

  past : (r : List (Spot × ℕ)) (i : ℕ) → length r ≤ i → place_in r i ≡ record { start = 0; len = 0 }
  past [] i h = refl
  past (x ∷ r) zero h = absurd (omega arith)
  past (x ∷ r) (suc i) h = past r i (omega arith)

  pub key_past : (i : ℕ) → (places_of s).count ≤ i → key_place s i ≡ record { start = 0; len = 0 }
  unfolding places_of layout key_place
  key_past i h = past (scan s).rest i h

-- ---- the keys of a reading

-- the reading that the places and the copied keys make
abbrev pub made_of : Places → List ℕ → Reading
made_of p keys = record { ending = p.ending; node = record { count = p.count; children = p.children; values = p.values; lens = p.lens; keys = keys } }

abbrev with_keys : Reading → List ℕ → Reading
with_keys r keys = record { ending = r.ending; node = record { count = r.node.count; children = r.node.children; values = r.node.values; lens = r.node.lens; keys = keys } }

three_zeros : (a b c n : ℕ) → n ≡ a + (b + c) → ◌≡◌ {A = List ℕ} (replicate n 0) (replicate a 0 ++ (replicate b 0 ++ replicate c 0))
three_zeros a b c n e = rw (e, replicate-append-replicate {A = ℕ} b c 0, replicate-append-replicate {A = ℕ} a (b + c) 0)

module _ (s : List ℕ) where
  abbrev block : List (Spot × ℕ) → List ℕ
  block p = blocks (map (step_of s) p)

  lie_short : (r : List (Spot × ℕ)) → AllLie s r → Short (map (step_of s) r)
  lie_short [] h = tt
  lie_short (x ∷ r) h = (rw (length_part s x.0.start x.0.len h.0.within) h.0.short, lie_short r h.1)

  lie_append : (p q : List (Spot × ℕ)) → AllLie s (p ++ q) → AllLie s p × AllLie s q
  lie_append [] q h = (tt, h)
  lie_append (x ∷ p) q h = let g = lie_append p q h.1 in ((h.0, g.0), g.1)

  map_append : (p q : List (Spot × ℕ)) → map (step_of s) (p ++ q) ≡ map (step_of s) p ++ map (step_of s) q
  map_append [] q = refl
  map_append (x ∷ p) q = ap (λ (l : List Step). step_of s x ∷ l) (map_append p q)

  one_block : (p : List (Spot × ℕ)) (x : Spot × ℕ) → block (p ++ (x ∷ [])) ≡ block p ++ padded 288 0 (step_of s x).0.key
  unfolding blocks
  one_block p x = rw (map_append p (x ∷ []), blocks_append (map (step_of s) p) (step_of s x ∷ []), append-nil)

  -- the key of x copied behind those of p
  copy_one : (p : List (Spot × ℕ)) (x : Spot × ℕ) → AllLie s (p ++ (x ∷ [])) → length p < 8
      → copy_at (block p ++ replicate (2304 - 288 * length p) 0) (288 * length p) s x.0.start x.0.len ≡ block (p ++ (x ∷ [])) ++ replicate (2304 - 288 * (length p + 1)) 0
  unfolding padded
  copy_one p x h few =
      let i : ℕ = length p in
      let lp = lie_append p (x ∷ []) h in
      let fit = lp.1.0 in
      let n : ℕ = x.0.len in
      let k : List ℕ = part s x.0.start n in
      let lk : length k ≡ n = length_part s x.0.start n fit.within in
      let short = fit.short in
      let lb : length (block p) ≡ 288 * i = length_blocks (map (step_of s) p) (lie_short p lp.0) ∙ rw (length-map p (step_of s)) in
      let behind : ℕ = 2304 - 288 * (i + 1) in
      let e : 2304 - 288 * i ≡ n + ((288 - n) + behind) = omega arith in
      let z = three_zeros n (288 - n) behind (2304 - 288 * i) e in
      let room : 288 * i + n ≤ length (block p ++ replicate (2304 - 288 * i) 0) = simp (length-append, length-replicate) (omega arith) in
      copy_at_in (block p ++ replicate (2304 - 288 * i) 0) (288 * i) s x.0.start n room fit.within
      ∙ ap (λ (l : List ℕ). over (block p ++ l) (288 * i) k) z
      ∙ over_seam (block p) (replicate n 0) k (replicate (288 - n) 0 ++ replicate behind 0) (288 * i) lb (length-replicate n 0 ∙ sym lk)
      ∙ rw (one_block p x, lk) (simp append_assoc)

  -- the starts and lengths of places that a list of spots fills
  abbrev Filled : Places → List (Spot × ℕ) → Type 0
  Filled p r = (p.starts ≡ padded 8 0 (map (λ (x : Spot × ℕ). x.0.start) r)) × (p.lens ≡ padded 8 0 (map (λ (x : Spot × ℕ). x.0.len) r))

  copied_blocks : (pl : Places) (p q : List (Spot × ℕ)) (i : ℕ) → Filled pl (p ++ q) → AllLie s (p ++ q) → length p ≡ i → i + length q ≤ 8
      → copied s pl (block p ++ replicate (2304 - 288 * i) 0) i (length q) ≡ padded 2304 0 (block (p ++ q))
  unfolding copied padded
  copied_blocks pl p [] i f h e few =
      let lb : length (block p) ≡ 288 * i = length_blocks (map (step_of s) p) (lie_short p (lie_append p [] h).0) ∙ rw (length-map p (step_of s)) (ap (λ (m : ℕ). 288 * m) e) in
      rw (append-nil p, lb)
  copied_blocks pl p (x ∷ q) i f h e few =
      let same : (p ++ (x ∷ [])) ++ q ≡ p ++ x ∷ q = append_assoc p (x ∷ []) q in
      let st : get_or pl.starts i 0 ≡ x.0.start = rw (f.0, ← e) (get_or_padded 8 0 (map (λ (y : Spot × ℕ). y.0.start) (p ++ x ∷ q)) (length p) ∙ get_or_mapped (λ (y : Spot × ℕ). y.0.start) 0 p x q) in
      let ln : get_or pl.lens i 0 ≡ x.0.len = rw (f.1, ← e) (get_or_padded 8 0 (map (λ (y : Spot × ℕ). y.0.len) (p ++ x ∷ q)) (length p) ∙ get_or_mapped (λ (y : Spot × ℕ). y.0.len) 0 p x q) in
      let h' : AllLie s ((p ++ (x ∷ [])) ++ q) = subst (AllLie s) (sym same) h in
      let one = rw e at (copy_one p x (lie_append (p ++ (x ∷ [])) q h').0 (omega arith)) in
      let ih = copied_blocks pl (p ++ (x ∷ [])) q (i + 1) (subst (Filled pl) (sym same) f) h' (simp length-append (omega arith)) (omega arith) in
      let two : copy_at (block p ++ replicate (2304 - 288 * i) 0) (288 * i) s (get_or pl.starts i 0) (get_or pl.lens i 0) ≡ block (p ++ (x ∷ [])) ++ replicate (2304 - 288 * (i + 1)) 0 = rw (st, ln) one in
      ap (λ (keys : List ℕ). copied s pl keys (i + 1) (length q)) two ∙ ih ∙ ap (λ (l : List (Spot × ℕ)). padded 2304 0 (block l)) same

  pub keys_read : copied s (places_of s) (replicate 2304 0) 0 (places_of s).count ≡ padded 2304 0 (blocks (map (step_of s) (scan s).rest))
  unfolding places_of layout blocks
  keys_read = copied_blocks (layout (scan s)) [] (scan s).rest 0 (refl, refl) (scan_lies s).spots refl (omega (arith, (scan_lies s).most))

  pub copied_start : (p : Places) (keys : List ℕ) (n : ℕ) → (made_of p keys ≡ made_of p keys) × (copied s p keys 0 n ≡ copied s p keys 0 (n - 0))
  copied_start p keys n = let e : n - 0 ≡ n = omega arith in (refl, rw e)

  pub copied_next : {left : List ℕ} (p : Places) (r : Reading) (i n : ℕ) {more : List ℕ} → r ≡ made_of p r.node.keys → left ≡ copied s p r.node.keys i (n - i) → i < n
      → more ≡ copy_at r.node.keys (288 * i) s (get_or p.starts i 0) (get_or p.lens i 0) → (with_keys r more ≡ made_of p more) × (left ≡ copied s p more (i + 1) (n - (i + 1)))
  unfolding copied
  copied_next p r i n {more} m l h q = let e : n - i ≡ suc (n - (i + 1)) = omega arith in (ap (λ (x : Reading). with_keys x more) m, l ∙ rw (e, q))

  copied_all : (p : Places) (keys : List ℕ) (i n : ℕ) → n ≤ i → copied s p keys i (n - i) ≡ keys
  unfolding copied
  copied_all p keys i n h = let e : n - i ≡ 0 = omega arith in rw e

  values_read : (r : List (Spot × ℕ)) → map (λ (x : Spot × ℕ). value_of x.0.value) r ≡ map (λ (x : Step). value_of x.0.val) (map (step_of s) r)
  values_read [] = refl
  values_read (x ∷ r) = rw (values_read r)

  children_read : (r : List (Spot × ℕ)) → map (λ (x : Spot × ℕ). child_of x.1) r ≡ map (λ (x : Step). child_of x.1) (map (step_of s) r)
  children_read [] = refl
  children_read (x ∷ r) = rw (children_read r)

  lens_read : (r : List (Spot × ℕ)) → AllLie s r → map (λ (x : Spot × ℕ). x.0.len) r ≡ map (λ (x : Step). length x.0.key) (map (step_of s) r)
  lens_read [] h = refl
  lens_read (x ∷ r) h = rw (length_part s x.0.start x.0.len h.0.within, lens_read r h.1)

  read_is : {p : Places} {keys : List ℕ} → p ≡ places_of s → keys ≡ padded 2304 0 (blocks (map (step_of s) (scan s).rest)) → made_of p keys ≡ reading_of s
  unfolding places_of layout reading_of node_of
  read_is e k =
      let l = length-map (scan s).rest (step_of s) in
      let lens = lens_read (scan s).rest (scan_lies s).spots in
      rw (e, k, values_read (scan s).rest, children_read (scan s).rest, lens, l)

  pub read_done : (p : Places) (keys : List ℕ) (i : ℕ) → p ≡ places_of s → copied s p (replicate 2304 0) 0 p.count ≡ copied s p keys i (p.count - i) → p.count ≤ i → made_of p keys ≡ reading_of s
  read_done p keys i e l h = read_is e (sym (copied_all p keys i p.count h) ∙ sym l ∙ rw e keys_read)

-- ---- the part of a key

module _ (s : List ℕ) {p : Places} (e : p ≡ places_of s) where
  pub count_few : p.count ≤ 8
  count_few = rw e (places_few s)

  pub ends_within : (i : ℕ) → get_or p.starts i 0 + get_or p.lens i 0 ≤ length s
  ends_within i = rw (e, starts_at s i, lens_at s i) (key_within s i)

  pub key_part : (i : ℕ) {to : ℕ} → to ≡ get_or p.starts i 0 + get_or p.lens i 0
      → take (to - get_or p.starts i 0) (drop (get_or p.starts i 0) s) ≡ part s (key_place s i).start (key_place s i).len
  unfolding part
  key_part i q =
      let n : get_or p.starts i 0 + get_or p.lens i 0 - get_or p.starts i 0 ≡ get_or p.lens i 0 = omega arith in
      rw (q, n, e, starts_at s i, lens_at s i)

  pub no_key : (i : ℕ) → p.count ≤ i → take (0 - 0) (drop 0 s) ≡ part s (key_place s i).start (key_place s i).len
  unfolding part
  no_key i h = rw (key_past s i (rw e at h))
