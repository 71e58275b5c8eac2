-- A formatted store stands for the formatted state: no root, the chain 1, 2, ... And the empty root that a batch first writes.
-- Assumes nothing.
use mathlib.Core.Path.{◌≡◌, refl, sym, ap, subst, ◌∙◌}
use mathlib.Core.List.{List, [], ◌∷◌, ◌++◌, append_assoc}
use mathlib.Core.Bool.{cond}
use Prim.Native.Nat.{ℕ, zero, suc, ◌+◌, ◌*◌, ◌^◌, ◌≤◌, ◌<◌}
use lib.ListN.{length, length-append}
use lib.Seq.{take_at}
use lib.Dec.{eqb}
use native.Mathlib.Omega.{arith}
use borrow.Author.Tests.{le-leb, ne_eqb}
use Rattle.word.specs.Part.{part}
use Rattle.word.proofs.PartLaws.{part_seam}
use Rattle.tree.specs.Tree.{Tree}
use Rattle.tree.specs.Free.{occurs, in_store, first_free, slots_from}
use Rattle.tree.specs.State.{Store, bare, rooted, GoodStore, formatted, with_root}
use Rattle.tree.proofs.StateLaws.{formatted_good}
use Rattle.slots.specs.Limits.{header_size, slot_size, most_slots}
use Rattle.slots.specs.Layout.{header, idle, head_of, slot_at, root_of}
use Rattle.slots.specs.Mirror.{write_node, Took, take_slot, set_root}
use Rattle.slots.specs.Stands.{label, map_node, Links, Based, StandsTree, Stands, Audited}
use Rattle.slots.specs.Format.{next_slot, blanks, fresh}
use Rattle.slots.proofs.PlaceLaws.{length_idle}
use Rattle.slots.proofs.HeaderLaws.{length_header}
use Rattle.slots.proofs.StoreLaws.{based_root}
use Rattle.slots.proofs.Framing.{holds_frame, put_tree, take_slot_lem, set_root_lem}
use Rattle.slots.proofs.Building.{root_read}

-- ---- formatted

length_blanks : (i k : ℕ) → length (blanks i k) ≡ slot_size * k
length_blanks i zero = omega arith
length_blanks i (suc k) = length-append (idle (next_slot i k)) (blanks (suc i) k) ∙ rw (length_idle (next_slot i k), length_blanks (suc i) k) (omega arith)

pub length_fresh : (n : ℕ) → length (fresh n) ≡ header_size + slot_size * n
unfolding fresh
length_fresh n = length-append (header 0 0 n 1) (blanks 1 n) ∙ rw (length_header 0 0 n 1, length_blanks 1 n)

next_first : (i k : ℕ) → next_slot i k ≡ first_free (slots_from (suc i) k)
next_first i zero = refl
next_first i (suc k) = refl

-- the slots behind i stand behind p
blanks_link : (s p : List ℕ) (i k : ℕ) → s ≡ p ++ blanks (suc i) k → length p ≡ header_size + slot_size * i → Links s (slots_from (suc i) k)
unfolding slot_at
blanks_link s p i zero e h = tt
blanks_link s p i (suc k) e h =
    let d : List ℕ = idle (next_slot (suc i) k) in
    let q : List ℕ = blanks (suc (suc i)) k in
    let l : length d ≡ slot_size = length_idle (next_slot (suc i) k) in (
      ap (λ (t : List ℕ). part t (header_size + slot_size * i) slot_size) e ∙ part_seam p d q (header_size + slot_size * i) slot_size h l ∙ ap idle (next_first (suc i) k),
      blanks_link s (p ++ d) (suc i) k (e ∙ sym (append_assoc p d q)) (length-append p d ∙ rw (h, l) (omega arith)),
    )

first_slot : (n : ℕ) → 1 ≤ n → first_free (slots_from 1 n) ≡ 1
first_slot zero h = absurd (omega arith)
first_slot (suc n) h = refl

pub fresh_stands : (n : ℕ) → 1 ≤ n → Stands n (fresh n) (formatted n)
unfolding fresh head_of part
fresh_stands n lo = record {
  size = length_fresh n;
  head = take_at (header 0 0 n 1) (blanks 1 n) header_size (length_header 0 0 n 1) ∙ ap (header 0 0 n) (sym (first_slot n lo));
  links = blanks_link (header 0 0 n 1 ++ blanks 1 n) (header 0 0 n 1) 0 n refl (length_header 0 0 n 1 ∙ omega arith);
}

pub fresh_audited : (n : ℕ) → 1 ≤ n → n ≤ most_slots → Audited (fresh n)
fresh_audited n lo hi = record { count = n; least = lo; most = hi; store = formatted n; stands = fresh_stands n lo; good = formatted_good ℕ n }

-- ---- the first root

-- an empty leaf in the slot taken, the root at depth 0; nothing where there is no slot
abbrev pub root_in : Took → List ℕ
root_in t = cond (eqb t.slot 0) t.store (set_root (write_node t.store (record { slot = t.slot; first = 0; rest = [] })) t.slot 0)

-- "With no root, an accepted batch, even an empty one, first writes an empty root."
unfoldable pub first_root : List ℕ → List ℕ
first_root s = cond (eqb (root_of s) 0) (root_in (take_slot s)) s

module _ (n : ℕ) (small : n < 2 ^ 32) (s : List ℕ) where
  root_written : (x : ℕ) (fs : List ℕ) → Based n 0 0 s (x ∷ fs) → ((y : ℕ) → occurs y (x ∷ fs) ≡ in_store n y) → Stands n (first_root s) (rooted (with_root (bare (x ∷ fs))))
  unfolding first_root
  root_written x fs b all =
      let leaf : Tree ℕ 0 = record { slot = x; first = tt; rest = [] } in
      let k = take_slot_lem n 0 0 small s x fs b (λ y. omega (arith, all y)) in
      let s1 : List ℕ = (take_slot s).store in
      let s2 : List ℕ = write_node s1 (map_node (label 0) leaf) in
      let p = put_tree n 0 0 small s1 fs 0 leaf k.base
      (record { first = tt; rest = tt; fine = record { first = omega arith; rest = tt; most = omega arith } }) (λ y. omega (arith, all y)) in
      let w = set_root_lem n 0 0 small s2 fs x 0 p.base in
      let is : take_slot s ≡ record { slot = x; store = s1 } = λ j. record { slot = k.slot j; store = s1 } in
      rw (based_root n 0 0 s (x ∷ fs) b (omega arith))
      (subst (λ (t : Took). StandsTree n (root_in t) (with_root (bare (x ∷ fs)))) (sym is)
      (rw (ne_eqb x 0 (omega (arith, k.least))) (record { base = w.base; tree = holds_frame s2 (set_root s2 x 0) 1 leaf (λ y q. w.slots y) p.tree })))

  -- whatever the store was, with a root or without
  pub first_root_stands_lem : (st : Store ℕ) → 1 ≤ n → Stands n s st → GoodStore n st → Stands n (first_root s) (rooted (with_root st))
  unfolding first_root
  first_root_stands_lem (bare []) lo h g = let e = rw (le-leb 1 n lo) at (g 1) in absurd (omega arith)
  first_root_stands_lem (bare (x ∷ fs)) lo h g = root_written x fs h g
  first_root_stands_lem (rooted t) lo h g = let r = root_read n s t small h g in rw (r.root, ne_eqb t.root.slot 0 (omega (arith, r.least))) h
