-- The laws of the store: what each of its functions reads and leaves, on any bytes and on a based store. Above these laws no byte
-- occurs. Assumes nothing.
use mathlib.Core.Path.{◌≡◌, refl, sym, ap, ◌∙◌}
use mathlib.Core.List.{List, [], ◌∷◌, ◌++◌}
use mathlib.Core.Bool.{true, ◌&&◌}
use mathlib.Core.Option.{some}
use Prim.Native.Nat.{ℕ, ◌+◌, ◌*◌, ◌-◌, ◌^◌, ◌≤◌, ◌<◌}
use lib.ListN.{length}
use lib.Dec.{leb}
use native.Mathlib.Omega.{arith}
use borrow.Author.Tests.{le-leb, leb-true}
use Rattle.word.specs.Part.{part, over}
use Rattle.word.specs.Num.{le, un, zeros}
use Rattle.word.specs.At.{read_at, write_at}
use Rattle.word.proofs.PartLaws.{length_part, length_over, over_in, over_nest, part_seam, over_seam, cover}
use Rattle.word.proofs.NumLaws.{length_le, un_le, length_zeros, zeros_append}
use Rattle.word.proofs.AtLaws.{read_at_in, read_at_same, write_at_in, length_write_at}
use Rattle.tree.specs.Tree.{Node}
use Rattle.tree.specs.Free.{first_free}
use Rattle.tree.proofs.Cases.{by_bool, by_cond}
use Rattle.node.specs.Chain.{Step, Writable}
use Rattle.codec.specs.Codec.{encode}
use Rattle.codec.proofs.Theorems.{standard_length, standard_most}
use Rattle.codec.proofs.StrictLaws.{strict_encode}
use Rattle.slots.specs.Limits.{header_size, slot_size, least_node, most_node}
use Rattle.slots.specs.Layout.{header, used, idle, head_of, start, slot_at, root_of, depth_of, count_of, first_of}
use Rattle.slots.specs.Mirror.{is_slot, length_at, node_bytes, holds_node, read_node, write_node, Took, take_slot, free_slot, set_root}
use Rattle.slots.specs.Stands.{InSlot, Based}
use Rattle.slots.proofs.PlaceLaws.{Wrote, Headed, wrote, slot_part, length_used, length_idle}
use Rattle.slots.proofs.HeaderLaws.{root_is, depth_is, count_is, first_is, put_root, put_depth, put_first, count_kept, and_both}

-- ---- slots of any bytes

pub record SlotOf (s : List ℕ) (x : ℕ) : Type 0 where
  pub least : 1 ≤ x
  pub most : x ≤ count_of s
  pub within : header_size + slot_size * x ≤ length s

pub slot_of_lem : (s : List ℕ) (x : ℕ) → is_slot s x ≡ true → SlotOf s x
unfolding is_slot
slot_of_lem s x e =
    let a = and_both (leb 1 x) (leb x (count_of s) && leb (header_size + slot_size * x) (length s)) e in
    let b = and_both (leb x (count_of s)) (leb (header_size + slot_size * x) (length s)) a.1 in
    record { least = leb-true 1 x a.0; most = leb-true x (count_of s) b.0; within = leb-true (header_size + slot_size * x) (length s) b.1 }

pub is_slot_lem : (s : List ℕ) (x : ℕ) → SlotOf s x → is_slot s x ≡ true
unfolding is_slot
is_slot_lem s x h = rw (le-leb 1 x h.least, le-leb x (count_of s) h.most, le-leb (header_size + slot_size * x) (length s) h.within)

-- a number in a slot
slot_number : (s : List ℕ) (x k m v : ℕ) → SlotOf s x → k + m ≤ slot_size → part (slot_at s x) k m ≡ le m v → v < 256 ^ m → read_at m s (start x + k) ≡ v
slot_number s x k m v o h e small =
    let lo = o.least in
    let w = o.within in
    read_at_in m s (start x + k) (omega arith) ∙ ap un (slot_part s x k m lo h ∙ e) ∙ un_le m v small

-- ---- the same header, length and slot read the same

module _ (s t : List ℕ) (head : head_of t ≡ head_of s) (size : length t ≡ length s) where
  pub is_slot_kept : (x : ℕ) → is_slot t x ≡ is_slot s x
  unfolding is_slot
  is_slot_kept x = rw (count_kept s t head size, size)

  module _ (x : ℕ) (slot : slot_at t x ≡ slot_at s x) where
    part_kept : (k m : ℕ) → 1 ≤ x → k + m ≤ slot_size → part t (start x + k) m ≡ part s (start x + k) m
    part_kept k m lo h = slot_part t x k m lo h ∙ ap (λ (u : List ℕ). part u k m) slot ∙ sym (slot_part s x k m lo h)

    length_kept : 1 ≤ x → length_at t x ≡ length_at s x
    unfolding length_at
    length_kept lo = let e : start x + 0 ≡ start x = omega arith in read_at_same 4 t s (start x) size (ap (λ (i : ℕ). part t i 4) (sym e) ∙ part_kept 0 4 lo (omega arith) ∙ ap (λ (i : ℕ). part s i 4) e)

    bytes_kept : 1 ≤ x → length_at s x ≤ most_node → node_bytes t x ≡ node_bytes s x
    unfolding node_bytes
    bytes_kept lo h = rw (length_kept lo) (part_kept 4 (length_at s x) lo (omega arith))

    pub read_kept : read_node t x ≡ read_node s x
    unfolding read_node holds_node
    read_kept =
        by_bool (is_slot s x)
        (λ is.
        let lo = (slot_of_lem s x is).least in
        let l : ℕ = length_at s x in
        rw (is_slot_kept x, is, length_kept lo) (by_bool (leb least_node l && leb l most_node)
        (λ e. rw (e, bytes_kept lo (leb-true l most_node (and_both (leb least_node l) (leb l most_node) e).1)))
        (λ e. rw e)))
        (λ no. rw (is_slot_kept x, no))

-- ---- a node in a slot

used_length : (c : ℕ) (r : List Step) → part (used c r) 0 4 ≡ le 4 (length (encode c r))
unfolding used
used_length c r = part_seam [] (le 4 (length (encode c r))) (encode c r ++ zeros (2556 - length (encode c r))) 0 4 refl (length_le 4 (length (encode c r)))

used_node : (c : ℕ) (r : List Step) → part (used c r) 4 (length (encode c r)) ≡ encode c r
unfolding used
used_node c r = part_seam (le 4 (length (encode c r))) (encode c r) (zeros (2556 - length (encode c r))) 4 (length (encode c r)) (length_le 4 (length (encode c r))) refl

-- three writes are one
covers : (s : List ℕ) (i : ℕ) (x y z : List ℕ) → i + slot_size ≤ length s → length x ≡ 4 → length x + (length y + length z) ≡ slot_size
    → over (over (over s (i + 4) y) i x) ((i + 4) + length y) z ≡ over s i (x ++ (y ++ z))
covers s i x y z h w k =
    let p : List ℕ = part s i slot_size in
    let lp = length_part s i slot_size h in
    let l1 = length_over p 4 y (omega arith) in
    let l2 = length_over (over p 4 y) 0 x (omega arith) in
    let a0 : i + 0 ≡ i = omega arith in
    let a1 : (i + 4) + length y ≡ i + (4 + length y) = omega arith in
    let e1 = over_in s i 4 slot_size y h (omega arith) in
    let e2 : over (over s i (over p 4 y)) i x ≡ over s i (over (over p 4 y) 0 x) = rw a0 at (over_nest s i 0 (over p 4 y) x (omega arith) (omega arith)) in
    rw (e1, e2, a1, over_nest s i (4 + length y) (over (over p 4 y) 0 x) z (omega arith) (omega arith), cover p x y z 4 w (omega arith))

module _ (s : List ℕ) (m : Node ℕ ℕ) (is : is_slot s m.slot ≡ true) where
  module _ (h : InSlot s m) where
    length_at_lem : length_at s m.slot ≡ length (encode m.first m.rest)
    unfolding length_at
    length_at_lem =
        let most = standard_most m.first m.rest h.fine in
        let e : start m.slot ≡ start m.slot + 0 = omega arith in
        ap (read_at 4 s) e
        ∙ slot_number s m.slot 0 4 (length (encode m.first m.rest)) (slot_of_lem s m.slot is) (omega arith) (rw h.bytes (used_length m.first m.rest)) (omega arith)

    -- the bytes that the slot says are the node's
    pub read_bytes : node_bytes s m.slot ≡ encode m.first m.rest
    unfolding node_bytes
    read_bytes =
        let most = standard_most m.first m.rest h.fine in
        let o = slot_of_lem s m.slot is in
        rw length_at_lem (slot_part s m.slot 4 (length (encode m.first m.rest)) o.least (omega arith) ∙ rw h.bytes (used_node m.first m.rest))

    -- reading the slot gives the node
    pub read_back : read_node s m.slot ≡ some m
    unfolding read_node holds_node
    read_back =
        let l : ℕ = length (encode m.first m.rest) in
        let most = standard_most m.first m.rest h.fine in
        let least = standard_length m.first m.rest in
        rw (is, length_at_lem, le-leb 8 l (omega arith), le-leb l 2480 most, read_bytes, strict_encode m.first m.rest h.fine)

  module _ (f : Writable m.first m.rest) where
    write_is : write_node s m ≡ over s (start m.slot) (used m.first m.rest)
    unfolding write_node used
    write_is =
        let b : List ℕ = encode m.first m.rest in
        let i : ℕ = start m.slot in
        let o = slot_of_lem s m.slot is in
        let lo = o.least in
        let w = o.within in
        let most = standard_most m.first m.rest f in
        let l = length_over s (i + 4) b (omega arith) in
        rw (is, write_at_in 4 (over s (i + 4) b) i (length b) (omega arith))
        (covers s i (le 4 (length b)) b (zeros (2556 - length b)) (omega arith) (length_le 4 (length b)) (simp (length_le, length_zeros) (omega arith)))

    pub write_wrote : Wrote s (write_node s m) m.slot (used m.first m.rest) (head_of s)
    write_wrote =
        let o = slot_of_lem s m.slot is in
        rw write_is (wrote s m.slot (used m.first m.rest) o.least o.within (length_used m.first m.rest f))

module _ (s : List ℕ) (m : Node ℕ ℕ) (is : is_slot s m.slot ≡ true) (f : Writable m.first m.rest) where
  -- written, then read
  pub read_written_lem : read_node (write_node s m) m.slot ≡ some m
  read_written_lem =
      let w = write_wrote s m is f in
      read_back (write_node s m) m (is_slot_kept s (write_node s m) w.head w.size m.slot ∙ is) (record { fine = f; bytes = w.here })

  -- written, then another slot read
  pub read_other : (y : ℕ) → (y ≡ m.slot → ⊥) → read_node (write_node s m) y ≡ read_node s y
  read_other y ne = let w = write_wrote s m is f in read_kept s (write_node s m) w.head w.size y (w.other y ne)

-- ---- a free slot

idle_next : (x : ℕ) → part (idle x) 4 4 ≡ le 4 x
unfolding idle
idle_next x = part_seam (zeros 4) (le 4 x) (zeros 2552) 4 4 (length_zeros 4) (length_le 4 x)

-- a free slot's next
pub next_is_lem : (s : List ℕ) (x y : ℕ) → is_slot s x ≡ true → slot_at s x ≡ idle y → y < 2 ^ 32 → read_at 4 s (start x + 4) ≡ y
next_is_lem s x y is e h = slot_number s x 4 4 y (slot_of_lem s x is) (omega arith) (rw e (idle_next y)) h

-- free slots that are the same name the same next
pub idle_same : (x y : ℕ) → x < 2 ^ 32 → y < 2 ^ 32 → idle x ≡ idle y → x ≡ y
idle_same x y p q e = sym (un_le 4 x p) ∙ ap un (sym (idle_next x) ∙ ap (λ (b : List ℕ). part b 4 4) e ∙ idle_next y) ∙ un_le 4 y q

blank : (y : ℕ) → over (zeros slot_size) 4 (le 4 y) ≡ idle y
unfolding idle
blank y =
    let e : zeros 4 ++ (zeros 4 ++ zeros 2552) ≡ zeros slot_size = rw (zeros_append 4 2552, zeros_append 4 2556) in
    rw (← e) (over_seam (zeros 4) (zeros 4) (le 4 y) (zeros 2552) 4 (length_zeros 4) (length_zeros 4 ∙ sym (length_le 4 y)))

free_is : (s : List ℕ) (x : ℕ) → is_slot s x ≡ true → free_slot s x ≡ write_at 4 (over s (start x) (idle (first_of s))) 16 x
unfolding free_slot
free_is s x is =
    let o = slot_of_lem s x is in
    let lo = o.least in
    let w = o.within in
    let lz = length_zeros slot_size in
    let y : ℕ = first_of s in
    let l = length_over s (start x) (zeros slot_size) (omega arith) in
    let ly = length_le 4 y in
    rw (is, write_at_in 4 (over s (start x) (zeros slot_size)) (start x + 4) y (omega arith), over_nest s (start x) 4 (zeros slot_size) (le 4 y) (omega arith) (omega arith), blank y)

take_is : (s : List ℕ) (x y : ℕ) → first_of s ≡ x → is_slot s x ≡ true → read_at 4 s (start x + 4) ≡ y → take_slot s ≡ record { slot = x; store = write_at 4 s 16 y }
unfolding take_slot
take_is s x y p q r = rw (p, q, r)

-- ---- lengths are kept, on any bytes

pub length_write : (s : List ℕ) (m : Node ℕ ℕ) → Writable m.first m.rest → length (write_node s m) ≡ length s
length_write s m f = by_bool (is_slot s m.slot) (λ is. (write_wrote s m is f).size) (λ no. unfold write_node in rw no)

pub length_take : (s : List ℕ) → length (take_slot s).store ≡ length s
unfolding take_slot
length_take s = by_cond (λ (t : Took). length t.store ≡ length s) (is_slot s (first_of s)) (λ is. length_write_at 4 s 16 (read_at 4 s (start (first_of s) + 4))) (λ no. refl)

pub length_free : (s : List ℕ) (x : ℕ) → length (free_slot s x) ≡ length s
length_free s x =
    by_bool (is_slot s x)
    (λ is.
    let o = slot_of_lem s x is in
    rw (free_is s x is) (length_write_at 4 (over s (start x) (idle (first_of s))) 16 x ∙ (wrote s x (idle (first_of s)) o.least o.within (length_idle (first_of s))).size))
    (λ no. unfold free_slot in rw no)

pub length_root : (s : List ℕ) (x d : ℕ) → length (set_root s x d) ≡ length s
unfolding set_root
length_root s x d = length_write_at 4 (write_at 8 s 0 x) 8 d ∙ length_write_at 8 s 0 x

-- ---- a based store

module _ (n root depth : ℕ) (s fs : List ℕ) (b : Based n root depth s fs) where
  pub based_long : header_size ≤ length s
  based_long = let l = b.size in omega arith

  pub based_root : root < 2 ^ 64 → root_of s ≡ root
  based_root h = root_is s root depth n (first_free fs) based_long b.head h

  pub based_depth : depth < 2 ^ 32 → depth_of s ≡ depth
  based_depth h = depth_is s root depth n (first_free fs) based_long b.head h

  pub based_count : n < 2 ^ 32 → count_of s ≡ n
  based_count h = count_is s root depth n (first_free fs) based_long b.head h

  pub based_first : first_free fs < 2 ^ 32 → first_of s ≡ first_free fs
  based_first h = first_is s root depth n (first_free fs) based_long b.head h

  module _ (small : n < 2 ^ 32) where
    pub based_slot : (x : ℕ) → 1 ≤ x → x ≤ n → is_slot s x ≡ true
    based_slot x lo hi = let l = b.size in is_slot_lem s x (record { least = lo; most = rw (based_count small) hi; within = omega arith })

    -- "a freed slot becomes the first"
    pub free_wrote : (x : ℕ) → 1 ≤ x → x ≤ n → first_free fs ≤ n → Wrote s (free_slot s x) x (idle (first_free fs)) (header root depth n x)
    free_wrote x lo hi nx =
        let f : ℕ = first_free fs in
        let u : List ℕ = over s (start x) (idle f) in
        let l = b.size in
        let w = wrote s x (idle f) lo (omega arith) (length_idle f) in
        let h = put_first u root depth n f (omega (arith, w.size)) (w.head ∙ b.head) x in
        rw (free_is s x (based_slot x lo hi), based_first (omega arith)) (record {
          here = h.slots x ∙ w.here;
          other = λ y e. h.slots y ∙ w.other y e;
          head = h.head;
          size = h.size ∙ w.size;
        })

  pub root_headed : (x d : ℕ) → Headed s (set_root s x d) (header x d n (first_free fs))
  unfolding set_root
  root_headed x d =
      let h = put_root s root depth n (first_free fs) based_long b.head x in
      let l = based_long in
      let g = put_depth (write_at 8 s 0 x) x depth n (first_free fs) (omega (arith, h.size)) h.head d in
      record { slots = λ y. g.slots y ∙ h.slots y; head = g.head; size = g.size ∙ h.size }

-- "Taking a slot takes the first free one"
pub take_headed : (n root depth : ℕ) (s : List ℕ) (x : ℕ) (fs : List ℕ) → Based n root depth s (x ∷ fs) → n < 2 ^ 32 → 1 ≤ x → x ≤ n → first_free fs ≤ n
    → ((take_slot s).slot ≡ x) × Headed s (take_slot s).store (header root depth n (first_free fs))
take_headed n root depth s x fs b small lo hi nx =
    let is = based_slot n root depth s (x ∷ fs) b small x lo hi in
    let e = take_is s x (first_free fs) (based_first n root depth s (x ∷ fs) b (omega arith)) is (next_is_lem s x (first_free fs) is b.links.0 (omega arith)) in
    rw e (refl, put_first s root depth n x (based_long n root depth s (x ∷ fs) b) b.head (first_free fs))
