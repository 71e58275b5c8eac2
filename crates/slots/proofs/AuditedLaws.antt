-- What is the same for a store with a root and without: its header, its slots, its entries. And what follows for an audited
-- store. Assumes nothing.
use mathlib.Core.Path.{◌≡◌, refl, sym, ap, ◌∙◌}
use mathlib.Core.List.{List, []}
use mathlib.Core.Bool.{true}
use mathlib.Core.Option.{some}
use Prim.Native.Nat.{ℕ, ◌+◌, ◌^◌, ◌≤◌, ◌<◌}
use native.Mathlib.Omega.{arith}
use Rattle.tree.specs.Map.{Sep, Rising}
use Rattle.tree.specs.Tree.{slots, read, none_of}
use Rattle.tree.specs.Free.{occurs, in_store, first_free}
use Rattle.tree.specs.State.{used_slots, Store, bare, rooted, store_entries, GoodStore, with_root}
use Rattle.tree.proofs.StateLaws.{rising_store, with_root_good, with_root_entries}
use Rattle.tree.proofs.Theorems.{depth_at_most_7}
use Rattle.slots.specs.Limits.{most_slots, most_depth}
use Rattle.slots.specs.Layout.{root_of, depth_of, count_of, first_of, is_store}
use Rattle.slots.specs.Stands.{Based, Stands, Audited}
use Rattle.slots.specs.Entries.{entries_of}
use Rattle.slots.proofs.HeaderLaws.{is_store_lem, zeros_are}
use Rattle.slots.proofs.StoreLaws.{based_long, based_root, based_depth, based_count, based_first}
use Rattle.slots.proofs.Framing.{first_within, first_free_within_lem}
use Rattle.slots.proofs.Building.{entries_are}
use Rattle.slots.proofs.FormatLaws.{first_root, first_root_stands_lem}
use Rattle.slots.proofs.Unique.{one_state, one_store}

-- ---- a store, with a root or without

-- the root's slot, 0 for none
abbrev pub store_root : Store ℕ → ℕ
store_root (bare fs) = 0
store_root (rooted t) = t.root.slot

abbrev pub store_depth : Store ℕ → ℕ
store_depth (bare fs) = 0
store_depth (rooted t) = t.depth

-- the slots that are reached, and the free ones
abbrev pub store_used : Store ℕ → List ℕ
store_used (bare fs) = []
store_used (rooted t) = used_slots t

abbrev pub store_free : Store ℕ → List ℕ
store_free (bare fs) = fs
store_free (rooted t) = t.free

pub stands_based : (n : ℕ) (s : List ℕ) (st : Store ℕ) → Stands n s st → Based n (store_root st) (store_depth st) s (store_free st)
stands_based n s (bare fs) h = h
stands_based n s (rooted t) h = h.base

pub good_once : (n : ℕ) (st : Store ℕ) → GoodStore n st → (x : ℕ) → occurs x (store_used st) + occurs x (store_free st) ≡ in_store n x
good_once n (bare fs) g x = omega (arith, g x)
good_once n (rooted t) g x = g.once x

pub good_root : (n : ℕ) (st : Store ℕ) → GoodStore n st → store_root st ≤ n
good_root n (bare fs) g = omega arith
good_root n (rooted t) g = (first_within n t.root.slot (read none_of (slots ℕ t.depth) t.root) (omega (arith, g.once t.root.slot))).1

pub good_first : (n : ℕ) (st : Store ℕ) → GoodStore n st → first_free (store_free st) ≤ n
good_first n st g = first_free_within_lem n (store_free st) (λ x. omega (arith, good_once n st g x))

-- without a root nothing is reached
pub good_bare : (n : ℕ) (st : Store ℕ) → GoodStore n st → store_root st ≡ 0 → (store_depth st ≡ 0) × (store_used st ≡ [])
good_bare n (bare fs) g e = (refl, refl)
good_bare n (rooted t) g e = absurd (omega (arith, (first_within n t.root.slot (read none_of (slots ℕ t.depth) t.root) (omega (arith, g.once t.root.slot))).0))

-- "depth is at most 7"
pub good_depth : (n : ℕ) (st : Store ℕ) → n ≤ most_slots → GoodStore n st → store_depth st ≤ most_depth
good_depth n (bare fs) lim g = omega arith
good_depth n (rooted t) lim g = depth_at_most_7 n t g lim

-- ---- an audited store

module _ (s : List ℕ) (h : Audited s) where
  abbrev base : Based h.count (store_root h.store) (store_depth h.store) s (store_free h.store)
  base = stands_based h.count s h.store h.stands

  small : h.count < 2 ^ 32
  small = let m = h.most in omega arith

  pub audited_count : count_of s ≡ h.count
  audited_count = based_count h.count (store_root h.store) (store_depth h.store) s (store_free h.store) base small

  pub audited_root : root_of s ≡ store_root h.store
  audited_root =
      let m = h.most in
      based_root h.count (store_root h.store) (store_depth h.store) s (store_free h.store) base (omega (arith, good_root h.count h.store h.good))

  pub audited_depth : depth_of s ≡ store_depth h.store
  audited_depth =
      based_depth h.count (store_root h.store) (store_depth h.store) s (store_free h.store) base (omega (arith, good_depth h.count h.store h.most h.good))

  pub audited_first : first_of s ≡ first_free (store_free h.store)
  audited_first =
      let m = h.most in
      based_first h.count (store_root h.store) (store_depth h.store) s (store_free h.store) base (omega (arith, good_first h.count h.store h.good))

  pub root_in_lem : root_of s ≤ count_of s
  root_in_lem = rw (audited_root, audited_count) (good_root h.count h.store h.good)

  pub first_in_lem : first_of s ≤ count_of s
  first_in_lem = rw (audited_first, audited_count) (good_first h.count h.store h.good)

  -- no refusal 1
  pub audited_store : is_store s ≡ true
  audited_store =
      let l = based_long h.count (store_root h.store) (store_depth h.store) s (store_free h.store) base in
      is_store_lem s (record {
        least = rw audited_count h.least;
        most = rw audited_count h.most;
        size = rw audited_count base.size;
        zero = zeros_are s (store_root h.store) (store_depth h.store) h.count (first_free (store_free h.store)) l base.head;
      })

  pub audited_shallow : depth_of s ≤ most_depth
  audited_shallow = rw audited_depth (good_depth h.count h.store h.most h.good)

  pub audited_entries : entries_of s ≡ some (store_entries h.store)
  audited_entries = entries_are h.count s h.store small h.stands h.good

  pub audited_rising : Rising (store_entries h.store)
  audited_rising = rising_store h.count h.store h.good

  pub audited_keys : (es : List (Sep ℕ)) → entries_of s ≡ some es → Rising es
  audited_keys es e = let w : store_entries h.store ≡ es = cc audited_entries in rw (← w) audited_rising

-- the count and the state of an audited store are the only ones
pub audited_one : (s : List ℕ) (h k : Audited s) → (h.count ≡ k.count) × (h.store ≡ k.store)
audited_one s h k =
    let e : h.count ≡ k.count = sym (audited_count s h) ∙ audited_count s k in
    (e, one_state h.count (small s h) s h.store k.store h.stands (rw e k.stands) h.good (rw e k.good))

-- and they tell its bytes
pub audited_bytes : (s t : List ℕ) (h : Audited s) (k : Audited t) → h.count ≡ k.count → h.store ≡ k.store → s ≡ t
audited_bytes s t h k e f = one_store h.count s t h.store h.good h.stands (rw (e, f) k.stands)

-- ---- with its first root

module _ (s : List ℕ) (h : Audited s) where
  rooted_stands : Stands h.count (first_root s) (rooted (with_root h.store))
  rooted_stands = first_root_stands_lem h.count (small s h) s h.store h.least h.stands h.good

  rooted_good : GoodStore h.count (rooted (with_root h.store))
  rooted_good = with_root_good h.count h.store h.least h.good

  pub first_root_audited_lem : Audited (first_root s)
  first_root_audited_lem = record { count = h.count; least = h.least; most = h.most; store = rooted (with_root h.store); stands = rooted_stands; good = rooted_good }

  pub first_root_entries_lem : entries_of (first_root s) ≡ entries_of s
  first_root_entries_lem =
      entries_are h.count (first_root s) (rooted (with_root h.store)) (small s h) rooted_stands rooted_good
      ∙ ap some (with_root_entries h.store) ∙ sym (entries_are h.count s h.store (small s h) h.stands h.good)
