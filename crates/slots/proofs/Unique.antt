-- A good state of n slots has one store, byte by byte: the layout leaves no byte open. And a store stands for one good state at
-- most, its free chain included. Assumes nothing.
use mathlib.Core.Path.{◌≡◌, refl, sym, ap, subst, ◌∙◌}
use mathlib.Core.List.{List, [], ◌∷◌, ◌++◌}
use mathlib.Core.Option.{some}
use Prim.Native.Nat.{ℕ, zero, suc, ◌+◌, ◌*◌, ◌^◌, ◌≤◌, ◌<◌}
use lib.ListN.{length, take, drop, length-drop, take-append-drop}
use lib.Seq.{drop-drop}
use native.Mathlib.Omega.{arith}
use borrow.Author.Tests.{le-leb}
use Rattle.word.specs.Part.{part}
use Rattle.tree.specs.Map.{Sep}
use Rattle.tree.specs.Tree.{Kid, Tree, slots}
use Rattle.tree.specs.Free.{occurs, in_store, first_free}
use Rattle.tree.specs.State.{State, AllRight, used_slots, Good, Store, bare, rooted, GoodStore}
use Rattle.tree.proofs.Slots.{occurs_append}
use Rattle.slots.specs.Limits.{header_size, slot_size}
use Rattle.slots.specs.Layout.{idle, head_of, slot_at}
use Rattle.slots.specs.Stands.{Holds, Links, Based, StandsTree, Stands}
use Rattle.slots.specs.Entries.{build}
use Rattle.slots.proofs.StoreLaws.{idle_same, based_root, based_first}
use Rattle.slots.proofs.Framing.{Within, first_within, first_free_within_lem, Each, each_none, each_cons, each_append, each_node}
use Rattle.slots.proofs.Building.{holds_build, root_read}

-- ---- a store is its header and its slots

blocks_lem : (n : ℕ) (u v : List ℕ) → length u ≡ slot_size * n → length v ≡ slot_size * n → ((k : ℕ) → k < n → part u (slot_size * k) slot_size ≡ part v (slot_size * k) slot_size) → u ≡ v
unfolding part
blocks_lem zero [] [] p q h = refl
blocks_lem zero [] (y ∷ v) p q h = absurd (omega arith)
blocks_lem zero (x ∷ u) v p q h = absurd (omega arith)
blocks_lem (suc n) u v p q h =
    let ih = blocks_lem n (drop slot_size u) (drop slot_size v) (simp length-drop (omega arith)) (simp length-drop (omega arith))
    (λ k l. let e : slot_size + slot_size * k ≡ slot_size * suc k = omega arith in rw (drop-drop (slot_size * k) slot_size u, drop-drop (slot_size * k) slot_size v, e) (h (suc k) (omega arith))) in
    let f : take slot_size u ≡ take slot_size v = h 0 (omega arith) in
    sym (take-append-drop slot_size u) ∙ rw (f, ih) (take-append-drop slot_size v)

pub same_store : (n : ℕ) (s t : List ℕ) → length s ≡ header_size + slot_size * n → length t ≡ header_size + slot_size * n → head_of s ≡ head_of t
    → ((x : ℕ) → 1 ≤ x → x ≤ n → slot_at s x ≡ slot_at t x) → s ≡ t
unfolding head_of slot_at part
same_store n s t p q h f =
    let e = blocks_lem n (drop header_size s) (drop header_size t) (simp length-drop (omega arith)) (simp length-drop (omega arith))
    (λ k l. rw (drop-drop (slot_size * k) header_size s, drop-drop (slot_size * k) header_size t) (f (suc k) (omega arith) (omega arith))) in
    let g : take header_size s ≡ take header_size t = h in
    sym (take-append-drop header_size s) ∙ rw (g, e) (take-append-drop header_size t)

-- ---- one state, one store

module _ (s t : List ℕ) where
  -- s and t have the same in slot x
  abbrev Agree : ℕ → Type 0
  Agree x = slot_at s x ≡ slot_at t x

  links_agree : (fs : List ℕ) → Links s fs → Links t fs → Each Agree fs
  links_agree [] h g = each_none Agree
  links_agree (y ∷ fs) h g = each_cons Agree y fs (h.0 ∙ sym g.0) (links_agree fs h.1 g.1)

  -- both hold c
  abbrev Both : (d : ℕ) → Kid ℕ d → Type 0
  Both d c = Holds s d c × Holds t d c

  both_rest : (d : ℕ) (r : List (Sep ℕ × Kid ℕ d)) → AllRight (Holds s d) r → AllRight (Holds t d) r → AllRight (Both d) r
  both_rest d [] h g = tt
  both_rest d (x ∷ r) h g = ((h.0, g.0), both_rest d r h.1 g.1)

  holds_agree : (d : ℕ) (c : Kid ℕ d) → Both d c → Each Agree (slots ℕ d c)
  holds_agree zero c b = each_none Agree
  holds_agree (suc d) c b =
      each_node Agree (slots ℕ d) (Both d) (holds_agree d) c (b.0.0.bytes ∙ sym b.1.0.bytes) (b.0.1, b.1.1) (both_rest d c.rest b.0.2 b.1.2)

based_same : (n root depth : ℕ) (s t fs us : List ℕ) → Based n root depth s fs → Based n root depth t fs → ((x : ℕ) → occurs x us ≡ in_store n x) → Each (Agree s t) us → s ≡ t
based_same n root depth s t fs us h k all agree =
    same_store n s t h.size k.size (h.head ∙ sym k.head) (λ x lo hi. agree x (let e = rw (le-leb 1 x lo, le-leb x n hi) at (all x) in omega arith))

-- two stores of n slots that stand for one good state are the same
pub one_store : (n : ℕ) (s t : List ℕ) (st : Store ℕ) → GoodStore n st → Stands n s st → Stands n t st → s ≡ t
one_store n s t (bare fs) g h k = based_same n 0 0 s t fs fs h k g (links_agree s t fs h.links k.links)
one_store n s t (rooted u) g h k =
    based_same n u.root.slot u.depth s t u.free (used_slots u ++ u.free) h.base k.base
    (λ x. occurs_append x (used_slots u) u.free ∙ g.once x)
    (each_append (Agree s t) (used_slots u) u.free (holds_agree s t (suc u.depth) u.root (h.tree, k.tree)) (links_agree s t u.free h.base.links k.base.links))

-- ---- one store, one state

module _ (n : ℕ) (small : n < 2 ^ 32) (s : List ℕ) where
  -- a slot's bytes tell its next, so the first slot tells the chain
  pub one_chain : (fs gs : List ℕ) → Within n fs → Within n gs → first_free fs ≡ first_free gs → Links s fs → Links s gs → fs ≡ gs
  one_chain [] [] a b e h g = refl
  one_chain [] (y ∷ gs) a b e h g = absurd (omega (arith, (first_within n y gs (b y)).0, e))
  one_chain (x ∷ fs) [] a b e h g = absurd (omega (arith, (first_within n x fs (a x)).0, e))
  one_chain (x ∷ fs) (y ∷ gs) a b e h g =
      let p = first_free_within_lem n fs (λ z. omega (arith, a z)) in
      let q = first_free_within_lem n gs (λ z. omega (arith, b z)) in
      let i : idle (first_free fs) ≡ idle (first_free gs) = sym h.0 ∙ ap (slot_at s) e ∙ g.0 in
      let w = one_chain fs gs (λ z. omega (arith, a z)) (λ z. omega (arith, b z)) (idle_same (first_free fs) (first_free gs) (omega arith) (omega arith) i) h.1 g.1 in
      λ j. e j ∷ w j

  -- the header tells the first slot
  free_same : (r d r' d' : ℕ) (fs gs : List ℕ) → Based n r d s fs → Based n r' d' s gs → Within n fs → Within n gs → fs ≡ gs
  free_same r d r' d' fs gs b c v w =
      let p = first_free_within_lem n fs v in
      let q = first_free_within_lem n gs w in
      one_chain fs gs v w (sym (based_first n r d s fs b (omega arith)) ∙ based_first n r' d' s gs c (omega arith)) b.links c.links

  -- and the root and the depth, and they the tree
  tree_same : (d e : ℕ) → d ≡ e → (t : Tree ℕ d) (u : Tree ℕ e) (fs gs : List ℕ) → fs ≡ gs → t.slot ≡ u.slot
      → build (suc d) s t.slot ≡ some t → build (suc e) s u.slot ≡ some u
      → ◌≡◌ {A = State ℕ} (record { depth = d; root = t; free = fs }) (record { depth = e; root = u; free = gs })
  tree_same d e p t u fs gs f l h k =
      subst (λ (i : ℕ). (u : Tree ℕ i) → t.slot ≡ u.slot → build (suc i) s u.slot ≡ some u → ◌≡◌ {A = State ℕ} (record { depth = d; root = t; free = fs }) (record { depth = i; root = u; free = gs })) p
      (λ u l k. let w : t ≡ u = cc (sym h ∙ ap (build (suc d) s) l ∙ k) in λ j. record { depth = d; root = w j; free = f j }) u l k

  within_tree : (t : State ℕ) → Good n t → Within n (used_slots t)
  within_tree t g x = omega (arith, g.once x)

  within_free : (t : State ℕ) → Good n t → Within n t.free
  within_free t g x = omega (arith, g.once x)

  built : (t : State ℕ) → StandsTree n s t → Good n t → build (suc t.depth) s t.root.slot ≡ some t.root
  built t h g = holds_build n t.root.slot t.depth small s t.free h.base (suc t.depth) t.root h.tree (within_tree t g)

  no_root : (fs : List ℕ) (t : State ℕ) → Based n 0 0 s fs → StandsTree n s t → Good n t → ⊥
  no_root fs t b h g = let r = root_read n s t small h g in omega (arith, r.root, r.least, based_root n 0 0 s fs b (omega arith))

  -- two good states that a store stands for are the same
  pub one_state : (a b : Store ℕ) → Stands n s a → Stands n s b → GoodStore n a → GoodStore n b → a ≡ b
  one_state (bare fs) (bare gs) h k p q = ap bare (free_same 0 0 0 0 fs gs h k (λ x. omega (arith, p x)) (λ x. omega (arith, q x)))
  one_state (bare fs) (rooted u) h k p q = absurd (no_root fs u h k q)
  one_state (rooted t) (bare gs) h k p q = absurd (no_root gs t k h p)
  one_state (rooted t) (rooted u) h k p q =
      let r = root_read n s t small h p in
      let v = root_read n s u small k q in
      ap rooted (tree_same t.depth u.depth (sym r.depth ∙ v.depth) t.root u.root t.free u.free
      (free_same t.root.slot t.depth u.root.slot u.depth t.free u.free h.base k.base (within_free t p) (within_free u q))
      (sym r.root ∙ v.root) (built t h p) (built u k q))
