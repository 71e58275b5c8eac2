-- An edit by index is the plug of a zipper: for the node that a zipper makes, the index of its child is how much stands left of
-- it. Assumes nothing.
use mathlib.Core.Path.{◌≡◌, refl, sym, ap, ◌∙◌}
use mathlib.Core.List.{List, [], ◌∷◌, ◌++◌, append_assoc}
use mathlib.Core.Option.{some}
use Prim.Native.Nat.{ℕ, zero, suc, ◌+◌}
use lib.ListN.{length, take, drop}
use lib.Seq.{take_at, drop_at}
use native.Mathlib.Omega.{arith}
use Rattle.tree.specs.Map.{Sep}
use Rattle.tree.specs.Tree.{Node, plug}
use Rattle.tree.proofs.Zipper.{plug_length}
use Rattle.node.specs.Chain.{Step}
use Rattle.slots.specs.Mirror.{write_node}
use Rattle.outcome.specs.Mirror.{plain, inserted_at, set_value_m}
use Rattle.outcome.specs.RemoveMirror.{zip_to, zip_at, replaced_at}

module _ {A C : Type 0} (s : ℕ) where
  -- what stands left of the child, as a chain behind the first child
  pub plug_rest : (l : List (C × Sep A)) (c : C) (r : List (Sep A × C)) → (plug s l c r).rest ≡ (plug s l c []).rest ++ r
  plug_rest [] c r = refl
  plug_rest (x ∷ l) c r = plug_rest l x.0 ((x.1, c) ∷ r) ∙ sym (append_assoc (plug s l x.0 []).rest ((x.1, c) ∷ []) r) ∙ ap (λ (t : List (Sep A × C)). t ++ r) (sym (plug_rest l x.0 ((x.1, c) ∷ [])))

  left_length : (l : List (C × Sep A)) (c : C) → length (plug s l c []).rest ≡ length l
  left_length l c = omega (arith, plug_length s l c [])

  plug_first : (l : List (C × Sep A)) (c : C) (r q : List (Sep A × C)) → ((plug s l c r).slot ≡ (plug s l c q).slot) × ((plug s l c r).first ≡ (plug s l c q).first)
  plug_first [] c r q = (refl, refl)
  plug_first (x ∷ l) c r q = plug_first l x.0 ((x.1, c) ∷ r) ((x.1, c) ∷ q)

  pub plug_take : (l : List (C × Sep A)) (c : C) (r : List (Sep A × C)) → take (length l) (plug s l c r).rest ≡ (plug s l c []).rest
  plug_take l c r = ap (take (length l)) (plug_rest l c r) ∙ take_at (plug s l c []).rest r (length l) (left_length l c)

  pub plug_drop : (l : List (C × Sep A)) (c : C) (r : List (Sep A × C)) → drop (length l) (plug s l c r).rest ≡ r
  plug_drop l c r = ap (drop (length l)) (plug_rest l c r) ∙ drop_at (plug s l c []).rest r (length l) (left_length l c)

  -- the node with q for what stands right of the child
  pub plug_right : (l : List (C × Sep A)) (c : C) (r q : List (Sep A × C))
      → ◌≡◌ {A = Node A C} (record { slot = (plug s l c r).slot; first = (plug s l c r).first; rest = take (length l) (plug s l c r).rest ++ q }) (plug s l c q)
  plug_right l c r q =
      let e : take (length l) (plug s l c r).rest ++ q ≡ (plug s l c q).rest = ap (λ (t : List (Sep A × C)). t ++ q) (plug_take l c r) ∙ sym (plug_rest l c q) in
      let f = plug_first l c r q in
      λ i. record { slot = f.0 i; first = f.1 i; rest = e i }

-- ---- the mirrors' edits

module _ (s : ℕ) (l : List (ℕ × Sep ℕ)) (c : ℕ) where
  -- a separator and the child right of it are put in
  pub inserted_plug : (r : List Step) (y : Sep ℕ) (b : ℕ) → inserted_at (length l) y b (plug s l c r) ≡ plug s l c ((y, b) ∷ r)
  inserted_plug r y b = rw (plug_drop s l c r) (plug_right s l c r ((y, b) ∷ r))

  -- the next separator gets another value
  pub revalued_plug : (v x : ℕ) (t : List ℕ) (y : Step) (r : List Step)
      → set_value_m (length l) v x t (some (plug s l c (y ∷ r))) ≡ record { out = plain; store = write_node t (plug s l c ((record { key = y.0.key; val = v }, y.1) ∷ r)) }
  revalued_plug v x t y r =
      rw (plug_drop s l c (y ∷ r)) (ap (λ (m : Node ℕ ℕ). record { out = plain; store = write_node t m }) (plug_right s l c (y ∷ r) ((record { key = y.0.key; val = v }, y.1) ∷ r)))

  -- another separator takes the place of the next
  pub replaced_plug : (w : Sep ℕ) (y : Step) (r : List Step)
      → let m : Node ℕ ℕ = plug s l c (y ∷ r) in
      ◌≡◌ {A = Node ℕ ℕ} (record { slot = m.slot; first = m.first; rest = replaced_at (length l) w m.rest }) (plug s l c ((w, y.1) ∷ r))
  replaced_plug w y r =
      let m : Node ℕ ℕ = plug s l c (y ∷ r) in
      ap (λ (t : List Step). record { slot = m.slot; first = m.first; rest = t }) (by_parts (length l) m.rest)
      ∙ rw (plug_drop s l c (y ∷ r)) (plug_right s l c (y ∷ r) ((w, y.1) ∷ r))
    where
      by_parts : (i : ℕ) (q : List Step) → replaced_at i w q ≡ take i q ++ replaced_at zero w (drop i q)
      by_parts zero q = refl
      by_parts (suc i) [] = refl
      by_parts (suc i) (x ∷ q) = ap (λ (t : List Step). x ∷ t) (by_parts i q)

-- from the node's front to the zipper, and i further
zip_to_plug : (s : ℕ) (l : List (ℕ × Sep ℕ)) (c : ℕ) (r : List Step) (i : ℕ) → zip_to (length l + i) [] (plug s l c r).first (plug s l c r).rest ≡ zip_to i l c r
zip_to_plug s [] c r i = let e : 0 + i ≡ i = omega arith in ap (λ (j : ℕ). zip_to j [] c r) e
zip_to_plug s (x ∷ l) c r i =
    let e : suc (length l) + i ≡ length l + suc i = omega arith in
    ap (λ (j : ℕ). zip_to j [] (plug s (x ∷ l) c r).first (plug s (x ∷ l) c r).rest) e ∙ zip_to_plug s l x.0 ((x.1, c) ∷ r) (suc i)

-- at its index stands the zipper again
pub zip_at_plug : (s : ℕ) (l : List (ℕ × Sep ℕ)) (c : ℕ) (r : List Step) → zip_at (length l) (plug s l c r) ≡ record { lft = l; mid = c; rgt = r }
zip_at_plug s l c r =
    let e : length l ≡ length l + 0 = omega arith in
    ap (λ (j : ℕ). zip_to j [] (plug s l c r).first (plug s l c r).rest) e ∙ zip_to_plug s l c r 0
