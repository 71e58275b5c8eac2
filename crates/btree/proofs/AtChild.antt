-- A node that the store holds, told at one of its children: what a walk knows of it on the way down, and still knows when the
-- call below has written; so that reading its slot again gives the same node. Assumes nothing.
use mathlib.Core.Path.{◌≡◌, refl, sym, ap, subst, ◌∙◌}
use mathlib.Core.List.{List, [], ◌∷◌}
use mathlib.Core.Bool.{Bool, false}
use mathlib.Core.Option.{some}
use Prim.Native.Nat.{ℕ, zero, suc, ◌+◌, ◌^◌, ◌≤◌, ◌<◌}
use lib.ListN.{length}
use native.Mathlib.Omega.{arith}
use borrow.Author.Tests.{ne_eqb}
use Rattle.tree.specs.Map.{Sep}
use Rattle.tree.specs.Tree.{Kid, Tree, Zip, read_rest, read, none_of, slots, plug, at}
use Rattle.tree.specs.Free.{occurs, in_store}
use Rattle.tree.proofs.Zipper.{plug_slot, plug_length, seek_plug, AllZip, plug_all, seek_all}
use Rattle.tree.proofs.Slots.{occurs_append, in_store_le}
use Rattle.tree.proofs.RemoveSlots.{occurs_zip, plug_occurs}
use Rattle.slots.specs.Layout.{slot_at}
use Rattle.slots.specs.Stands.{label, map_right, map_node, InSlot, Holds, Based}
use Rattle.slots.proofs.StoreLaws.{based_slot, read_back}
use Rattle.slots.proofs.Framing.{occurs_itself, Within, first_within, left_frame, right_frame, holds_frame, length_map_right}
use Rattle.word.specs.Pick.{pick_t}
use Rattle.node.specs.Chain.{child_of}
use Rattle.slots.specs.Code.{misfits, when_fit, read_node_at}
use Rattle.slots.proofs.CodeLaws.{RestFits, chain_fits_lem}
use Rattle.btree.proofs.Natural.{map_left, plug_map, FitZip, FitNode, fit_plug}

-- each slot at most once in a tree and a list of free slots, and in a store of n
abbrev pub Apart : (n d : ℕ) → Kid ℕ d → List ℕ → Type 0
Apart n d t fs = (v : ℕ) → occurs v (slots ℕ d t) + occurs v fs ≤ in_store n v

-- ---- a node in its slot is read

child_fits : (n d : ℕ) (c : Kid ℕ d) → Within n (slots ℕ d c) → misfits d (child_of (label d c)) ≡ false
child_fits n zero c a = refl
child_fits n (suc d) c a = let i = first_within n c.slot (read none_of (slots ℕ d) c) (a c.slot) in ne_eqb c.slot 0 (omega arith)

children_fit_lem : (n d : ℕ) (r : List (Sep ℕ × Kid ℕ d)) → Within n (read_rest none_of (slots ℕ d) r) → RestFits d (map_right (label d) r)
children_fit_lem n d [] a = tt
children_fit_lem n d (y ∷ r) a = (child_fits n d y.1 (λ v. omega (arith, simp occurs_append at (a v))), children_fit_lem n d r (λ v. omega (arith, simp occurs_append at (a v))))

module _ (n root depth : ℕ) (small : n < 2 ^ 32) where
  pub read_at_lem : (d : ℕ) (s fs : List ℕ) (m : Tree ℕ d) → Based n root depth s fs → InSlot s (map_node (label d) m) → Within n (slots ℕ (suc d) m)
      → read_node_at d s m.slot ≡ some (map_node (label d) m)
  unfolding read_node_at
  read_at_lem d s fs m b h a =
      let i = first_within n m.slot (read none_of (slots ℕ d) m) (a m.slot) in
      let fits = chain_fits_lem d (label d m.first) (map_right (label d) m.rest) (child_fits n d m.first (λ v. omega (arith, simp occurs_append at (a v))))
      (children_fit_lem n d m.rest (λ v. omega (arith, simp occurs_append at (a v)))) in
      ap (when_fit d) (read_back s (map_node (label d) m) (based_slot n root depth s fs b small m.slot i.0 i.1) h) ∙ pick_t _ _ fits

-- ---- at a child

module _ (n root depth d : ℕ) where
  -- the node of slot x, with l left of its child c and r right of it
  pub record AtChild (s fs : List ℕ) (x : ℕ) (l : List (Kid ℕ d × Sep ℕ)) (c : Kid ℕ d) (r : List (Sep ℕ × Kid ℕ d)) : Type 0 where
    pub base : Based n root depth s fs
    pub here : InSlot s (map_node (label d) (plug x l c r))
    pub kids : AllZip (Holds s d) l c r
    pub once : (v : ℕ) → occurs_zip v (slots ℕ d) x l c r + occurs v fs ≤ in_store n v

module _ (n root depth : ℕ) (small : n < 2 ^ 32) (d : ℕ) where
  -- where a walk by p goes on
  pub at_child : (p : Sep ℕ → Bool) (s fs : List ℕ) (m : Tree ℕ d) → Based n root depth s fs → Holds s (suc d) m → Apart n (suc d) m fs
      → let z : Zip ℕ (Kid ℕ d) = at p m in AtChild n root depth d s fs m.slot z.lft z.mid z.rgt
  at_child p s fs m b h a =
      let z : Zip ℕ (Kid ℕ d) = at p m in
      let e = seek_plug p m.slot [] m.first m.rest in
      record {
        base = b;
        here = subst (λ (t : Tree ℕ d). InSlot s (map_node (label d) t)) (sym e) h.0;
        kids = seek_all (Holds s d) p [] m.first m.rest tt h.1 h.2;
        once = λ v. omega (arith, a v, ap (λ (t : Tree ℕ d). occurs v (slots ℕ (suc d) t)) e, plug_occurs v (slots ℕ d) m.slot z.lft z.mid z.rgt);
      }

  module _ (s fs : List ℕ) (x : ℕ) (l : List (Kid ℕ d × Sep ℕ)) (c : Kid ℕ d) (r : List (Sep ℕ × Kid ℕ d)) (z : AtChild n root depth d s fs x l c r) where
    pub node_apart : Apart n (suc d) (plug x l c r) fs
    node_apart v = omega (arith, z.once v, plug_occurs v (slots ℕ d) x l c r)

    pub child_apart : Apart n d c fs
    child_apart v = omega (arith, z.once v)

    pub node_holds : Holds s (suc d) (plug x l c r)
    node_holds = let a = plug_all (Holds s d) x l c r z.kids.lefts z.kids.here z.kids.rights in (z.here, a.0, a.1)

    pub node_count : length l + length r ≤ 8
    node_count = let m = z.here.fine.most in omega (arith, length_map_right (label d) (plug x l c r).rest, plug_length x l c r)

    pub node_fits : FitZip (map_left (label d) l) (label d c) (map_right (label d) r)
    node_fits =
        let e = plug_map (label d) x l c r in
        fit_plug x (map_left (label d) l) (label d c) (map_right (label d) r)
        (subst FitNode e (z.here.fine.first, z.here.fine.rest))

    pub node_read : read_node_at d s x ≡ some (plug x (map_left (label d) l) (label d c) (map_right (label d) r))
    node_read =
        ap (read_node_at d s) (sym (plug_slot x l c r)) ∙ read_at_lem n root depth small d s fs (plug x l c r) z.base z.here (λ v. omega (arith, node_apart v))
        ∙ ap some (plug_map (label d) x l c r)

    -- The call below made k of the child, in the child's slot, and wrote only slots of the child and free ones.
    pub at_after : (t gs : List ℕ) (k : Kid ℕ d) → Based n root depth t gs → Holds t d k → label d k ≡ label d c
        → ((v : ℕ) → occurs v (slots ℕ d c) + occurs v fs ≡ 0 → slot_at t v ≡ slot_at s v)
        → ((v : ℕ) → occurs v (slots ℕ d k) + occurs v gs ≤ occurs v (slots ℕ d c) + occurs v fs) → AtChild n root depth d t gs x l k r
    at_after t gs k b h e keeps fewer =
        let own : slot_at t x ≡ slot_at s x = let o = occurs_itself x in keeps x (omega (arith, z.once x, in_store_le n x)) in
        let same : map_node (label d) (plug x l c r) ≡ map_node (label d) (plug x l k r) =
        plug_map (label d) x l c r ∙ ap (λ (v : ℕ). plug x (map_left (label d) l) v (map_right (label d) r)) (sym e) ∙ sym (plug_map (label d) x l k r) in
        record {
          base = b;
          here = subst (InSlot t) same (record { fine = z.here.fine; bytes = ap (slot_at t) (plug_slot x l c r) ∙ own ∙ sym (ap (slot_at s) (plug_slot x l c r)) ∙ z.here.bytes });
          kids = record {
            lefts = left_frame s t (slots ℕ d) (Holds s d) (Holds t d) (λ c. holds_frame s t d c) l (λ v q. keeps v (omega (arith, z.once v, in_store_le n v))) z.kids.lefts;
            here = h;
            rights = right_frame s t (slots ℕ d) (Holds s d) (Holds t d) (λ c. holds_frame s t d c) r (λ v q. keeps v (omega (arith, z.once v, in_store_le n v))) z.kids.rights;
          };
          once = λ v. omega (arith, z.once v, fewer v);
        }
