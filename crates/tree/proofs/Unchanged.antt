-- A dereference of an absent key, and a set of a present key to the value that it has, leave the tree and its slots as they
-- are. Assumes nothing.
use mathlib.Core.Path.{◌≡◌, refl, sym, ◌∙◌}
use mathlib.Core.List.{List, [], ◌∷◌}
use mathlib.Core.Option.{Option, none, some}
use lib.ListN.{length}
use native.Mathlib.Omega.{arith}
use borrow.Author.Tests.{le-leb}
use Prim.Native.Nat.{ℕ, zero, suc, ◌+◌, ◌≤◌}
use Rattle.word.specs.Key.{Key, cmp}
use Rattle.tree.specs.Map.{Sep}
use Rattle.tree.specs.Tree.{Kid, Tree, Zip, plug, at, below, same}
use Rattle.tree.specs.Lookup.{look_here, look}
use Rattle.tree.specs.Set.{one, Placed, set_below, set_here, set}
use Rattle.tree.specs.Remove.{Removed, settle, remove_at, dereference}
use Rattle.tree.specs.State.{Fits, Shaped}
use Rattle.word.proofs.KeyOrder.{cmp_eq}
use Rattle.tree.proofs.Cases.{by_bool, is_eq}
use Rattle.tree.proofs.Zipper.{seek_plug, seek_length, plug_length, at_all}

-- ---- a dereference of an absent key

module _ (A : Type 0) where
  settle_still : (d s : ℕ) (l : List (Kid A d × Sep A)) (c : Kid A d) (r : List (Sep A × Kid A d)) (o : Removed (Kid A d)) → Shaped A d c → o ≡ record { tree = c; freed = [] }
      → settle A d s l o r ≡ record { tree = plug s l c r; freed = [] }
  settle_still zero s l c r o h e = rw e
  settle_still (suc d) s l c r o h e = rw (e, le-leb 4 (length c.rest) h.least)

  remove_at_still : (k : Key) (d s : ℕ) (l : List (Kid A d × Sep A)) (c : Kid A d) (r : List (Sep A × Kid A d)) (o : Removed (Kid A d)) (m : Option A) → Shaped A d c
      → (m ≡ none → o ≡ record { tree = c; freed = [] }) → look_here k m r ≡ none → remove_at A k d s l c r o ≡ record { tree = plug s l c r; freed = [] }
  remove_at_still k d s l c [] o m h ih e = settle_still d s l c [] o h (ih e)
  remove_at_still k d s l c (x ∷ r) o m h ih e = by_bool (same k x.0)
      (λ p. let w = rw p at e in cc) (λ p. rw p (settle_still d s l c (x ∷ r) o h (ih (rw p at e))))

  absent_step : (k : Key) (d lo : ℕ) (n : Tree A d) → Fits (Shaped A d) lo n → look A k (suc d) n ≡ none
      → ((c : Kid A d) → Shaped A d c → look A k d c ≡ none → dereference A k d c ≡ record { tree = c; freed = [] }) → dereference A k (suc d) n ≡ record { tree = n; freed = [] }
  absent_step k d lo n h e ih =
      let z : Zip A (Kid A d) = at (below k) n in
      let a = at_all (Shaped A d) (below k) lo n h in
      remove_at_still k d n.slot z.lft z.mid z.rgt (dereference A k d z.mid) (look A k d z.mid) a.here (ih z.mid a.here) e
      ∙ rw (seek_plug (below k) n.slot [] n.first n.rest)

  kid_absent : (k : Key) (d : ℕ) (t : Kid A d) → Shaped A d t → look A k d t ≡ none → dereference A k d t ≡ record { tree = t; freed = [] }
  kid_absent k zero t h e = refl
  kid_absent k (suc d) n h e = absent_step k d 4 n h e (λ c hc ec. kid_absent k d c hc ec)

  pub dereference_absent : (k : Key) (d lo : ℕ) (n : Tree A d) → Fits (Shaped A d) lo n → look A k (suc d) n ≡ none → dereference A k (suc d) n ≡ record { tree = n; freed = [] }
  dereference_absent k d lo n h e = absent_step k d lo n h e (λ c hc ec. kid_absent k d c hc ec)

-- ---- a set of a present key to its value

module _ {A C : Type 0} (e : Sep A) (rec : C → Placed A C) (s : ℕ) (l : List (C × Sep A)) (c : C) (fs : List ℕ) where
  below_still : (r : List (Sep A × C)) → length l + length r ≤ 8 → rec c ≡ record { parts = one c; free = fs } → set_below rec s l c r ≡ record { parts = one (plug s l c r); free = fs }
  below_still r h q = rw (q, le-leb (length (plug s l c r).rest) 8 (omega (arith, plug_length s l c r)))

  here_still : (r : List (Sep A × C)) (m : Option A) → length l + length r ≤ 8 → (m ≡ some e.val → rec c ≡ record { parts = one c; free = fs }) → look_here e.key m r ≡ some e.val
      → set_here rec e s l c r fs ≡ record { parts = one (plug s l c r); free = fs }
  here_still [] m h ih q = below_still [] h (ih q)
  here_still (x ∷ r) m h ih q = by_bool (same e.key x.0)
      (λ p.
      let w = rw p at q in
      let vs : x.0.val ≡ e.val = cc in
      let ks : e.key ≡ x.0.key = cmp_eq e.key x.0.key (is_eq (cmp e.key x.0.key) p) in
      let it : e ≡ x.0 = λ i. record { key = ks i; val = sym vs i } in
      rw p (rw it))
      (λ p. rw p (below_still (x ∷ r) h (ih (rw p at q))))

module _ {A : Type 0} (e : Sep A) where
  again_step : (d lo : ℕ) (n : Tree A d) (fs : List ℕ) → Fits (Shaped A d) lo n → look A e.key (suc d) n ≡ some e.val
      → ((c : Kid A d) → Shaped A d c → look A e.key d c ≡ some e.val → set A e d c fs ≡ record { parts = one c; free = fs }) → set A e (suc d) n fs ≡ record { parts = one n; free = fs }
  again_step d lo n fs h q ih =
      let z : Zip A (Kid A d) = at (below e.key) n in
      let a = at_all (Shaped A d) (below e.key) lo n h in
      let w = seek_length (below e.key) [] n.first n.rest in
      let m = h.most in
      here_still e (λ c. set A e d c fs) n.slot z.lft z.mid fs z.rgt (look A e.key d z.mid) (omega arith) (ih z.mid a.here) q
      ∙ rw (seek_plug (below e.key) n.slot [] n.first n.rest)

  kid_again : (d : ℕ) (t : Kid A d) (fs : List ℕ) → Shaped A d t → look A e.key d t ≡ some e.val → set A e d t fs ≡ record { parts = one t; free = fs }
  kid_again zero t fs h q = cc
  kid_again (suc d) n fs h q = again_step d 4 n fs h q (λ c hc ec. kid_again d c fs hc ec)

  pub set_again : (d lo : ℕ) (n : Tree A d) (fs : List ℕ) → Fits (Shaped A d) lo n → look A e.key (suc d) n ≡ some e.val → set A e (suc d) n fs ≡ record { parts = one n; free = fs }
  set_again d lo n fs h q = again_step d lo n fs h q (λ c hc ec. kid_again d c fs hc ec)
