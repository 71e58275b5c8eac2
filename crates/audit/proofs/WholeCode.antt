-- The tree, then the chain, then the answer: way by way. Assumes nothing.
use mathlib.Core.Path.{◌≡◌, refl, sym, ap, subst, ◌∙◌}
use mathlib.Core.List.{List, [], ◌∷◌}
use mathlib.Core.Bool.{Bool, true, false, cond, not, ◌&&◌}
use mathlib.Core.Option.{Option, none, some}
use Prim.Native.Nat.{ℕ, zero, suc, ◌+◌, ◌*◌, ◌^◌, ◌≤◌, ◌<◌}
use native.Mathlib.Nat.{div-add-mod'}
use native.Mathlib.Omega.{arith}
use lib.ListN.{length, get_or, take}
use lib.Dec.{eqb}
use lib.Count.{ones-le}
use borrow.Author.Tests.{le-leb, lt-leb, ne_eqb, not-true, not-false}
use Rattle.word.specs.Pick.{pick_t, pick_f}
use Rattle.word.specs.Num.{Bytes, zeros}
use Rattle.tree.specs.State.{root_least}
use Rattle.tree.proofs.Cases.{by_cond}
use Rattle.slots.specs.Limits.{most_depth}
use Rattle.slots.specs.Layout.{root_of, depth_of, count_of, first_of, is_store}
use Rattle.slots.proofs.Building.{IfSome}
use Rattle.std.specs.Prelude as rust
use Rattle.std.specs.Prelude.{is_ok, Ok, Err, Some, None}
use Rattle.audit.specs.declared.AuditError.TheVariants.{NotStore, FewMarks, Fails}
use Rattle.audit.specs.declared.Place.{Place}
use Rattle.audit.specs.declared.Broken.{Broken}
use Rattle.audit.specs.Marks.{words_for, all_ones}
use Rattle.audit.specs.Contract.{Verdict, Audits}
use Rattle.audit.specs.Walk.{in_words, is_clear, bind, read_written, visit, marks_of, linked, next_free, is_idle, chain, walk_tree, walk_free, walk}
use Rattle.audit.specs.Code.{seen_of, visit_in, length_from, chain_of, chain_in, left_of, walk_tree_in, fills_in, Answer, walked, answer}
use Rattle.audit.proofs.Theorems.{answer_right}

-- ---- the tree

left_cond : (b : Bool) (ws : List ℕ) → left_of b ws ≡ cond b (some ws) none
unfolding left_of
left_cond true ws = pick_t _ _ refl
left_cond false ws = pick_f _ _ refl

pub left_true : {b : Bool} (ws : List ℕ) → b ≡ true → left_of b ws ≡ some ws
left_true ws e = left_cond _ ws ∙ rw e

pub left_false : {b : Bool} (ws : List ℕ) → b ≡ false → left_of b ws ≡ none
left_false ws e = left_cond _ ws ∙ rw e

module _ (s ws : List ℕ) {root depth : ℕ} (r : root ≡ root_of s) (d : depth ≡ depth_of s) where
  module _ (z : root ≡ 0 → ⊥) where
    rooted : eqb (root_of s) 0 ≡ false
    rooted = ne_eqb (root_of s) 0 (λ e. z (r ∙ e))

    pub tree_1 : {least : ℕ} (seen : rust.Result (rust.Option Place) Broken) (vs : List ℕ) {b : Bool} → depth ≤ most_depth → least ≡ root_least depth
        → seen_of s seen vs ≡ visit_in s (depth + 1) least root (record { marks = ws; last = none }) → b ≡ is_ok seen → left_of b vs ≡ walk_tree_in s ws
    unfolding walk_tree_in visit_in
    tree_1 {least} seen vs {b} l e q ok =
        let one : depth_of s + 1 ≡ suc (depth_of s) = omega arith in
        let v : seen_of s seen vs ≡ visit (in_words (words_for (count_of s))) (read_written s) (suc (depth_of s)) (root_least (depth_of s)) (root_of s) (record { marks = ws; last = none }) =
        q ∙ rw (e, d, r, one) in
        sym (rw (rooted, le-leb (depth_of s) most_depth (rw d at l), ← v) (go seen ok))
      where
        go : (q : rust.Result (rust.Option Place) Broken) → b ≡ is_ok q → marks_of (in_words (words_for (count_of s))) (read_written s) s (seen_of s q vs) ≡ left_of b vs
        go (Ok l) e = sym (left_true vs e)
        go (Err f) e = sym (left_false vs e)

-- ---- the chain

module _ (s ws : List ℕ) (n : ℕ) where
  chain_most : (is_free : ℕ → Bool) (f x : ℕ) → IfSome (λ (fs : List ℕ). length fs ≤ f) (chain is_free f s x)
  chain_most is_free zero x = by_cond (IfSome (λ (fs : List ℕ). length fs ≤ zero)) (eqb x 0) (λ e. omega arith) (λ e. tt)
  chain_most is_free (suc f) x =
      by_cond (IfSome (λ (fs : List ℕ). length fs ≤ suc f)) (eqb x 0) (λ e. omega arith)
      (λ e. by_cond (IfSome (λ (fs : List ℕ). length fs ≤ suc f)) (is_idle s x && is_free x) (λ q. go (chain is_free f s (next_free s x)) (chain_most is_free f (next_free s x))) (λ q. tt))
    where
      go : (o : Option (List ℕ)) → IfSome (λ (fs : List ℕ). length fs ≤ f) o → IfSome (λ (fs : List ℕ). length fs ≤ suc f) (linked x o)
      go none h = tt
      go (some fs) h = omega arith

  pub chain_short : {c : rust.Option ℕ} {len : ℕ} → chain_of c ≡ chain_in s ws n → c ≡ Some len → len ≤ n
  unfolding chain_in
  chain_short {len = len} is h = go (chain (is_clear ws) n s (first_of s)) (ap chain_of (sym h) ∙ is) (chain_most (is_clear ws) n (first_of s))
    where
      go : (o : Option (List ℕ)) → some len ≡ length_from 0 o → IfSome (λ (fs : List ℕ). length fs ≤ n) o → len ≤ n
      go none e m = absurd (cc)
      go (some fs) e m = let k : len ≡ 0 + length fs = cc in omega arith

pub words_few : (n : ℕ) {words : ℕ} → words ≡ words_for n → 64 * words ≤ n + 63
unfolding words_for
words_few n e = omega (arith, div-add-mod' (n + 63) 64)

-- no word has more ones than bits
pub ones_most : (n : ℕ) (ws : List ℕ) → ((i : ℕ) → get_or ws i 0 < 2 ^ 64) → all_ones (take n ws) ≤ 64 * n
unfolding all_ones
ones_most zero [] h = omega arith
ones_most zero (w ∷ ws) h = omega arith
ones_most (suc n) [] h = omega arith
ones_most (suc n) (w ∷ ws) h = omega (arith, ones-le 64 w (h 0), ones_most n ws (λ i. h (suc i)))

-- ---- the answer

module _ (s ms : List ℕ) (bs : Bytes s) where
  by_answer : (r : Verdict) (ns : List ℕ) → answer s ms ≡ record { audit = r; marks = ns } → Audits s ms r ns
  by_answer r ns e = subst (λ (a : Answer). Audits s ms a.audit a.marks) e (answer_right s ms bs)

  module _ {b : Bool} (is : b ≡ is_store s) where
    pub audit_1 : not b ≡ true → Audits s ms (Err NotStore) ms
    audit_1 h = by_answer (Err NotStore) ms (unfold answer in pick_f _ _ (sym is ∙ not-true b h))

    module _ (h : not b ≡ false) {n words : ℕ} (count : n ≡ count_of s) (needs : words ≡ words_for n) where
      needed : words ≡ words_for (count_of s)
      needed = needs ∙ ap words_for count

      pub audit_2 : length ms < words → Audits s ms (Err FewMarks) ms
      audit_2 l = by_answer (Err FewMarks) ms (unfold answer in (pick_t _ _ (sym is ∙ not-false b h) ∙ pick_f _ _ (lt-leb (words_for (count_of s)) (length ms) (rw needed at l))))

      module _ (l : words ≤ length ms) {cs : List ℕ} (cleared : cs ≡ zeros (length ms)) (t : Bool) (ws : List ℕ) (tree : left_of t ws ≡ walk_tree_in s cs) where
        abbrev o : Option (List ℕ)
        o = walk (in_words (words_for (count_of s))) (read_written s) s (zeros (length ms))

        answer_is : answer s ms ≡ walked (words_for (count_of s)) (length ms) o
        unfolding answer
        answer_is = pick_t _ _ (sym is ∙ not-false b h) ∙ pick_t _ _ (le-leb (words_for (count_of s)) (length ms) (rw needed at l))

        walk_is : o ≡ bind (left_of t ws) (λ m. cond (fills_in s m (count_of s)) (some m) none)
        unfolding walk walk_tree_in fills_in
        walk_is = ap (λ (q : Option (List ℕ)). bind q (walk_free (in_words (words_for (count_of s))) (read_written s) s)) (sym (tree ∙ ap (walk_tree (in_words (words_for (count_of s))) (read_written s) s) cleared))

        none_left : o ≡ none → Audits s ms (Err Fails) (zeros (length ms))
        none_left e = by_answer (Err Fails) (zeros (length ms)) (answer_is ∙ rw e)

        module _ (ok : t ≡ true) {f : Bool} (filled : f ≡ fills_in s ws n) where
          walk_then : o ≡ cond f (some ws) none
          walk_then = walk_is ∙ rw (left_true ws ok, filled, count)

          pub audit_3 : {k : ℕ} → f ≡ true → k ≡ all_ones (take (words_for n) ws) → Audits s ms (Ok k) ws
          audit_3 {k} e q =
              let w : o ≡ some ws = walk_then ∙ rw e in
              let z : all_ones (take (words_for (count_of s)) ws) ≡ k = sym (q ∙ rw count) in
              by_answer (Ok k) ws (answer_is ∙ ap (walked (words_for (count_of s)) (length ms)) w ∙ rw z)

          pub audit_5 : {vs : List ℕ} → f ≡ false → length ws ≡ length ms → vs ≡ zeros (length ws) → Audits s ms (Err Fails) vs
          audit_5 e k v = rw (v, k) (none_left (walk_then ∙ rw e))

        pub audit_4 : {vs : List ℕ} → t ≡ false → length ws ≡ length ms → vs ≡ zeros (length ws) → Audits s ms (Err Fails) vs
        audit_4 e k v = rw (v, k) (none_left (walk_is ∙ rw (left_false ws e)))
