-- 01's known nights on bytes: "P: proved together, one statement over a table". A night is batches on a formatted store, one
-- after another, each result one that the batch's contract allows: then the numbers, the applied counts, and the tree in its
-- slots with the free chain are the table's (crate `tree`'s `nights`). Assumes nothing.
use mathlib.Core.Path.{◌≡◌, refl, sym, ap, subst, ◌∙◌}
use mathlib.Core.List.{List, [], ◌∷◌, ◌++◌, append_assoc}
use mathlib.Core.Bool.{Bool, true, false, not, ◌&&◌}
use mathlib.Core.Option.{Option, none, some}
use Prim.Native.Nat.{ℕ, ◌≤◌}
use lib.ListN.{length}
use lib.Dec.{leb, ltb}
use native.Mathlib.Omega.{arith}
use borrow.Author.Tests.{leb-true, ltb-true}
use Rattle.word.specs.Key.{Key, cmp, is_lt}
use Rattle.word.specs.Num.{Bytes}
use Rattle.tree.specs.Free.{stack}
use Rattle.tree.specs.Batch.{Rec, NoneBelow, NeverFall}
use Rattle.tree.specs.State.{Store, rooted, formatted, GoodStore}
use Rattle.tree.specs.Run as tree
use Rattle.tree.proofs.StateLaws.{formatted_good}
use Rattle.tree.proofs.Table.{Case, Left, run_each, leaves, holds, equal, all_hold}
use Rattle.tree.proofs.Nights.{nights}
use Rattle.tree.proofs.Theorems.{nights_hold}
use Rattle.slots.specs.Limits.{most_slots}
use Rattle.slots.specs.Layout.{count_of}
use Rattle.slots.specs.Stands.{Stands, Audited}
use Rattle.slots.specs.Format.{fresh}
use Rattle.slots.proofs.FormatLaws.{fresh_stands}
use Rattle.audit.specs.Marks.{words_for}
use Rattle.changes.specs.Fit.{FitOp, AllFit}
use Rattle.changes.specs.Records.{encode_records}
use Rattle.changes.proofs.WrittenLaws.{written_read}
use Rattle.btree.proofs.Corollaries.{batch_ends}
use Rattle.batch.specs.declared.Batched.{Batched}
use Rattle.batch.specs.Contract.{answer_number, Batches}
use Rattle.batch.proofs.BatchCode.{recs_fit}

-- batches on the bytes s, one after another, each lent words enough; their numbers and applied counts; and the bytes left
pub data Plays : List ℕ → List (List (Rec ℕ)) → List ℕ → List ℕ → Type 0 where
  over : (s : List ℕ) → Plays s [] [] s
  next : (s ms t ns u : List ℕ) (r : Batched) (b : List (Rec ℕ)) (bs : List (List (Rec ℕ))) (answers : List ℕ)
      → words_for (count_of s) ≤ length ms → Batches s ms (encode_records b) r t ns → Plays t bs answers u
      → Plays s (b ∷ bs) (answer_number r.answer ∷ r.applied ∷ answers) u

-- ---- records of single bytes, tested

abbrev is_small : Option ℕ → Bool
is_small none = true
is_small (some v) = ltb 0 v && ltb v 256

abbrev is_byte : Key → Bool
is_byte [] = false
is_byte (b ∷ []) = ltb b 256
is_byte (b ∷ c ∷ k) = false

abbrev none_below : Key → List (Rec ℕ) → Bool
none_below k [] = true
none_below k (r ∷ rs) = not (is_lt (cmp r.key k)) && none_below k rs

abbrev are_fine : List (Rec ℕ) → Bool
are_fine [] = true
are_fine (r ∷ rs) = is_byte r.key && (is_small r.op && (none_below r.key rs && are_fine rs))

both : (a b : Bool) → (a && b) ≡ true → (a ≡ true) × (b ≡ true)
both true b e = (refl, e)
both false b e = absurd (let z : ◌≡◌ {A = ℕ} 0 1 = cc in omega arith)

small_fits : (o : Option ℕ) → is_small o ≡ true → FitOp o
small_fits none e = tt
small_fits (some v) e = let w = both (ltb 0 v) (ltb v 256) e in (ltb-true 0 v w.0, omega (arith, ltb-true v 256 w.1))

byte_fits : (k : Key) → is_byte k ≡ true → Bytes k × (length k ≤ 288)
byte_fits [] e = absurd (let z : ◌≡◌ {A = ℕ} 0 1 = cc in omega arith)
byte_fits (b ∷ []) e = ((ltb-true b 256 e, tt), omega arith)
byte_fits (b ∷ c ∷ k) e = absurd (let z : ◌≡◌ {A = ℕ} 0 1 = cc in omega arith)

none_below_lem : (k : Key) (rs : List (Rec ℕ)) → none_below k rs ≡ true → NoneBelow k rs
none_below_lem k [] e = tt
none_below_lem k (r ∷ rs) e =
    let w = both (not (is_lt (cmp r.key k))) (none_below k rs) e in
    (λ l. let t : not (is_lt (cmp r.key k)) ≡ false = rw l in absurd (let z : ◌≡◌ {A = ℕ} 0 1 = cc in omega arith), none_below_lem k rs w.1)

fine_fit : (rs : List (Rec ℕ)) → are_fine rs ≡ true → AllFit rs × NeverFall rs
fine_fit [] e = (tt, tt)
fine_fit (r ∷ rs) e =
    let a = both (is_byte r.key) _ e in
    let b = both (is_small r.op) _ a.1 in
    let c = both (none_below r.key rs) (are_fine rs) b.1 in
    let w = fine_fit rs c.1 in
    let k = byte_fits r.key a.0 in
    ((record { bytes = k.0; short = k.1; value = small_fits r.op b.0 }, w.0), (none_below_lem r.key rs c.0, w.1))

abbrev are_short : List (List (Rec ℕ)) → Bool
are_short [] = true
are_short (b ∷ bs) = are_fine b && (leb (length b) 9 && are_short bs)

-- ---- a night played on bytes is the night on trees

module _ (n : ℕ) (least : 1 ≤ n) (most : n ≤ most_slots) where
  pub plays : (s t : List ℕ) (st : Store ℕ) (bs : List (List (Rec ℕ))) (before answers : List ℕ) → are_short bs ≡ true → Stands n s st → GoodStore n st → Plays s bs answers t
      → let l : Left = run_each bs (record { store = st; answers = before }) in (before ++ answers ≡ l.answers) × Stands n t l.store
  plays s t st bs before answers ok h g (over s') = (append_none before, h)
    where
      append_none : (xs : List ℕ) → xs ++ [] ≡ xs
      append_none [] = refl
      append_none (x ∷ xs) = ap (λ (l : List ℕ). x ∷ l) (append_none xs)
  plays s t st bs before answers ok h g (next s' ms u ns t' r b cs later enough ran rest) =
      let e = both (are_fine b) _ ok in
      let f = both (leb (length b) 9) (are_short cs) e.1 in
      let fit = fine_fit b e.0 in
      let w = written_read b fit.0 fit.1 (omega (arith, leb-true (length b) 9 f.0)) in
      let a : Audited s = record { count = n; least = least; most = most; store = st; stands = h; good = g } in
      let v = ran.runs a enough w.fine in
      let same = w.same in
      let number : answer_number r.answer ≡ tree.number (tree.batch stack b st).answer = v.number_is ∙ ap (λ (q : List (Rec ℕ)). tree.number (tree.batch stack q st).answer) same in
      let applied : r.applied ≡ tree.applied (length b) (tree.batch stack b st).answer = v.applied ∙ ap (λ (q : List (Rec ℕ)). tree.applied (length q) (tree.batch stack q st).answer) same in
      let stands : Stands n u (rooted (tree.batch stack b st).state) = subst (λ (q : List (Rec ℕ)). Stands n u (rooted (tree.batch stack q st).state)) same v.stands in
      let good : GoodStore n (rooted (tree.batch stack b st).state) = (batch_ends s a b (recs_fit b fit.0)).good in
      let ih = plays u t (rooted (tree.batch stack b st).state) cs (before ++ (tree.number (tree.batch stack b st).answer ∷ tree.applied (length b) (tree.batch stack b st).answer ∷ [])) later f.1 stands good rest in
      (sym (append_assoc before (answer_number r.answer ∷ r.applied ∷ []) later) ∙ rw (number, applied) ih.0, ih.1)

-- ---- the table

-- the answers are the night's, and the bytes stand for a store whose depth, tree and free chain are the night's
pub record Shown (c : Case) (answers t : List ℕ) : Type 0 where
  pub told : equal answers c.answers ≡ true
  pub store : Store ℕ
  pub stands : Stands c.count t store
  pub shape : leaves c store ≡ true

abbrev is_night : Case → Bool
is_night c = leb 1 c.count && (leb c.count 65535 && are_short c.batches)

abbrev pub AllShown : List Case → Type 0
AllShown [] = Unit {0}
AllShown (c ∷ cs) = ((answers t : List ℕ) → Plays (fresh c.count) c.batches answers t → Shown c answers t) × AllShown cs

abbrev are_nights : List Case → Bool
are_nights [] = true
are_nights (c ∷ cs) = is_night c && are_nights cs

shown : (cs : List Case) → are_nights cs ≡ true → all_hold cs ≡ true → AllShown cs
shown [] n h = tt
shown (c ∷ cs) n h =
    let a = both (is_night c) (are_nights cs) n in
    let b = both (leb 1 c.count) _ a.0 in
    let d = both (leb c.count 65535) (are_short c.batches) b.1 in
    let least = leb-true 1 c.count b.0 in
    let most = leb-true c.count 65535 d.0 in
    let e = both (holds c) (all_hold cs) h in
    let l : Left = run_each c.batches (record { store = formatted c.count; answers = [] }) in
    let f = both (equal l.answers c.answers) (leaves c l.store) e.0 in (
      λ answers t p.
          let w = plays c.count least most (fresh c.count) t (formatted c.count) c.batches [] answers d.1 (fresh_stands c.count least) (formatted_good ℕ c.count) p in
          record { told = rw w.0 f.0; store = l.store; stands = w.1; shape = f.1 },
      shown cs a.1 e.1,
    )

pub known_nights : AllShown nights
known_nights = shown nights refl nights_hold
