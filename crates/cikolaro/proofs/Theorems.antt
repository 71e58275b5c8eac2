-- The face's theorems: a refused call changes no byte of the store; one result of running lines. The batch's are in crate `batch`
-- (Theorems, Nights), the audit's in `audit`, the walks' in `iter`, the node's in `codec`. Assumes nothing.
use mathlib.Core.Path.{◌≡◌, refl, sym, ◌∙◌}
use mathlib.Core.List.{List}
use mathlib.Core.Option.{Option, none, some}
use Rattle.std.specs.Prelude.{Result}
use Prim.Native.Nat.{ℕ}
use lib.ListN.{length}
use Rattle.word.specs.Pick.{pick_t, pick_f}
use Rattle.word.specs.Num.{Bytes}
use Rattle.tree.specs.Batch.{Rec}
use Rattle.tree.proofs.Cases.{by_bool}
use Rattle.slots.specs.declared.FormatError.{FormatError}
use Rattle.slots.specs.Code.{has_size, format_number, Formats}
use Rattle.changes.specs.Records.{encode_records}
use Rattle.lines.specs.Parses.{taken}
use Rattle.batch.specs.declared.Batched.{Batched}
use Rattle.batch.specs.Contract.{answer_number}
use Rattle.batch.proofs.Theorems as batch
use Rattle.cikolaro.specs.Contract.{RunsLines}
use Rattle.cikolaro.specs.Called as face
use Rattle.cikolaro.specs.Called.{Called}

-- ---- Demand 1: "A refused call changes no byte of the store; the one exception is "no room", which keeps exactly the changes it
-- counts as applied." Over all of the face.

format_refused : (s : List ℕ) (n : ℕ) (r : Result (Unit {0}) FormatError) (t : List ℕ) → Formats s n r t → (format_number r ≡ 0 → ⊥) → t ≡ s
format_refused s n r t f z = by_bool (has_size (length s) n) (λ e. absurd (z (f.number ∙ pick_t _ _ e))) (λ e. f.bytes ∙ pick_f _ _ e)

lines_refused : (s ms buffer text : List ℕ) (r : Batched) (t ns left : List ℕ) → Bytes s → RunsLines s ms buffer text r t ns left
    → (answer_number r.answer ≡ 0 → ⊥) → (answer_number r.answer ≡ 9 → ⊥) → t ≡ s
lines_refused s ms buffer text r t ns left bs a z n = go (taken text (length buffer)) refl
  where
    go : (o : Option (List (Rec ℕ))) → taken text (length buffer) ≡ o → t ≡ s
    go none e = (a.bad_text e).0.store
    go (some rs) e = (batch.refused_unchanged s ms (encode_records rs) r t ns bs (a.runs rs e).0 z n).0

pub refused_unchanged : (s : List ℕ) (n : ℕ) (t : List ℕ) → Called s n t → (n ≡ 0 → ⊥) → (n ≡ 9 → ⊥) → t ≡ s
refused_unchanged s n t (face.format s' k r t' f) z m = format_refused s k r t f z
refused_unchanged s n t (face.audit s' r) z m = refl
refused_unchanged s n t (face.batch s' ms q r t' ns bs a) z m = (batch.refused_unchanged s ms q r t ns bs a z m).0
refused_unchanged s n t (face.lookup s' k) z m = refl
refused_unchanged s n t (face.forward s' c) z m = refl
refused_unchanged s n t (face.backward s' c) z m = refl
refused_unchanged s n t (face.run_lines s' ms buffer text r t' ns left bs a) z m = lines_refused s ms buffer text r t ns left bs a z m

-- ---- one result

pub lines_once : (s ms buffer text : List ℕ) (r : Batched) (t ns left : List ℕ) (r' : Batched) (t' ns' left' : List ℕ) → Bytes s
    → ((rs : List (Rec ℕ)) → taken text (length buffer) ≡ some rs → Bytes (encode_records rs))
    → RunsLines s ms buffer text r t ns left → RunsLines s ms buffer text r' t' ns' left' → (r ≡ r') × (t ≡ t') × (ns ≡ ns') × (left ≡ left')
lines_once s ms buffer text r t ns left r' t' ns' left' bs small a b = go (taken text (length buffer)) refl
  where
    go : (o : Option (List (Rec ℕ))) → taken text (length buffer) ≡ o → (r ≡ r') × (t ≡ t') × (ns ≡ ns') × (left ≡ left')
    go none e =
        let v = a.bad_text e in
        let w = b.bad_text e in (
          batch.same_batched r r' (v.0.number_is ∙ sym w.0.number_is) (v.0.applied ∙ sym w.0.applied),
          v.0.store ∙ sym w.0.store,
          v.0.marks ∙ sym w.0.marks,
          v.1 ∙ sym w.1,
        )
    go (some rs) e =
        let v = a.runs rs e in
        let w = b.runs rs e in
        let x = batch.batch_once s ms (encode_records rs) r t ns r' t' ns' bs (small rs e) v.0 w.0 in
        (x.0, x.1, x.2, v.1 ∙ sym w.1)
