-- "Show that any two results allowed by one such statement are the same": for the contract of each exported function. That of a node's
-- child is an equation already. Assumes nothing.
use mathlib.Core.Path.{◌≡◌, sym, ap, ◌∙◌}
use mathlib.Core.List.{List}
use mathlib.Core.Option.{some}
use Prim.Native.Nat.{ℕ}
use lib.ListN.{length}
use Rattle.word.specs.Num.{Bytes}
use Rattle.tree.specs.Batch.{Rec}
use Rattle.node.specs.declared.Node.{Node}
use Rattle.codec.specs.declared.Places.{Places}
use Rattle.audit.specs.Contract.{audit_number, audit_reached}
use Rattle.audit.proofs.Theorems as audit
use Rattle.batch.specs.declared.Batched.{Batched}
use Rattle.batch.specs.Contract.{answer_number}
use Rattle.batch.proofs.Theorems as batch
use Rattle.changes.specs.Records.{encode_records}
use Rattle.lines.specs.Parses.{parsed_number, parsed_length, taken}
use Rattle.lines.proofs.Same as lines
use Rattle.cikolaro.proofs.Theorems as face
use Rattle.iter.specs.Answer.{Answer}
use Rattle.iter.specs.declared.Cursor.{Cursor}
use Rattle.iter.specs.declared.Stepped.{Stepped}
use Rattle.iter.specs.declared.Sought.{Sought}
use Rattle.lent.specs.Lent.{Holds, Steps}
use Rattle.capi.specs.Face.{FormatsBy, AuditsBy, BatchesBy, ParsesBy, RunsLinesBy, LooksUp, Seeks, ReadsNode, ReadsSeparator, ReadsStrict, ReadsSeparatorStrict, WritesNode}

pub format_once : {s t t' : List ℕ} {n r r' : ℕ} → FormatsBy s n r t → FormatsBy s n r' t' → (r ≡ r') × (t ≡ t')
format_once a b = (a.number ∙ a.formats.number ∙ sym (b.number ∙ b.formats.number), a.formats.bytes ∙ sym b.formats.bytes)

pub audit_once : {s ms ns ns' : List ℕ} {r r' n n' : ℕ} → Bytes s → AuditsBy s ms r ns n → AuditsBy s ms r' ns' n' → (r ≡ r') × (ns ≡ ns') × (n ≡ n')
audit_once {s = s} {ms = ms} {ns = ns} {ns' = ns'} bs a b =
    let e : (a.answer ≡ b.answer) × (ns ≡ ns') = audit.audit_once s ms bs a.answer b.answer ns ns' a.audits b.audits in
    (a.number ∙ ap audit_number e.0 ∙ sym b.number, e.1, a.count ∙ ap audit_reached e.0 ∙ sym b.count)

pub batch_once : {s ms q t t' ns ns' : List ℕ} {r r' n n' : ℕ} → Bytes s → Bytes q → BatchesBy s ms q r t ns n → BatchesBy s ms q r' t' ns' n' → (r ≡ r') × (t ≡ t') × (ns ≡ ns') × (n ≡ n')
batch_once {s = s} {ms = ms} {q = q} {t = t} {t' = t'} {ns = ns} {ns' = ns'} bs bq a b =
    let e : (a.answer ≡ b.answer) × (t ≡ t') × (ns ≡ ns') = batch.batch_once s ms q a.answer t ns b.answer t' ns' bs bq a.batches b.batches in (
      a.number ∙ ap (λ (x : Batched). answer_number x.answer) e.0 ∙ sym b.number,
      e.1,
      e.2,
      a.count ∙ ap (λ (x : Batched). x.applied) e.0 ∙ sym b.count,
    )

pub parse_once : {text buffer left left' : List ℕ} {r r' n n' : ℕ} → ParsesBy text buffer r left n → ParsesBy text buffer r' left' n' → (r ≡ r') × (left ≡ left') × (n ≡ n')
parse_once {text = text} {buffer = buffer} {left = left} {left' = left'} a b =
    let e : (a.answer ≡ b.answer) × (left ≡ left') = lines.same_parse text buffer a.answer b.answer left left' a.parses b.parses in
    (a.number ∙ ap parsed_number e.0 ∙ sym b.number, e.1, a.length_is ∙ ap parsed_length e.0 ∙ sym b.length_is)

pub lines_once : {s ms buffer text t t' ns ns' left left' : List ℕ} {r r' n n' : ℕ} → Bytes s
    → ((rs : List (Rec ℕ)) → taken text (length buffer) ≡ some rs → Bytes (encode_records rs))
    → RunsLinesBy s ms buffer text r t ns left n → RunsLinesBy s ms buffer text r' t' ns' left' n' → (r ≡ r') × (t ≡ t') × (ns ≡ ns') × (left ≡ left') × (n ≡ n')
lines_once {s = s} {ms = ms} {buffer = buffer} {text = text} {t = t} {t' = t'} {ns = ns} {ns' = ns'} {left = left} {left' = left'} bs bq a b =
    let e : (a.answer ≡ b.answer) × (t ≡ t') × (ns ≡ ns') × (left ≡ left') = face.lines_once s ms buffer text a.answer t ns left b.answer t' ns' left' bs bq a.runs b.runs in (
      a.number ∙ ap (λ (x : Batched). answer_number x.answer) e.0 ∙ sym b.number,
      e.1,
      e.2,
      e.3,
      a.count ∙ ap (λ (x : Batched). x.applied) e.0 ∙ sym b.count,
    )

pub lookup_once : {l : Answer} {r r' p p' v v' : ℕ} → LooksUp l r p v → LooksUp l r' p' v' → (r ≡ r') × (p ≡ p') × (v ≡ v')
lookup_once a b = (a.number ∙ sym b.number, a.is_present ∙ sym b.is_present, a.value_is ∙ sym b.value_is)

-- one cursor is left
pub cursor_once : {m k n k' n' k'' n'' : ℕ} {c : Cursor} {w w' w'' : List ℕ} → Holds m c k n w k' n' w' → Holds m c k n w k'' n'' w'' → (k' ≡ k'') × (n' ≡ n'') × (w' ≡ w'')
cursor_once a b = (a.kind_is ∙ sym b.kind_is, a.length_is ∙ sym b.length_is, a.key_is ∙ sym b.key_is)

pub seek_once : {x : Sought} {k n r k' n' r' k'' n'' : ℕ} {w w' w'' : List ℕ} → Seeks x k n w r k' n' w' → Seeks x k n w r' k'' n'' w'' → (r ≡ r') × ((k' ≡ k'') × (n' ≡ n'') × (w' ≡ w''))
seek_once a b = (a.number ∙ sym b.number, cursor_once a.cursor b.cursor)

pub step_once : {x : Stepped} {k n r k' n' p v r' k'' n'' p' v' : ℕ} {w w' w'' : List ℕ} → Steps x k n w r k' n' w' p v → Steps x k n w r' k'' n'' w'' p' v' → (r ≡ r') × (p ≡ p') × (v ≡ v') × ((k' ≡ k'') × (n' ≡ n'') × (w' ≡ w''))
step_once a b = (a.number ∙ sym b.number, a.is_present ∙ sym b.is_present, a.value_is ∙ sym b.value_is, cursor_once a.cursor b.cursor)

pub node_once : {x : Places} {r n r' n' : ℕ} → ReadsNode x r n → ReadsNode x r' n' → (r ≡ r') × (n ≡ n')
node_once a b = (a.number ∙ sym b.number, a.count_is ∙ sym b.count_is)

pub separator_once : {x : Places} {i r s n v r' s' n' v' : ℕ} → ReadsSeparator x i r s n v → ReadsSeparator x i r' s' n' v' → (r ≡ r') × (s ≡ s') × (n ≡ n') × (v ≡ v')
separator_once a b = (a.number ∙ sym b.number, a.start_is ∙ sym b.start_is, a.length_is ∙ sym b.length_is, a.value_is ∙ sym b.value_is)

pub strict_once : {x : List ℕ} {r n p r' n' p' : ℕ} → ReadsStrict x r n p → ReadsStrict x r' n' p' → (r ≡ r') × (n ≡ n') × (p ≡ p')
strict_once a b = (a.number ∙ sym b.number, a.count_is ∙ sym b.count_is, a.place_is ∙ sym b.place_is)

pub separator_strict_once : {x : List ℕ} {i r s n v r' s' n' v' : ℕ} → ReadsSeparatorStrict x i r s n v → ReadsSeparatorStrict x i r' s' n' v' → (r ≡ r') × (s ≡ s') × (n ≡ n') × (v ≡ v')
separator_strict_once a b = (a.number ∙ sym b.number, a.start_is ∙ sym b.start_is, a.length_is ∙ sym b.length_is, a.value_is ∙ sym b.value_is)

pub write_once : {x : Node} {d t t' : List ℕ} {r n r' n' : ℕ} → WritesNode x d r t n → WritesNode x d r' t' n' → (r ≡ r') × (t ≡ t') × (n ≡ n')
write_once a b = (a.number ∙ sym b.number, a.bytes ∙ sym b.bytes, a.length_is ∙ sym b.length_is)
