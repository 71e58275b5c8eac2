-- What running house lines answers for all inputs, and what every lent byte and word holds afterwards. The other functions of the
-- face have the contracts of the crates that they are from. Assumes nothing.
use Rattle.std.specs.Prelude.{◌≡◌, List, ◌++◌, ℕ, ◌-◌, length}
use Rattle.std.proofs.Math.Option.{none, some}
use Rattle.word.specs.Num.{zeros}
use Rattle.tree.specs.Batch.{Rec}
use Rattle.changes.specs.Records.{encode_records}
use Rattle.lines.specs.Parses.{taken}
use Rattle.batch.specs.declared.Batched.{Batched}
use Rattle.batch.specs.Contract.{Refuses, Batches}

-- Of store bytes s, lent words ms, a lent record buffer and a text: the answer r, and the store t, the words ns and the buffer
-- afterwards. "Any 15 comes before the batch's own refusals."
pub record RunsLines (s ms buffer text : List ℕ) (r : Batched) (t ns left : List ℕ) : Type 0 where
  -- "15 | bad text line, or too much text | store unchanged; a lent record buffer zero"
  pub bad_text : taken text (length buffer) ≡ none → Refuses s r t ns 15 ms × (left ≡ zeros (length buffer))
  -- otherwise the records that the lines say are run as one batch
  pub runs : (rs : List (Rec ℕ)) → taken text (length buffer) ≡ some rs
      → Batches s ms (encode_records rs) r t ns × (left ≡ encode_records rs ++ zeros (length buffer - length (encode_records rs)))
