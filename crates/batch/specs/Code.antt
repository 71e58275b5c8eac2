-- The code's answers, as it goes about them: a proof device. Assumes nothing.
use Rattle.std.specs.Prelude.{ℕ, Ok, Err}
use Rattle.changes.specs.declared.RecordError.{RecordError}
use Rattle.changes.specs.declared.RecordError.TheVariants as records
use Rattle.outcome.specs.RunMirror as M
use Rattle.outcome.specs.RunMirror.{Ended}
use Rattle.batch.specs.declared.BatchError.{BatchError}
use Rattle.batch.specs.declared.BatchError.TheVariants.{Short, LongKey, BadValue, Falls, TooMany, Fails, NoRoom}
use Rattle.batch.specs.declared.Batched.{Batched}

abbrev pub refused_with : BatchError → Batched
refused_with e = record { answer = Err e; applied = 0 }

abbrev pub of_record_error : RecordError → BatchError
of_record_error records.Short = Short
of_record_error records.LongKey = LongKey
of_record_error records.BadValue = BadValue
of_record_error records.Falls = Falls
of_record_error records.TooMany = TooMany

-- by how the runs ended
abbrev pub ended_with : M.Acted → ℕ → Batched
ended_with M.done n = record { answer = Ok tt; applied = n }
ended_with M.bad n = refused_with Fails
ended_with M.no_room n = record { answer = Err NoRoom; applied = n }

abbrev pub batched_of : Ended → Batched
batched_of g = ended_with g.out g.applied
