-- 01, "A batch": "a run of equal keys acts as its last record". The run at a place: where its last record stands, the place
-- behind it, and how many records it has. Assumes nothing.
use Rattle.std.specs.Prelude.{List, Bool, false, ℕ, zero, suc}
use Rattle.std.proofs.Math.Dec.{compare_is_eq}
use Rattle.word.specs.Pick.{pick}
use Rattle.word.specs.Key.{Key, cmp}
use Rattle.changes.specs.declared.Run.{Run}
use Rattle.changes.specs.Records.{key_at, next_at, stands_at}

module _ (s : List ℕ) where
  unfoldable pub has_key : ℕ → Key → Bool
  has_key at key = pick (stands_at s at) (compare_is_eq (cmp (key_at s at) key)) false

  -- the record at `last` is the size-th of the run, and k more may come
  unfoldable pub run_from : ℕ → Key → ℕ → ℕ → Run
  run_from zero key last size = record { last = last; next = next_at s last; size = size }
  run_from (suc k) key last size =
      pick (has_key (next_at s last) key)
      (run_from k key (next_at s last) (suc size))
      (record { last = last; next = next_at s last; size = size })

  -- 65,534 may follow the first, since a batch has at most 65,535; no run, where no whole record stands
  unfoldable pub run_at : ℕ → Run
  run_at at = pick (stands_at s at) (run_from 65534 (key_at s at) at 1) (record { last = at; next = at; size = 0 })
