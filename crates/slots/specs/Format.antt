-- What formatting leaves. "Formatting takes a count, ignores the old bytes (refusal 1 for size or count only) and chains 1, 2,
-- ... in order." Assumes nothing.
use Rattle.std.specs.Prelude.{List, [], ◌++◌, ℕ, zero, suc}
use Rattle.slots.specs.Layout.{header, idle}

-- the slot behind i in a chain of which k more follow; 0 behind the last
abbrev pub next_slot : ℕ → ℕ → ℕ
next_slot i zero = 0
next_slot i (suc k) = suc i

-- k free slots from i on, each naming the next
abbrev pub blanks : ℕ → ℕ → List ℕ
blanks i zero = []
blanks i (suc k) = idle (next_slot i k) ++ blanks (suc i) k

-- no root, depth 0, n slots, the first of them the first free
unfoldable pub fresh : ℕ → List ℕ
fresh n = header 0 0 n 1 ++ blanks 1 n
