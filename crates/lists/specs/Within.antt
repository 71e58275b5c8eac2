-- What the contracts of the places in a block cite. Assumes nothing.
use Rattle.std.specs.Prelude.{ℕ, ◌≤◌, List, length}
use Rattle.lists.specs.declared.Span.{Span}

-- the span is a part of s
abbrev pub Within : List ℕ → Span → Type 0
Within s p = (p.start ≤ p.end) × (p.end ≤ length s)
