-- "Show that any two results allowed by one such statement are the same": what `Parses` and
-- `Writes` allow is one. Assumes nothing.
use mathlib.Core.Path.{◌≡◌, refl, sym, ap, ◌∙◌}
use mathlib.Core.List.{List}
use mathlib.Core.Bool.{Bool, true, false}
use mathlib.Core.Option.{Option, none, some}
use Prim.Native.Nat.{ℕ}
use lib.ListN.{length}
use lib.Dec.{leb}
use native.Mathlib.Omega.{arith}
use Rattle.tree.specs.Batch.{Rec}
use Rattle.std.specs.Prelude.{Option as Maybe, Ok, Err}
use Rattle.lines.specs.declared.ParseError.TheVariants.{BadText}
use Rattle.lines.specs.Parses.{Parsed, parsed_number, parsed_length, taken, Leaves, Parses}
use Rattle.lines.specs.Written.{WritesIn, Writes}

-- an answer is told by its number and its length
parsed_is : (p q : Parsed) → parsed_number p ≡ parsed_number q → parsed_length p ≡ parsed_length q → p ≡ q
parsed_is (Ok m) (Ok n) e f = ap Ok f
parsed_is (Ok m) (Err BadText) e f = absurd (omega arith)
parsed_is (Err BadText) (Ok n) e f = absurd (omega arith)
parsed_is (Err BadText) (Err BadText) e f = refl

leaves_same : (o : Option (List (Rec ℕ))) (room : ℕ) (p q : Parsed) (a b : List ℕ) → Leaves o room p a → Leaves o room q b → (p ≡ q) × (a ≡ b)
unfolding Leaves
leaves_same none room p q a b l m = (parsed_is p q (l.0 ∙ sym m.0) (l.1 ∙ sym m.1), l.2 ∙ sym m.2)
leaves_same (some rs) room p q a b l m = (parsed_is p q (l.0 ∙ sym m.0) (l.1 ∙ sym m.1), l.2 ∙ sym m.2)

pub same_parse : (text buffer : List ℕ) (p q : Parsed) (a b : List ℕ) → Parses text buffer p a → Parses text buffer q b → (p ≡ q) × (a ≡ b)
same_parse text buffer p q a b l m = leaves_same (taken text (length buffer)) (length buffer) p q a b l m

in_same : (b : Bool) (line dst : List ℕ) (m n : Maybe ℕ) (s t : List ℕ) → WritesIn b line dst m s → WritesIn b line dst n t → (m ≡ n) × (s ≡ t)
in_same true line dst m n s t l k = (l.0 ∙ sym k.0, l.1 ∙ sym k.1)
in_same false line dst m n s t l k = (l.0 ∙ sym k.0, l.1 ∙ sym k.1)

pub same_writes : (line dst : List ℕ) (m n : Maybe ℕ) (s t : List ℕ) → Writes line dst m s → Writes line dst n t → (m ≡ n) × (s ≡ t)
unfolding Writes
same_writes line dst m n s t l k = in_same (leb (length line) (length dst)) line dst m n s t l k
