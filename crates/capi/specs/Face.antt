-- What the exported functions answer and leave, told by the contracts of the functions that they call. An answer's number is 01's;
-- what stands beside the number lies in lent numbers, as the crate `lent` tells. Assumes nothing.
use Rattle.std.specs.Prelude.{◌≡◌, List, map, ℕ, Result}
use Rattle.node.specs.declared.Node.{Node}
use Rattle.codec.specs.declared.Places.{Places}
use Rattle.codec.specs.Codec.{ending_number}
use Rattle.node.specs.Chain.{value_of, child_of}
use Rattle.codec.specs.Layout.{places_of, written_of, left_by, written_number, written_length}
use Rattle.codec.specs.Strict.{strict_number, strict_end, standard_of}
use Rattle.slots.specs.declared.FormatError.{FormatError}
use Rattle.slots.specs.Code.{format_number, Formats}
use Rattle.audit.specs.Contract.{Verdict, audit_number, audit_reached, Audits}
use Rattle.batch.specs.declared.Batched.{Batched}
use Rattle.batch.specs.Contract.{answer_number, Batches}
use Rattle.iter.specs.declared.Sought.{Sought}
use Rattle.iter.specs.Answer.{Answer}
use Rattle.iter.specs.Walk.{lookup_number}
use Rattle.iter.specs.Cursor.{sought_number}
use Rattle.lines.specs.Parses.{Parsed, parsed_number, parsed_length, Parses}
use Rattle.cikolaro.specs.Contract.{RunsLines}
use Rattle.lent.specs.Lent.{present_of, found_value, Holds, within}

-- Of store bytes s and a count n: the number r, and the bytes t afterwards.
pub record FormatsBy (s : List ℕ) (n r : ℕ) (t : List ℕ) : Type 0 where
  pub answer : Result (Unit {0}) FormatError
  pub formats : Formats s n answer t
  pub number : r ≡ format_number answer

-- Of store bytes s and lent words ms: the number r, the words ns afterwards and how many slots are reached.
pub record AuditsBy (s ms : List ℕ) (r : ℕ) (ns : List ℕ) (reached : ℕ) : Type 0 where
  pub answer : Verdict
  pub audits : Audits s ms answer ns
  pub number : r ≡ audit_number answer
  pub count : reached ≡ audit_reached answer

-- Of store bytes s, lent words ms and records q: the number r, the bytes t and the words ns afterwards, and "records applied".
pub record BatchesBy (s ms q : List ℕ) (r : ℕ) (t ns : List ℕ) (applied : ℕ) : Type 0 where
  pub answer : Batched
  pub batches : Batches s ms q answer t ns
  pub number : r ≡ answer_number answer.answer
  pub count : applied ≡ answer.applied

-- ---- house lines

-- Of a text and a lent record buffer: the number r, the buffer afterwards, and how many bytes the records have, 0 if refused.
pub record ParsesBy (text buffer : List ℕ) (r : ℕ) (left : List ℕ) (len : ℕ) : Type 0 where
  pub answer : Parsed
  pub parses : Parses text buffer answer left
  pub number : r ≡ parsed_number answer
  pub length_is : len ≡ parsed_length answer

-- Of store bytes s, lent words ms, a lent record buffer and a text: the number r, the store t, the words ns and the buffer
-- afterwards, and "records applied".
pub record RunsLinesBy (s ms buffer text : List ℕ) (r : ℕ) (t ns left : List ℕ) (applied : ℕ) : Type 0 where
  pub answer : Batched
  pub runs : RunsLines s ms buffer text answer t ns left
  pub number : r ≡ answer_number answer.answer
  pub count : applied ≡ answer.applied

-- ---- lookup

-- Of a lookup's answer a: the number r, whether a value is present, and the value.
pub record LooksUp (a : Answer) (r present value : ℕ) : Type 0 where
  pub number : r ≡ lookup_number a
  pub is_present : present ≡ present_of a
  pub value_is : value ≡ found_value a

-- ---- the cursor

-- Of a seek's answer a: the number r, and the lent cursor.
pub record Seeks (a : Sought) (kind n : ℕ) (key : List ℕ) (r kind' n' : ℕ) (key' : List ℕ) : Type 0 where
  pub number : r ≡ sought_number a
  pub cursor : Holds (sought_number a) a.cursor kind n key kind' n' key'

-- ---- node bytes

-- Of node bytes read as p: the number r, "Reading a separator: 12, 13, 14, end at value 0, 4" and 11, and how many separators there are.
-- "A refused reading gives the node with no separator and no child."
pub record ReadsNode (p : Places) (r count : ℕ) : Type 0 where
  pub number : r ≡ ending_number p.ending
  pub count_is : count ≡ p.count

-- The same, and separator i: where its key stands in the bytes, and its value. All are 0 for a separator that isn't there.
pub record ReadsSeparator (p : Places) (i r start len value : ℕ) : Type 0 where
  pub number : r ≡ ending_number p.ending
  pub start_is : start ≡ within 7 p.starts i 0
  pub length_is : len ≡ within 7 p.lens i 0
  pub value_is : value ≡ (within 7 p.values i (value_of 0)).0

-- Of node bytes s by the strict reading: the number r, in a separator 12, 13, 14, 18, 19, 4, and 11 and 20; how many separators there
-- are, 0 if refused; and where it stopped.
pub record ReadsStrict (s : List ℕ) (r count place : ℕ) : Type 0 where
  pub number : r ≡ strict_number (strict_end s).ending
  pub count_is : count ≡ (places_of (standard_of s)).count
  pub place_is : place ≡ (strict_end s).at

-- The same number, and separator i, as `ReadsSeparator` has it of the lenient reading.
pub record ReadsSeparatorStrict (s : List ℕ) (i r start len value : ℕ) : Type 0 where
  pub number : r ≡ strict_number (strict_end s).ending
  pub start_is : start ≡ within 7 (places_of (standard_of s)).starts i 0
  pub length_is : len ≡ within 7 (places_of (standard_of s)).lens i 0
  pub value_is : value ≡ (within 7 (places_of (standard_of s)).values i (value_of 0)).0

-- The node that lies in lent numbers and bytes, whatever they hold.
abbrev pub lent_node : ℕ → List ℕ → List ℕ → List ℕ → List ℕ → Node
lent_node count children values lens keys = record { count = count; children = map child_of children; values = map value_of values; lens = lens; keys = keys }

-- Of a node n and a destination d: the number r, "Writing: 16, 4 for any separator, 5 for any, 10", the destination afterwards, and
-- "its length (0 if refused)".
pub record WritesNode (n : Node) (d : List ℕ) (r : ℕ) (left : List ℕ) (written : ℕ) : Type 0 where
  pub number : r ≡ written_number (written_of n d)
  pub bytes : left ≡ left_by (written_of n d) n d
  pub length_is : written ≡ written_length (written_of n d)
