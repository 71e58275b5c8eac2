-- A store's entries are a map: separators in a list, their keys strictly rising. Here are the map and its three operations.
-- Read these files in the order Map, Tree, Free, Lookup, Set, Remove, State, Batch, Run, Walk. Assumes nothing.
use Rattle.std.specs.Prelude.{List, [], ◌∷◌, ◌++◌}
use Rattle.std.proofs.Math.Option.{Option, none, some}
use Rattle.word.specs.Key.{Key, cmp, pick3, Lt}

-- "A separator is a value address .., a length byte, the key." `A` is what it carries beside its key.
pub record Sep (A : Type 0) : Type 0 where
  pub key : Key
  pub val : A

module _ {A : Type 0} where
  -- the entries with new standing for k: new is an entry of k, or nothing
  abbrev pub replace : Key → List (Sep A) → List (Sep A) → List (Sep A)
  replace k new [] = new
  replace k new (s ∷ l) = pick3 (cmp k s.key) (new ++ (s ∷ l)) (new ++ l) (s ∷ replace k new l)

  -- a value that k is to have, or none
  abbrev pub entry_of : Key → Option A → List (Sep A)
  entry_of k none = []
  entry_of k (some v) = record { key = k; val = v } ∷ []

  -- "Set, present: value replaced", and a new entry otherwise.
  abbrev pub put : Sep A → List (Sep A) → List (Sep A)
  put e es = replace e.key (e ∷ []) es

  -- "Dereference, present: removed .. Absent: nothing."
  abbrev pub remove : Key → List (Sep A) → List (Sep A)
  remove k es = replace k [] es

  -- The value of a key. "'Absent' is its own answer."
  abbrev pub get : Key → List (Sep A) → Option A
  get k [] = none
  get k (s ∷ l) = pick3 (cmp k s.key) none (some s.val) (get k l)

  -- "keys strictly increase over the whole tree read in order"
  abbrev pub AllBelow : List (Sep A) → Key → Type 0
  AllBelow [] k = Unit {0}
  AllBelow (s ∷ l) k = Lt s.key k × AllBelow l k

  abbrev pub AllAbove : Key → List (Sep A) → Type 0
  AllAbove k [] = Unit {0}
  AllAbove k (s ∷ l) = Lt k s.key × AllAbove k l

  abbrev pub Rising : List (Sep A) → Type 0
  Rising [] = Unit {0}
  Rising (s ∷ l) = AllAbove s.key l × Rising l
