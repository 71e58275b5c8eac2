-- A batch's records: its runs, and what it makes of entries. Assumes nothing.
use Rattle.std.specs.Prelude.{List, [], ◌∷◌, cond, ℕ, suc}
use Rattle.std.proofs.Math.Option.{Option}
use Rattle.std.proofs.Math.Dec.{compare_is_eq}
use Rattle.word.specs.Key.{Key, cmp, pick3, Lt}
use Rattle.tree.specs.Map.{Sep, entry_of, replace}

-- "kind (1 set, 2 dereference)": a set has a value
pub record Rec (A : Type 0) : Type 0 where
  pub key : Key
  pub op : Option A

-- "a run of equal keys acts as its last record": that record, and how many the run has
pub record Run (A : Type 0) : Type 0 where
  pub acts : Rec A
  pub size : ℕ

module _ {A : Type 0} where
  -- ---- what records make of entries

  -- a set is `put`, a dereference `remove`
  abbrev pub change : Key → Option A → List (Sep A) → List (Sep A)
  change k o es = replace k (entry_of k o) es

  abbrev pub apply_all : List (Rec A) → List (Sep A) → List (Sep A)
  apply_all [] es = es
  apply_all (r ∷ rs) es = apply_all rs (change r.key r.op es)

  -- the same told for one key: its last change, or what was there before
  abbrev pub last_change : Key → List (Rec A) → Option A → Option A
  last_change k [] v = v
  last_change k (r ∷ rs) v = last_change k rs (cond (compare_is_eq (cmp k r.key)) r.op v)

  -- ---- runs

  abbrev pub with_run : Rec A → List (Run A) → List (Run A)
  with_run r [] = record { acts = r; size = 1 } ∷ []
  with_run r (q ∷ qs) = cond (compare_is_eq (cmp r.key q.acts.key))
      (record { acts = q.acts; size = suc q.size } ∷ qs)
      (record { acts = r; size = 1 } ∷ q ∷ qs)

  abbrev pub runs_of : List (Rec A) → List (Run A)
  runs_of [] = []
  runs_of (r ∷ rs) = with_run r (runs_of rs)

  -- "Keys never fall"
  abbrev pub NoneBelow : Key → List (Rec A) → Type 0
  NoneBelow k [] = Unit {0}
  NoneBelow k (r ∷ rs) = (Lt r.key k → ⊥) × NoneBelow k rs

  abbrev pub NeverFall : List (Rec A) → Type 0
  NeverFall [] = Unit {0}
  NeverFall (r ∷ rs) = NoneBelow r.key rs × NeverFall rs

  -- ---- "one merged batch .., B winning where both name a key": a goes in before the first record of B above it, and not
  -- at all if B names its key

  abbrev pub into : Rec A → (List (Rec A) → List (Rec A)) → List (Rec A) → List (Rec A)
  into a rest [] = a ∷ rest []
  into a rest (b ∷ bs) = pick3 (cmp a.key b.key) (a ∷ rest (b ∷ bs)) (rest (b ∷ bs)) (b ∷ into a rest bs)

  abbrev pub merge : List (Rec A) → List (Rec A) → List (Rec A)
  merge [] bs = bs
  merge (a ∷ xs) bs = into a (merge xs) bs
