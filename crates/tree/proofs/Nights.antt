-- 01's known nights marked P that speak of trees, as one statement over a table. "Keys are single bytes 1, 2, ..., from a fresh
-- store": formatted, without a root. Here each key's value is the key. Assumes nothing.
use mathlib.Core.Path.{◌≡◌, refl}
use mathlib.Core.List.{List, [], ◌∷◌, map}
use mathlib.Core.Bool.{true}
use Prim.Native.Nat.{ℕ}
use Rattle.tree.specs.Free.{slots_from}
use Rattle.tree.specs.Batch.{Rec}
use Rattle.tree.proofs.Table.{Case, set, del, all_hold}

abbrev pub sets : List ℕ → List (Rec ℕ)
sets ks = map (λ (k : ℕ). set k k) ks

-- m keys from k on
abbrev pub keys : ℕ → ℕ → List ℕ
keys k m = slots_from k m

abbrev pub nights : List Case
nights =
    -- "1 to 9 set: left 1..4, root 5, right 6..9; slots 1, 3, 2."
    record {
      count = 5;
      batches = sets (keys 1 9) ∷ [];
      answers = 0 ∷ 9 ∷ [];
      depth = 1;
      tree = 3 ∷ 1 ∷ 1 ∷ 1 ∷ 2 ∷ 2 ∷ 3 ∷ 3 ∷ 4 ∷ 4 ∷ 0 ∷ 5 ∷ 5 ∷ 2 ∷ 6 ∷ 6 ∷ 7 ∷ 7 ∷ 8 ∷ 8 ∷ 9 ∷ 9 ∷ 0 ∷ 0 ∷ [];
      free = 4 ∷ 5 ∷ [];
    }
    -- "1..4,6..9, then 5: the same shape."
    ∷ record {
      count = 5;
      batches = sets (1 ∷ 2 ∷ 3 ∷ 4 ∷ 6 ∷ 7 ∷ 8 ∷ 9 ∷ []) ∷ sets (5 ∷ []) ∷ [];
      answers = 0 ∷ 8 ∷ 0 ∷ 1 ∷ [];
      depth = 1;
      tree = 3 ∷ 1 ∷ 1 ∷ 1 ∷ 2 ∷ 2 ∷ 3 ∷ 3 ∷ 4 ∷ 4 ∷ 0 ∷ 5 ∷ 5 ∷ 2 ∷ 6 ∷ 6 ∷ 7 ∷ 7 ∷ 8 ∷ 8 ∷ 9 ∷ 9 ∷ 0 ∷ 0 ∷ [];
      free = 4 ∷ 5 ∷ [];
    }
    -- "1 to 9 as one batch in two slots: 9, applied 8."
    ∷ record {
      count = 2;
      batches = sets (keys 1 9) ∷ [];
      answers = 9 ∷ 8 ∷ [];
      depth = 0;
      tree = 1 ∷ 1 ∷ 1 ∷ 2 ∷ 2 ∷ 3 ∷ 3 ∷ 4 ∷ 4 ∷ 5 ∷ 5 ∷ 6 ∷ 6 ∷ 7 ∷ 7 ∷ 8 ∷ 8 ∷ 0 ∷ [];
      free = 2 ∷ [];
    }
    -- "from that tree, remove 9: one leaf 1..8, depth 0, the free chain beginning 3, 2, 4 (four or more slots)."
    ∷ record {
      count = 4;
      batches = sets (keys 1 9) ∷ (del 9 ∷ []) ∷ [];
      answers = 0 ∷ 9 ∷ 0 ∷ 1 ∷ [];
      depth = 0;
      tree = 1 ∷ 1 ∷ 1 ∷ 2 ∷ 2 ∷ 3 ∷ 3 ∷ 4 ∷ 4 ∷ 5 ∷ 5 ∷ 6 ∷ 6 ∷ 7 ∷ 7 ∷ 8 ∷ 8 ∷ 0 ∷ [];
      free = 3 ∷ 2 ∷ 4 ∷ [];
    }
    -- "remove 5: leaf 1..4,6..9."
    ∷ record {
      count = 4;
      batches = sets (keys 1 9) ∷ (del 5 ∷ []) ∷ [];
      answers = 0 ∷ 9 ∷ 0 ∷ 1 ∷ [];
      depth = 0;
      tree = 1 ∷ 1 ∷ 1 ∷ 2 ∷ 2 ∷ 3 ∷ 3 ∷ 4 ∷ 4 ∷ 6 ∷ 6 ∷ 7 ∷ 7 ∷ 8 ∷ 8 ∷ 9 ∷ 9 ∷ 0 ∷ [];
      free = 3 ∷ 2 ∷ 4 ∷ [];
    }
    -- "with 10 added, remove 1: 2..5, root 6, 7..10."
    ∷ record {
      count = 4;
      batches = sets (keys 1 9) ∷ sets (10 ∷ []) ∷ (del 1 ∷ []) ∷ [];
      answers = 0 ∷ 9 ∷ 0 ∷ 1 ∷ 0 ∷ 1 ∷ [];
      depth = 1;
      tree = 3 ∷ 1 ∷ 2 ∷ 2 ∷ 3 ∷ 3 ∷ 4 ∷ 4 ∷ 5 ∷ 5 ∷ 0 ∷ 6 ∷ 6 ∷ 2 ∷ 7 ∷ 7 ∷ 8 ∷ 8 ∷ 9 ∷ 9 ∷ 10 ∷ 10 ∷ 0 ∷ 0 ∷ [];
      free = 4 ∷ [];
    }
    -- "Set then del of one key in one batch: an empty root."
    ∷ record { count = 3; batches = (set 7 7 ∷ del 7 ∷ []) ∷ []; answers = 0 ∷ 2 ∷ []; depth = 0; tree = 1 ∷ 0 ∷ []; free = 2 ∷ 3 ∷ [] }
    -- "an accepted batch, even an empty one, first writes an empty root"
    ∷ record { count = 3; batches = [] ∷ []; answers = 0 ∷ 0 ∷ []; depth = 0; tree = 1 ∷ 0 ∷ []; free = 2 ∷ 3 ∷ [] }
    ∷ []

pub known_nights : all_hold nights ≡ true
known_nights = refl
