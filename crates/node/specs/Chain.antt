-- A node's contents as a chain, a first child, then separators, each with the child right of it; what of that can be written; and
-- the struct of a chain. Assumes nothing.
use Rattle.std.specs.Prelude.{List, [], ◌∷◌, ◌++◌, map, ℕ, zero, suc, ◌+◌, ◌*◌, ◌-◌, ◌^◌, ◌≤◌, ◌<◌, length, get_or, replicate}
use Rattle.word.specs.Part.{part}
use Rattle.word.specs.Num.{Bytes}
use Rattle.tree.specs.Map.{Sep}
use Rattle.node.specs.declared.Value.{Value}
use Rattle.node.specs.declared.Child.{Child}
use Rattle.node.specs.declared.Node.{Node}

-- a separator and the child behind it
abbrev pub Step : Type 0
Step = Sep ℕ × ℕ

-- "Keys here: 0 to 288 bytes."
abbrev pub longest_key : ℕ
longest_key = 288

-- what can be written: a key of bytes that is not too long, a value that is not 0
pub record Fit (e : Sep ℕ) : Type 0 where
  pub bytes : Bytes e.key
  pub short : length e.key ≤ longest_key
  pub there : 0 < e.val
  pub small : e.val < 2 ^ 64

abbrev pub FitAll : List Step → Type 0
FitAll [] = Unit {0}
FitAll (x ∷ r) = Fit x.0 × (x.1 < 2 ^ 64) × FitAll r

pub record Writable (c : ℕ) (r : List Step) : Type 0 where
  pub first : c < 2 ^ 64
  pub rest : FitAll r
  pub most : length r ≤ 8

-- ---- the struct

-- l, and as many z as make it n
unfoldable pub padded : {A : Type 0} → ℕ → A → List A → List A
padded n z l = l ++ replicate (n - length l) z

abbrev pub value_of : ℕ → Value
value_of x = record { 0 = x }

abbrev pub child_of : ℕ → Child
child_of x = record { 0 = x }

-- each key in 288 bytes
unfoldable pub blocks : List Step → List ℕ
blocks [] = []
blocks (x ∷ r) = padded 288 0 x.0.key ++ blocks r

-- the node of a chain of at most 8 separators; "one flat key array of 2,304 bytes, zeros at first"
unfoldable pub node_of : ℕ → List Step → Node
node_of c r = record {
  count = length r;
  children = padded 9 (child_of 0) (child_of c ∷ map (λ (x : Step). child_of x.1) r);
  values = padded 8 (value_of 0) (map (λ (x : Step). value_of x.0.val) r);
  lens = padded 8 0 (map (λ (x : Step). length x.0.key) r);
  keys = padded 2304 0 (blocks r);
}

-- the separators of a node from i on, k of them, each with the child behind it
abbrev pub steps_from : Node → ℕ → ℕ → List Step
steps_from n i zero = []
steps_from n i (suc k) =
    (record { key = part n.keys (288 * i) (get_or n.lens i 0); val = (get_or n.values i (value_of 0)).0 }, (get_or n.children (i + 1) (child_of 0)).0)
    ∷ steps_from n (i + 1) k

-- "children past the separators plus one, and lengths and key bytes that no separator uses, are dropped"
unfoldable pub steps_of : Node → List Step
steps_of n = steps_from n 0 n.count

unfoldable pub first_of : Node → ℕ
first_of n = (get_or n.children 0 (child_of 0)).0

-- the node that is left when those are dropped
unfoldable pub trimmed : Node → Node
trimmed n = node_of (first_of n) (steps_of n)
