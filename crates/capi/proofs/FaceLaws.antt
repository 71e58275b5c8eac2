-- Each way through this crate's functions. Assumes nothing.
use mathlib.Core.Path.{◌≡◌, ap, subst, ◌∙◌}
use mathlib.Core.List.{List, map}
use Prim.Native.Nat.{ℕ}
use Rattle.node.specs.declared.Child.{Child}
use Rattle.node.specs.declared.Value.{Value}
use Rattle.node.specs.declared.Node.{Node}
use Rattle.codec.specs.declared.Places.{Places}
use Rattle.codec.specs.declared.Stopped.{Stopped}
use Rattle.std.specs.Prelude.{Result}
use Rattle.codec.specs.declared.WriteError.{WriteError}
use Rattle.codec.specs.Codec.{ending_number}
use Rattle.node.specs.Chain.{value_of, child_of}
use Rattle.codec.specs.Layout.{places_of, written_of, left_by, written_number, written_length}
use Rattle.codec.specs.Strict.{strict_number, strict_end, standard_of}
use Rattle.lent.specs.Lent.{within}
use Rattle.capi.specs.Face.{ReadsNode, ReadsSeparator, ReadsStrict, ReadsSeparatorStrict, lent_node, WritesNode}

-- ---- node bytes

pub reads_separator : {p q : Places} {i r s n v : ℕ} → q ≡ p → s ≡ within 7 q.starts i 0 → n ≡ within 7 q.lens i 0 → v ≡ (within 7 q.values i (value_of 0)).0 → r ≡ ending_number q.ending → ReadsSeparator p i r s n v
reads_separator {i = i} {r = r} {s = s} {n = n} {v = v} e f g h k = subst (λ (x : Places). ReadsSeparator x i r s n v) e (record { number = k; start_is = f; length_is = g; value_is = h })

pub reads_child : {p q : Places} {r : ℕ} (i : ℕ) → q ≡ p → r ≡ (within 8 q.children i (child_of 0)).0 → r ≡ (within 8 p.children i (child_of 0)).0
reads_child {r = r} i e f = subst (λ (x : Places). r ≡ (within 8 x.children i (child_of 0)).0) e f

pub reads_node : {p q : Places} {r n : ℕ} → q ≡ p → n ≡ q.count → r ≡ ending_number q.ending → ReadsNode p r n
reads_node {r = r} {n = n} e f g = subst (λ (x : Places). ReadsNode x r n) e (record { number = g; count_is = f })

-- the same by the strict reading
pub reads_strict : {s : List ℕ} {p : Places} {t : Stopped} {r n at : ℕ} → p ≡ places_of (standard_of s) → n ≡ p.count → t ≡ strict_end s → at ≡ t.at → r ≡ strict_number t.ending → ReadsStrict s r n at
reads_strict e f g h k = record {
  number = k ∙ ap (λ (x : Stopped). strict_number x.ending) g;
  count_is = f ∙ ap (λ (x : Places). x.count) e;
  place_is = h ∙ ap (λ (x : Stopped). x.at) g;
}

pub reads_separator_strict : {s : List ℕ} {p : Places} {t : Stopped} {i r n m v : ℕ} → p ≡ places_of (standard_of s)
    → n ≡ within 7 p.starts i 0 → m ≡ within 7 p.lens i 0 → v ≡ (within 7 p.values i (value_of 0)).0
    → t ≡ strict_end s → r ≡ strict_number t.ending → ReadsSeparatorStrict s i r n m v
reads_separator_strict {i = i} e f g h q k = record {
  number = k ∙ ap (λ (x : Stopped). strict_number x.ending) q;
  start_is = f ∙ ap (λ (x : Places). within 7 x.starts i 0) e;
  length_is = g ∙ ap (λ (x : Places). within 7 x.lens i 0) e;
  value_is = h ∙ ap (λ (x : Places). (within 7 x.values i (value_of 0)).0) e;
}

-- ---- a node to be written

abbrev node_with : ℕ → List ℕ → List ℕ → List Child → List Value → Node
node_with count lens keys cs vs = record { count = count; children = cs; values = vs; lens = lens; keys = keys }

written_by : {n : Node} {a : Result ℕ WriteError} {r w : ℕ} {d d' : List ℕ} → (a ≡ written_of n d) × (d' ≡ left_by (written_of n d) n d) → w ≡ written_length a → r ≡ written_number a → WritesNode n d r d' w
written_by e f g = record { number = g ∙ ap written_number e.0; bytes = e.1; length_is = f ∙ ap written_length e.0 }

pub writes : (children values : List ℕ) {lens keys : List ℕ} {count r w : ℕ} {cs : List Child} {vs : List Value} {a : Result ℕ WriteError} {d d' : List ℕ} → cs ≡ map child_of children → vs ≡ map value_of values
    → (a ≡ written_of (node_with count lens keys cs vs) d) × (d' ≡ left_by (written_of (node_with count lens keys cs vs) d) (node_with count lens keys cs vs) d)
    → w ≡ written_length a → r ≡ written_number a → WritesNode (lent_node count children values lens keys) d r d' w
writes children values {lens = lens} {keys = keys} {count = count} {r = r} {w = w} {vs = vs} {d = d} {d' = d'} e f g h k =
    subst (λ (x : List Value). WritesNode (node_with count lens keys (map child_of children) x) d r d' w) f
    (subst (λ (x : List Child). WritesNode (node_with count lens keys x vs) d r d' w) e (written_by g h k))
