-- What the edits make of any node, whatever its arrays hold: their contracts cite it. On the node of a chain they are the edits
-- of specs/Edit.antt, which is what callers use: proofs/EditLaws.antt. Assumes nothing.
use Rattle.std.specs.Prelude.{List, [], ◌∷◌, ◌++◌, ℕ, ◌+◌, ◌*◌, ◌-◌, get_or, take, drop, set, leb, ltb}
use Rattle.word.specs.Pick.{pick}
use Rattle.word.specs.Part.{part, over}
use Rattle.word.specs.Num.{zeros}
use Rattle.word.specs.At.{fits_in}
use Rattle.node.specs.declared.Child.{Child}
use Rattle.node.specs.declared.Node.{Node}
use Rattle.node.specs.declared.Separator.{Separator}
use Rattle.node.specs.declared.edit.Halves.{Halves}
use Rattle.node.specs.Chain.{padded, child_of, value_of}
use Rattle.node.specs.Edit.{inserted, removed, insert_at, remove_at, separator_of}

-- stores one after the other, from i on
abbrev pub fill : {A : Type 0} → List A → ℕ → List A → List A
fill l i [] = l
fill l i (x ∷ xs) = fill (set l i x) (i + 1) xs

-- ---- one place read or set

unfoldable pub sep_at : Node → ℕ → Separator
sep_at n i =
    pick (ltb i 8)
    (record { value = get_or n.values i (value_of 0); len = get_or n.lens i 0; key = part n.keys (288 * i) 288 })
    (separator_of (record { key = []; val = 0 }))

unfoldable pub with_separator : Node → ℕ → Separator → Node
with_separator n i e =
    pick (ltb i 8)
    (record { count = n.count; children = n.children; values = set n.values i e.value; lens = set n.lens i e.len; keys = over n.keys (288 * i) e.key })
    n

unfoldable pub with_child : Node → ℕ → Child → Node
with_child n i c = record { count = n.count; children = set n.children i c; values = n.values; lens = n.lens; keys = n.keys }

-- ---- one more

-- the separator e at i and the child c at j, where there is room; the last place is pushed out
unfoldable pub opened : Node → ℕ → ℕ → Separator → Child → Node
opened n i j e c =
    pick (ltb n.count 8)
    (record {
      count = n.count + 1;
      children = take 9 (insert_at j c n.children);
      values = take 8 (insert_at i e.value n.values);
      lens = take 8 (insert_at i e.len n.lens);
      keys = take 2304 (inserted (288 * i) e.key n.keys);
    })
    n

unfoldable pub inserted_at : Node → ℕ → Separator → Child → Node
inserted_at n i e c = pick (leb i n.count) (opened n i (i + 1) e c) n

-- ---- one less

-- the separator at i and the child at j go; zeros come in at the end
unfoldable pub closed : Node → ℕ → ℕ → Node
closed n i j =
    pick (ltb 0 n.count)
    (record {
      count = n.count - 1;
      children = take 9 (remove_at j n.children ++ (child_of 0 ∷ []));
      values = take 8 (remove_at i n.values ++ (value_of 0 ∷ []));
      lens = take 8 (remove_at i n.lens ++ (0 ∷ []));
      keys = take 2304 (removed (288 * i) 288 n.keys ++ zeros 288);
    })
    n

unfoldable pub removed_at : Node → ℕ → Node
removed_at n i = pick (ltb i n.count) (closed n i (i + 1)) n

-- ---- cut and joined

-- the first m separators, with their children
unfoldable pub kept_to : Node → ℕ → Node
kept_to n m =
    pick (leb m 8)
    (record {
      count = m;
      children = padded 9 (child_of 0) (take (m + 1) n.children);
      values = padded 8 (value_of 0) (take m n.values);
      lens = padded 8 0 (take m n.lens);
      keys = padded 2304 0 (take (288 * m) n.keys);
    })
    n

-- those from m on, with their children
unfoldable pub rest_from : Node → ℕ → Node
rest_from n m =
    pick (leb m 8)
    (record {
      count = n.count - m;
      children = padded 9 (child_of 0) (drop m n.children);
      values = padded 8 (value_of 0) (drop m n.values);
      lens = padded 8 0 (drop m n.lens);
      keys = padded 2304 0 (drop (288 * m) n.keys);
    })
    n

-- 01's three cases
unfoldable pub split_node_at : Node → ℕ → Separator → Child → Halves
split_node_at n i e c =
    pick (ltb i 4)
    (record { left = inserted_at (kept_to n 3) i e c; middle = sep_at n 3; right = rest_from n 4 })
    (pick (ltb 4 i)
    (record { left = kept_to n 4; middle = sep_at n 4; right = inserted_at (rest_from n 5) (i - 5) e c })
    (record { left = kept_to n 4; middle = e; right = with_child (rest_from n 4) 0 c }))

-- b behind a and the separator e, where there is room
unfoldable pub joined_with : Node → Separator → Node → Node
joined_with a e b =
    pick (fits_in 7 a.count b.count)
    (record {
      count = a.count + b.count + 1;
      children = over a.children (a.count + 1) (take (b.count + 1) b.children);
      values = over a.values a.count (e.value ∷ take b.count b.values);
      lens = over a.lens a.count (e.len ∷ take b.count b.lens);
      keys = over a.keys (288 * a.count) (e.key ++ take (288 * b.count) b.keys);
    })
    a
