-- 01, "Lookup and cursor": the cursor, seeking, and a step from every place. Assumes nothing.
use Rattle.std.specs.Prelude.{List, [], Bool, true, false, ℕ, suc, length, take, ltb, eqb, Some, None, Ok, Err}
use Rattle.std.proofs.Math.Option.{none, some}
use Rattle.refusal.specs.Number.{answer_number}
use Rattle.word.specs.Pick.{pick}
use Rattle.word.specs.Key.{Key}
use Rattle.tree.specs.Map.{Sep}
use Rattle.tree.specs.Tree.{below, always, never}
use Rattle.tree.specs.Walk.{not_above}
use Rattle.node.specs.Chain.{longest_key, padded, value_of}
use Rattle.slots.specs.Limits.{most_depth}
use Rattle.slots.specs.Layout.{is_store, root_of, depth_of}
use Rattle.iter.specs.declared.Place.{Place}
use Rattle.iter.specs.declared.Place.TheVariants.{Start, End, At, Seeked}
use Rattle.iter.specs.declared.Cursor.{Cursor}
use Rattle.iter.specs.declared.WalkError.TheVariants.{NotStore, LongKey, Bad}
use Rattle.iter.specs.declared.Stepped.{Stepped}
use Rattle.iter.specs.declared.Sought.{Sought}
use Rattle.iter.specs.Answer.{Answer, walk_error_number}
use Rattle.iter.specs.Walk.{Walked, bad, walked, forward_from, backward_from}

-- "The cursor is a place (Start, End, At length, Seeked length) beside a key array of 288 bytes"; "bytes past the key are ..
-- zero after an accepted step or seek"
abbrev pub cursor_with : Place → Key → Cursor
cursor_with p k = record { place = p; key = padded 288 0 k }

-- "Seeking gives Seeked with the key, reading no store; its only refusal is 4." A refused seek gives a cursor at Start.
unfoldable pub sought_of : Key → Sought
sought_of k =
    pick (ltb longest_key (length k))
    (record { accepted = false; cursor = cursor_with Start [] })
    (record { accepted = true; cursor = cursor_with (Seeked (length k)) k })

-- 01's number of a seek
abbrev pub sought_number : Sought → ℕ
sought_number r = pick r.accepted 0 4

-- 01's numbers of a step
abbrev pub step_number : Answer → ℕ
step_number = answer_number walk_error_number

-- "4 | key (or cursor length) over 288": Start and End have no length
abbrev pub is_long : Place → Bool
is_long Start = false
is_long End = false
is_long (At n) = ltb longest_key n
is_long (Seeked n) = ltb longest_key n

-- "bytes past the key are ignored when offered"
abbrev pub key_of : Cursor → ℕ → Key
key_of c n = take n c.key

-- "the first index whose key is above the place (forward At, backward Seeked) or not below it (forward Seeked, backward At),
-- 0 for forward Start, the separator count for backward End": of what stands before that index this holds
abbrev pub passed_forward : Cursor → Place → Sep ℕ → Bool
passed_forward c Start = never
passed_forward c End = always
passed_forward c (At n) = not_above (key_of c n)
passed_forward c (Seeked n) = below (key_of c n)

abbrev pub passed_backward : Cursor → Place → Sep ℕ → Bool
passed_backward c Start = never
passed_backward c End = always
passed_backward c (At n) = below (key_of c n)
passed_backward c (Seeked n) = not_above (key_of c n)

-- "An entry moves the cursor to At; none moves it to End (forward) or Start (backward)."; a refusal leaves it as it was
abbrev pub moved_to : Cursor → Place → Walked → Stepped
moved_to c p bad = record { step = Err Bad; cursor = c }
moved_to c p (walked none) = record { step = Ok None; cursor = cursor_with p [] }
moved_to c p (walked (some e)) = record { step = Ok (Some (value_of e.val)); cursor = cursor_with (At (length e.key)) e.key }

-- "1, 4, 8"; "A depth above 7 is 8, root or not; otherwise no root means .. none"; w is the walk from the root
unfoldable pub stepped_of : List ℕ → Cursor → Place → Walked → Stepped
stepped_of s c p w =
    pick (is_store s)
    (pick (is_long c.place) (record { step = Err LongKey; cursor = c })
    (pick (ltb most_depth (depth_of s)) (record { step = Err Bad; cursor = c })
    (moved_to c p (pick (eqb (root_of s) 0) (walked none) w))))
    (record { step = Err NotStore; cursor = c })

-- "Forward End and backward Start answer none after refusals 1, 4 and a depth above 7, reading no node."
abbrev pub walk_forward : List ℕ → Cursor → Place → Walked
walk_forward s c Start = forward_from (passed_forward c Start) (suc (depth_of s)) s (root_of s) none
walk_forward s c End = walked none
walk_forward s c (At n) = forward_from (passed_forward c (At n)) (suc (depth_of s)) s (root_of s) none
walk_forward s c (Seeked n) = forward_from (passed_forward c (Seeked n)) (suc (depth_of s)) s (root_of s) none

abbrev pub walk_backward : List ℕ → Cursor → Place → Walked
walk_backward s c Start = walked none
walk_backward s c End = backward_from (passed_backward c End) (suc (depth_of s)) s (root_of s) none
walk_backward s c (At n) = backward_from (passed_backward c (At n)) (suc (depth_of s)) s (root_of s) none
walk_backward s c (Seeked n) = backward_from (passed_backward c (Seeked n)) (suc (depth_of s)) s (root_of s) none

unfoldable pub forward_of : List ℕ → Cursor → Stepped
forward_of s c = stepped_of s c End (walk_forward s c c.place)

unfoldable pub backward_of : List ℕ → Cursor → Stepped
backward_of s c = stepped_of s c Start (walk_backward s c c.place)
