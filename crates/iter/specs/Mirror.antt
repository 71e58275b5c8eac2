-- What the functions of this crate compute, call by call. A proof device: proofs/CodeLaws ties it to the walks of Walk and the
-- steps of Cursor. Assumes nothing.
use Rattle.std.specs.Prelude.{List, Bool, false, ℕ, zero, suc, ◌-◌, get_or, leb, ltb, eqb, Option, Some, None, Result, Ok, Err}
use Rattle.std.proofs.Math.Option.{none, some}
use Rattle.word.specs.Pick.{pick}
use Rattle.word.specs.Part.{part}
use Rattle.word.specs.Key.{Key}
use Rattle.tree.specs.Map.{Sep}
use Rattle.node.specs.declared.Child.{Child}
use Rattle.node.specs.declared.Value.{Value}
use Rattle.codec.specs.declared.Places.{Places}
use Rattle.codec.specs.declared.position.Found.{Found}
use Rattle.codec.specs.Codec.{is_accepted}
use Rattle.node.specs.Chain.{longest_key, child_of, value_of}
use Rattle.slots.specs.Limits.{most_depth}
use Rattle.slots.specs.Layout.{is_store, root_of, depth_of}
use Rattle.slots.specs.Code.{bytes_in, places_at}
use Rattle.iter.specs.declared.Place.{Place}
use Rattle.iter.specs.declared.Place.TheVariants.{Start, End, At, Seeked}
use Rattle.iter.specs.declared.Cursor.{Cursor}
use Rattle.iter.specs.declared.WalkError.{WalkError}
use Rattle.iter.specs.declared.WalkError.TheVariants.{NotStore, LongKey, Bad}
use Rattle.iter.specs.declared.Stepped.{Stepped}
use Rattle.iter.specs.declared.Aim.{Aim}
use Rattle.iter.specs.declared.Aim.TheVariants.{Same, There, Before}
use Rattle.iter.specs.declared.Spot.{Spot}
use Rattle.search.specs.declared.Turn.{Turn}
use Rattle.search.specs.declared.Turn.TheVariants.{First, NotBelow, Above, Last}
use Rattle.search.specs.declared.Spot as seen
use Rattle.search.specs.declared.Sight.{Sight}
use Rattle.search.specs.Search.{turn_at}
use Rattle.iter.specs.Walk.{Walked, bad, walked}
use Rattle.iter.specs.Cursor.{key_of, moved_to}

-- ---- the walk along a node

-- where a walk turns down; none: it reads no node
abbrev pub Way : Type 0
Way = Option Turn

-- the last candidate of a walk, if it met one; and what a walk answers, which can be refused for a bad node
abbrev pub Candidate : Type 0
Candidate = Option Spot

abbrev pub Ended : Type 0
Ended = Result (Option Spot) WalkError

abbrev pub stops_at : Aim → Bool → Bool
stops_at Same at = at
stops_at There at = false
stops_at Before at = false

-- the separator at index i in the node of child x, or the last candidate c
unfoldable pub spot_at : Places → Child → ℕ → Candidate → Candidate
spot_at p x i c =
    pick (leb p.count i) c
    (pick (ltb 7 i) c
    (Some (record { child = x; start = get_or p.starts i 0; len = get_or p.lens i 0; value = get_or p.values i (value_of 0) })))

abbrev pub taken_at : Aim → Places → Child → ℕ → Candidate → Candidate
taken_at Same p x i c = c
taken_at There p x i c = spot_at p x i c
taken_at Before p x i c = pick (ltb i 1) c (spot_at p x (i - 1) c)

-- the same by what is seen in the node

abbrev pub candidate_at : Child → seen.Spot → Spot
candidate_at x y = record { child = x; start = y.start; len = y.len; value = y.value }

unfoldable pub here_of : Sight → Child → Candidate → Candidate
here_of v x c = pick v.turned (Some (candidate_at x v.here)) c

unfoldable pub before_of : Sight → Child → Candidate → Candidate
before_of v x c = pick (ltb v.found.index.0 1) c (Some (candidate_at x v.before))

abbrev pub taken_of : Aim → Sight → Child → Candidate → Candidate
taken_of Same v x c = c
taken_of There v x c = here_of v x c
taken_of Before v x c = before_of v x c

-- ---- the walk down

module _ (t : Turn) (a : Aim) (k : Key) where
  -- behind a node that was read, with the index where the walk turns; rec is the walk below
  abbrev pub turned : (Child → Candidate → Ended) → Places → Child → Candidate → Found → Ended
  turned rec p x c f =
      pick (stops_at a f.at) (Ok (spot_at p x f.index.0 c))
      (rec (get_or p.children f.index.0 (child_of 0)) (taken_at a p x f.index.0 c))

  unfoldable pub walk_down : ℕ → List ℕ → Child → Candidate → Ended
  walk_down zero s x c = Ok c
  walk_down (suc d) s x c =
      pick (is_accepted (places_at d s x.0).ending)
      (turned (walk_down d s) (places_at d s x.0) x c (turn_at t (places_at d s x.0) (bytes_in s x.0) k))
      (Err Bad)

abbrev pub down_by : Way → Aim → Key → List ℕ → Ended
down_by None a k s = Ok None
down_by (Some t) a k s = walk_down t a k (suc (depth_of s)) s (child_of (root_of s)) None

unfoldable pub walk_of : Way → Aim → Key → List ℕ → Ended
walk_of w a k s = pick (eqb (root_of s) 0) (Ok None) (down_by w a k s)

-- ---- the refusals before a walk

abbrev pub Checked : Type 0
Checked = Result Unit WalkError

-- n is the length of the key, or of the cursor
unfoldable pub check_of : List ℕ → ℕ → Checked
check_of s n =
    pick (is_store s)
    (pick (ltb longest_key n) (Err LongKey)
    (pick (ltb most_depth (depth_of s)) (Err Bad)
    (Ok tt)))
    (Err NotStore)

-- what comes of a refusal, or of none
abbrev pub when : {A : Type 0} → Checked → (WalkError → A) → A → A
when (Err e) f y = f e
when (Ok u) f y = y

-- ---- what a candidate stands for

abbrev pub sep_of : List ℕ → Spot → Sep ℕ
sep_of s x = record { key = part (bytes_in s x.child.0) x.start x.len; val = x.value.0 }

abbrev pub walked_to : List ℕ → Ended → Walked
walked_to s (Err e) = bad
walked_to s (Ok None) = walked none
walked_to s (Ok (Some x)) = walked (some (sep_of s x))

-- ---- a step

abbrev pub length_of : Place → ℕ
length_of Start = 0
length_of End = 0
length_of (At n) = n
length_of (Seeked n) = n

abbrev pub turn_forward : Place → Way
turn_forward Start = Some First
turn_forward End = None
turn_forward (At n) = Some Above
turn_forward (Seeked n) = Some NotBelow

abbrev pub turn_backward : Place → Way
turn_backward Start = None
turn_backward End = Some Last
turn_backward (At n) = Some NotBelow
turn_backward (Seeked n) = Some Above

-- the candidate for a cursor's key, behind the refusals
unfoldable pub spot_of : List ℕ → Cursor → Way → Aim → Ended
spot_of s c w a = when (check_of s (length_of c.place)) (λ e. Err e) (walk_of w a (key_of c (length_of c.place)) s)

abbrev pub leaves_it : WalkError → Cursor → Stepped
leaves_it e c = record { step = Err e; cursor = c }

abbrev pub moves_it : Option Value → Place → List ℕ → Stepped
moves_it x p k = record { step = Ok x; cursor = record { place = p; key = k } }

unfoldable pub step_by : List ℕ → Cursor → Way → Aim → Place → Stepped
step_by s c w a p = when (check_of s (length_of c.place)) (λ e. leaves_it e c) (moved_to c p (walked_to s (walk_of w a (key_of c (length_of c.place)) s)))
