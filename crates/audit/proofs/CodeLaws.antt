-- The audit's code, way by way. Assumes nothing.
use mathlib.Core.Path.{◌≡◌, refl, sym}
use mathlib.Core.List.{List, [], ◌∷◌}
use Prim.Native.Nat.{ℕ, zero, suc, ◌+◌, ◌/◌, ◌%◌, ◌^◌, ◌≤◌, ◌<◌}
use native.Mathlib.Nat.{pow-suc, div-one, div-add-mod', mod-lt, zero-lt-suc}
use native.Mathlib.Omega.{arith}
use lib.ListN.{length, get_or, take}
use lib.Count.{ones, ones-le}
use Rattle.audit.specs.Marks.{all_ones}
use Rattle.audit.proofs.MarkLaws.{shift}

-- ---- claiming a slot

-- a clear bit has room
pub room : (k b w : ℕ) → b < k → w < 2 ^ k → w / 2 ^ b % 2 ≡ 0 → w + 2 ^ b < 2 ^ k
room zero b w h l z = absurd (omega arith)
room (suc k) zero w h l z =
    let e = rw (div-one w) at z in
    let p = pow-suc 2 k in
    omega (arith, div-add-mod' w 2)
room (suc k) (suc b) w h l z =
    let p = pow-suc 2 k in
    let q = pow-suc 2 b in
    let d = div-add-mod' w 2 in
    let m = mod-lt w (zero-lt-suc 1) in
    let ih = room k b (w / 2) (omega arith) (omega arith) (rw (shift w b) at z) in
    omega arith

-- ---- counting

pub count_turn : (ws : List ℕ) (i : ℕ) → i < length ws → all_ones (take (i + 1) ws) ≡ all_ones (take i ws) + ones (get_or ws i 0)
unfolding all_ones
count_turn [] i h = absurd (omega arith)
count_turn (w ∷ ws) zero h = omega arith
count_turn (w ∷ ws) (suc i) h = let e : suc i + 1 ≡ suc (i + 1) = omega arith in rw e (omega (arith, count_turn ws i (omega arith)))

pub count_start : 0 ≡ all_ones []
unfolding all_ones
count_start = refl

pub count_next : (ws : List ℕ) (i sum : ℕ) → i < length ws → sum ≡ all_ones (take i ws) → sum + ones (get_or ws i 0) ≡ all_ones (take (i + 1) ws)
count_next ws i sum l e = rw e (sym (count_turn ws i l))

-- no word has more ones than bits
pub ones_few : (ws : List ℕ) (n i : ℕ) → ((j : ℕ) → get_or ws j 0 < 2 ^ 64) → ones (get_or (take n ws) i 0) ≤ 64
ones_few ws zero i h = ones-le 64 0 (omega arith)
ones_few [] (suc n) i h = ones-le 64 0 (omega arith)
ones_few (w ∷ ws) (suc n) zero h = ones-le 64 w (h 0)
ones_few (w ∷ ws) (suc n) (suc i) h = ones_few ws n i (λ j. h (suc j))
