-- Numbers at a place, taken off the front of what stands from there on. Assumes nothing.
use mathlib.Core.Path.{◌≡◌, sym, subst, ◌∙◌}
use mathlib.Core.List.{List, [], ◌∷◌, ◌++◌}
use Prim.Native.Nat.{ℕ, zero, suc, ◌+◌, ◌^◌, ◌≤◌, ◌<◌}
use lib.ListN.{length, drop, get_or, take-append-drop, length-append}
use lib.Seq.{drop-drop, drop-cons}
use native.Mathlib.Omega.{arith}
use native.Mathlib.Numerals.{add-one}
use Rattle.word.specs.Part.{part}
use Rattle.word.specs.Num.{le, un, Bytes}
use Rattle.word.specs.At.{read_at}
use Rattle.word.proofs.NumLaws.{le_un, un_le, length_le, bytes_part}
use Rattle.word.proofs.PartLaws.{length_part, part_seam}
use Rattle.word.proofs.AtLaws.{read_at_in}

pub bytes_at : (s : List ℕ) (i : ℕ) → Bytes s → get_or s i 0 < 256
bytes_at [] i h = omega arith
bytes_at (x ∷ s) zero h = h.0
bytes_at (x ∷ s) (suc i) h = bytes_at s i h.1

pub drop_part : (s : List ℕ) (at n : ℕ) → drop at s ≡ part s at n ++ drop (at + n) s
unfolding part
drop_part s at n = rw (← drop-drop n at s) (sym (take-append-drop n (drop at s)))

module _ (k : ℕ) (s : List ℕ) (at : ℕ) (h : at + k ≤ length s) where
  pub drop_read : Bytes s → drop at s ≡ le k (read_at k s at) ++ drop (at + k) s
  drop_read b =
      let e : le k (un (part s at k)) ≡ part s at k = subst (λ (m : ℕ). le m (un (part s at k)) ≡ part s at k) (length_part s at k h) (le_un (part s at k) (bytes_part s at k b)) in
      drop_part s at k ∙ rw (read_at_in k s at h, e)

pub drop_one : (s : List ℕ) (at : ℕ) → at < length s → drop at s ≡ get_or s at 0 ∷ drop (at + 1) s
drop_one s at h = rw add-one (drop-cons s at 0 h)

-- what was written behind p is read there
pub read_seam : (k : ℕ) (p q : List ℕ) (x at : ℕ) → length p ≡ at → x < 256 ^ k → read_at k (p ++ (le k x ++ q)) at ≡ x
read_seam k p q x at e h =
    let l : length (p ++ (le k x ++ q)) ≡ length p + (k + length q) = simp (length-append, length_le) in
    read_at_in k (p ++ (le k x ++ q)) at (omega arith) ∙ rw (part_seam p (le k x) q at k e (length_le k x)) (un_le k x h)
