-- `lists::read_block`: what the block's length and the block took of the file, one behind the other.
use Rattle.std.proofs.Common.{◌≡◌, ℕ, zero, suc, List, [], ◌∷◌, ◌++◌, take, drop, refl, sym, ap, subst}
use Rattle.std.specs.Prelude.{Option}
use Rattle.std.specs.Io.KnownBytes.{Consumes}
use Rattle.std.proofs.KnownBytes.{Consumes-trans}
use Rattle.lists.proofs.read_block.Goals as goal

-- a front of p is a front of p with r behind it
front_of : (k : ℕ) (p r : List ℕ) → (j : ℕ) × (take j (p ++ r) ≡ take k p)
front_of zero p r = (zero, refl)
front_of (suc k) [] r = (zero, refl)
front_of (suc k) (x ∷ p) r = let w = front_of k p r in (suc w.0, ap (λ (l : List ℕ). x ∷ l) w.1)

both_taken : (old mid new : Option (List ℕ)) (head p r : List ℕ) (k : ℕ) → Consumes old mid head → Consumes mid new (take k p)
    → (h : List ℕ) × (j : ℕ) × Consumes old new (h ++ take j (p ++ r))
both_taken old mid new head p r k a b =
    let w = front_of k p r in
    (head, w.0, subst (λ (l : List ℕ). Consumes old new (head ++ l)) (sym w.1) (Consumes-trans old mid new head (take k p) a b))

pub returns-in_err-got-clause-none_lost : goal.returns-in_err-got-clause-none_lost
returns-in_err-got-clause-none_lost g c =
    let head = c.read_number.ensures.moved_on in
    let block = c.read_full.ensures.none_lost in
    both_taken (g.R.Read.remaining c.args.file.now) (g.R.Read.remaining c.read_number.new.file) (g.R.Read.remaining c.read_full.new.reader) head.0 c.read_full.new.buf (drop c.in_ok-len.len c.args.buf.now) block.0 head.1 block.1
