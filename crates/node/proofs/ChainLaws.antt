-- The struct of a chain gives the chain back. Assumes nothing.
use mathlib.Core.Path.{◌≡◌, refl, sym, ap, ◌∙◌}
use mathlib.Core.List.{List, [], ◌∷◌, ◌++◌, map, append_assoc}
use Prim.Native.Nat.{ℕ, zero, suc, ◌+◌, ◌*◌, ◌-◌, ◌≤◌}
use lib.ListN.{length, take, get_or, replicate, length-append, length-replicate, length-map}
use lib.Seq.{take_at}
use native.Mathlib.Omega.{arith}
use native.Mathlib.Numerals.{add-one}
use Rattle.word.specs.Part.{part}
use Rattle.word.proofs.PartLaws.{part_seam}
use Rattle.node.specs.Chain.{Step, longest_key, FitAll, padded, value_of, child_of, blocks, node_of, steps_from, steps_of, first_of}

-- ---- padding

module _ {A : Type 0} where
  pub length_padded : (n : ℕ) (z : A) (l : List A) → length l ≤ n → length (padded n z l) ≡ n
  unfolding padded
  length_padded n z l h = simp (length-append, length-replicate) (omega arith)

  get_or_repeated : (n i : ℕ) (z : A) → get_or (replicate n z) i z ≡ z
  get_or_repeated zero i z = refl
  get_or_repeated (suc n) zero z = refl
  get_or_repeated (suc n) (suc i) z = get_or_repeated n i z

  get_or_front : (l : List A) (n i : ℕ) (z : A) → get_or (l ++ replicate n z) i z ≡ get_or l i z
  get_or_front [] n i z = get_or_repeated n i z
  get_or_front (x ∷ l) n zero z = refl
  get_or_front (x ∷ l) n (suc i) z = get_or_front l n i z

  pub get_or_padded : (n : ℕ) (z : A) (l : List A) (i : ℕ) → get_or (padded n z l) i z ≡ get_or l i z
  unfolding padded
  get_or_padded n z l i = get_or_front l (n - length l) i z

  -- the element behind p
  pub get_or_mapped : {B : Type 0} (f : A → B) (z : B) (p : List A) (x : A) (q : List A) → get_or (map f (p ++ x ∷ q)) (length p) z ≡ f x
  get_or_mapped f z [] x q = refl
  get_or_mapped f z (y ∷ p) x q = get_or_mapped f z p x q

  pub take_mapped : {B : Type 0} (n : ℕ) (f : A → B) (z : B) (l : List A) → take (length l) (padded n z (map f l)) ≡ map f l
  unfolding padded
  take_mapped n f z l = take_at (map f l) (replicate (n - length (map f l)) z) (length l) (length-map l f)

-- ---- the flat keys

abbrev pub Short : List Step → Type 0
Short [] = Unit {0}
Short (x ∷ r) = (length x.0.key ≤ longest_key) × Short r

fit_short : (r : List Step) → FitAll r → Short r
fit_short [] f = tt
fit_short (x ∷ r) f = (f.0.short, fit_short r f.2)

pub blocks_append : (p q : List Step) → blocks (p ++ q) ≡ blocks p ++ blocks q
unfolding blocks
blocks_append [] q = refl
blocks_append (x ∷ p) q = rw (blocks_append p q) (sym (append_assoc (padded 288 0 x.0.key) (blocks p) (blocks q)))

pub length_blocks : (r : List Step) → Short r → length (blocks r) ≡ 288 * length r
unfolding blocks
length_blocks [] h = omega arith
length_blocks (x ∷ r) h = simp length-append (omega (arith, length_padded 288 0 x.0.key h.0, length_blocks r h.1))

key_there : (p : List Step) (x : Step) (q : List Step) → Short p → part (padded 2304 0 (blocks (p ++ x ∷ q))) (288 * length p) (length x.0.key) ≡ x.0.key
unfolding padded blocks
key_there p x q h =
    let k : List ℕ = x.0.key in
    let n : ℕ = 2304 - length (blocks (p ++ x ∷ q)) in
    let behind : List ℕ = replicate (288 - length k) 0 ++ (blocks q ++ replicate n 0) in
    let e : blocks (p ++ x ∷ q) ++ replicate n 0 ≡ blocks p ++ (k ++ behind) = rw (blocks_append p (x ∷ q)) (simp append_assoc) in
    ap (λ (t : List ℕ). part t (288 * length p) (length k)) e ∙ part_seam (blocks p) k behind (288 * length p) (length k) (length_blocks p h) refl

-- ---- the chain of the node of a chain

short_append : (p q : List Step) → Short p → Short q → Short (p ++ q)
short_append [] q h g = g
short_append (x ∷ p) q h g = (h.0, short_append p q h.1 g)

module _ (c : ℕ) where
  step_there : (p : List Step) (x : Step) (q : List Step) → Short p
      → (
        record { key = part (node_of c (p ++ x ∷ q)).keys (288 * length p) (get_or (node_of c (p ++ x ∷ q)).lens (length p) 0); val = (get_or (node_of c (p ++ x ∷ q)).values (length p) (value_of 0)).0 },
        (get_or (node_of c (p ++ x ∷ q)).children (length p + 1) (child_of 0)).0,
      ) ≡ x
  unfolding node_of
  step_there p x q h =
      let r : List Step = p ++ x ∷ q in
      let i : ℕ = length p in
      let len : get_or (padded 8 0 (map (λ (y : Step). length y.0.key) r)) i 0 ≡ length x.0.key = get_or_padded 8 0 (map (λ (y : Step). length y.0.key) r) i ∙ get_or_mapped (λ (y : Step). length y.0.key) 0 p x q in
      let val : get_or (padded 8 (value_of 0) (map (λ (y : Step). value_of y.0.val) r)) i (value_of 0) ≡ value_of x.0.val = get_or_padded 8 (value_of 0) (map (λ (y : Step). value_of y.0.val) r) i ∙ get_or_mapped (λ (y : Step). value_of y.0.val) (value_of 0) p x q in
      let kid : get_or (padded 9 (child_of 0) (child_of c ∷ map (λ (y : Step). child_of y.1) r)) (i + 1) (child_of 0) ≡ child_of x.1 = get_or_padded 9 (child_of 0) (child_of c ∷ map (λ (y : Step). child_of y.1) r) (i + 1) ∙ rw add-one (get_or_mapped (λ (y : Step). child_of y.1) (child_of 0) p x q) in
      rw (len, val, kid, key_there p x q h)

  steps_there : (p q : List Step) (i : ℕ) → length p ≡ i → Short p → Short q → steps_from (node_of c (p ++ q)) i (length q) ≡ q
  steps_there p [] i e h g = refl
  steps_there p (x ∷ q) i e h g =
      let ih = steps_there (p ++ (x ∷ [])) q (i + 1) (simp length-append (omega arith)) (short_append p (x ∷ []) h (g.0, tt)) g.1 in
      let s : (p ++ (x ∷ [])) ++ q ≡ p ++ x ∷ q = append_assoc p (x ∷ []) q in
      rw (← e) (ap (λ (y : Step). y ∷ steps_from (node_of c (p ++ x ∷ q)) (length p + 1) (length q)) (step_there p x q h) ∙ ap (λ (l : List Step). x ∷ l) (rw e (rw s at ih)))

  pub steps_node : (r : List Step) → FitAll r → steps_of (node_of c r) ≡ r
  unfolding steps_of node_of
  steps_node r f = steps_there [] r 0 refl tt (fit_short r f)

  pub first_node : (r : List Step) → first_of (node_of c r) ≡ c
  unfolding first_of node_of padded
  first_node r = refl

  pub count_node : (r : List Step) → (node_of c r).count ≡ length r
  unfolding node_of
  count_node r = refl
