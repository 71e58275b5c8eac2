-- What a walk sees in a slot is what the places there say, at the depth that it is read at; and the way through `search_at`.
-- Assumes nothing.
use mathlib.Core.Path.{◌≡◌, refl, sym, ap, subst, ◌∙◌}
use mathlib.Core.List.{List, [], ◌∷◌}
use mathlib.Core.Bool.{Bool, true, false, ◌&&◌, not}
use Prim.Native.Nat.{ℕ, zero, suc, ◌+◌}
use lib.ListN.{take}
use lib.Dec.{eqb, eqb-suc-zero}
use Rattle.word.specs.Pick.{pick, pick_t, pick_f, by_test}
use Rattle.word.specs.At.{fits_in}
use Rattle.word.specs.Key.{Key}
use Rattle.tree.proofs.Cases.{by_bool}
use Rattle.node.specs.declared.Child.{Child}
use Rattle.codec.specs.declared.Places.{Places}
use Rattle.search.specs.declared.Turn.{Turn}
use Rattle.search.specs.declared.Sight.{Sight}
use Rattle.codec.specs.Codec.{is_accepted, scan_from, scan}
use Rattle.codec.specs.Layout.{layout, places_of, any_of}
use Rattle.search.specs.Search as node
use Rattle.search.specs.Search.{empty_sight, sight_in, sight_of, Saw, Sees, fits_places}
use Rattle.codec.proofs.StrictLaws.{whole_ends}
use Rattle.search.proofs.SearchLaws.{sight_good, sight_sees}
use Rattle.slots.specs.Code.{raw_in, bytes_in, places_in, misfits, children_fit, fits_depth, places_at}
use Rattle.slots.specs.Search.{sight_at, SawAt, SeesAt}
use Rattle.slots.proofs.CodeLaws.{both_true, no_places}

-- ---- a node at depth 0 is a leaf, and the child tests are the same

misfits_same : (d : ℕ) (c : Child) → misfits d c ≡ node.misfits (eqb d 0) c
misfits_same zero c = refl
misfits_same (suc d) c = ap (λ (b : Bool). node.misfits b c) (sym (eqb-suc-zero d))

any_same : {A : Type 0} (f g : A → Bool) → ((x : A) → f x ≡ g x) → (l : List A) → any_of f l ≡ any_of g l
any_same f g h [] = refl
any_same f g h (x ∷ l) = rw (h x, any_same f g h l)

fits_same : (d : ℕ) (p : Places) → fits_depth d p.count p.children ≡ fits_places (eqb d 0) p
unfolding fits_depth children_fit fits_places
fits_same d p = ap not (any_same (misfits d) (node.misfits (eqb d 0)) (misfits_same d) (take (p.count + 1) p.children))

-- ---- what is seen in a slot

-- of no bytes nothing
sight_none : (t : Turn) (leaf : Bool) (k : Key) → sight_of t leaf [] k ≡ empty_sight false
unfolding sight_of sight_in scan_from fits_in pick
sight_none t leaf k = refl

no_bytes : is_accepted (places_of []).ending ≡ false
unfolding layout
no_bytes = ap (λ (p : Places). is_accepted p.ending) no_places

module _ (t : Turn) (d : ℕ) (s : List ℕ) (x : ℕ) (k : Key) where
  abbrev raw : Places
  raw = places_of (raw_in s x)

  good_in : (sight_at t d s x k).good ≡ (raw.standard && fits_depth d raw.count raw.children)
  unfolding sight_at
  good_in = sight_good t (eqb d 0) (raw_in s x) k ∙ ap (λ (b : Bool). raw.standard && b) (sym (fits_same d raw))

  sees_in : (sight_at t d s x k).good ≡ true → Sees t raw (raw_in s x) k (sight_at t d s x k)
  unfolding sight_at
  sees_in h = sight_sees t (eqb d 0) (raw_in s x) k h

  -- whether the node that is there is in standard form decides what its places are
  in_standard : raw.standard ≡ true → bytes_in s x ≡ raw_in s x
  unfolding bytes_in
  in_standard e = pick_t _ _ e

  sloppy : raw.standard ≡ false → bytes_in s x ≡ []
  unfolding bytes_in
  sloppy e = pick_f _ _ e

  whole : raw.standard ≡ true → is_accepted raw.ending ≡ true
  unfolding places_of layout
  whole e = whole_ends (scan (raw_in s x)) e

  good_at : (sight_at t d s x k).good ≡ is_accepted (places_at d s x).ending
  unfolding places_at places_in
  good_at =
      good_in ∙ by_bool raw.standard
      (λ e. rw (e, in_standard e)
      (by_test (λ (p : Places). fits_depth d raw.count raw.children ≡ is_accepted p.ending) (fits_depth d raw.count raw.children) (λ f. f ∙ sym (whole e)) (λ f. f ∙ sym no_bytes)))
      (λ e. rw (e, sloppy e)
      (by_test (λ (p : Places). false ≡ is_accepted p.ending) (fits_depth d (places_of []).count (places_of []).children) (λ f. sym no_bytes) (λ f. sym no_bytes)))

  kept_at : (sight_at t d s x k).good ≡ true → (places_at d s x ≡ raw) × (bytes_in s x ≡ raw_in s x)
  unfolding places_at places_in
  kept_at h =
      let g = both_true raw.standard (fits_depth d raw.count raw.children) (sym good_in ∙ h) in
      let e = in_standard g.0 in
      (rw e (pick_t _ _ g.1), e)

  pub sees_at : {v : Sight} → SawAt t d s x k v → SeesAt t d s x k v
  sees_at {v} w = record {
    good_is = w.good_is ∙ good_at;
    sees = λ h.
        let good : (sight_at t d s x k).good ≡ true = sym w.good_is ∙ h in
        let at = kept_at good in
        let all : Sees t (places_at d s x) (bytes_in s x) k (sight_at t d s x k) = rw (at.0, at.1) (sees_in good) in
        subst (Sees t (places_at d s x) (bytes_in s x) k) (sym (w.all_is h)) all;
  }

  -- ---- the code

  pub search_at : {b : List ℕ} {v : Sight} → b ≡ raw_in s x → Saw t (eqb d 0) b k v → SawAt t d s x k v
  unfolding sight_at
  search_at {b} {v} p q =
      let w : Saw t (eqb d 0) (raw_in s x) k v = subst (λ (b : List ℕ). Saw t (eqb d 0) b k v) p q in
      record { good_is = w.good_is; all_is = w.all_is }

  pub nothing_seen : {v : Sight} → [] ≡ raw_in s x → v ≡ empty_sight false → SawAt t d s x k v
  nothing_seen {v} p q =
      let e : v ≡ sight_of t (eqb d 0) [] k = q ∙ sym (sight_none t (eqb d 0) k) in
      search_at p (record { good_is = ap (λ (u : Sight). u.good) e; all_is = λ h. e })
