-- Records on entries: a batch is told key by key by the last change, so that a run acts as its last record and a merged batch
-- as the two batches; the runs of a batch, and those of its first records. Assumes nothing.
use mathlib.Core.Path.{◌≡◌, refl, sym, ap, ◌∙◌}
use mathlib.Core.List.{List, [], ◌∷◌, ◌++◌}
use mathlib.Core.Bool.{Bool, true, false, cond}
use mathlib.Core.Option.{Option}
use mathlib.Core.Logic.{◌⊎◌, inl, inr}
use lib.ListN.{length, take, drop}
use lib.Dec.{compare_is_eq}
use native.Mathlib.Omega.{arith}
use Prim.Native.Nat.{Ordering}
use Prim.Native.Nat.{ℕ, suc, ◌+◌}
use Rattle.word.specs.Key.{Key, cmp, Lt}
use Rattle.tree.specs.Map.{Sep, get, Rising}
use Rattle.tree.specs.Batch.{Rec, Run, change, apply_all, last_change, with_run, runs_of, NoneBelow, NeverFall, into, merge}
use Rattle.word.proofs.KeyOrder.{cmp_eq, lt_trans, gt_lt, lt_gt}
use Rattle.tree.proofs.Cases.{by_cond, by_pick, by_bool, by_order, is_eq}
use Rattle.tree.proofs.MapLaws.{rising_change, get_change, same_map}

-- ---- told key by key

module _ {A : Type 0} where
  pub rising_all : (rs : List (Rec A)) (es : List (Sep A)) → Rising es → Rising (apply_all rs es)
  rising_all [] es h = h
  rising_all (r ∷ rs) es h = rising_all rs (change r.key r.op es) (rising_change r.key r.op es h)

  pub get_all : (k : Key) (rs : List (Rec A)) (es : List (Sep A)) → Rising es → get k (apply_all rs es) ≡ last_change k rs (get k es)
  get_all k [] es h = refl
  get_all k (r ∷ rs) es h = get_all k rs (change r.key r.op es) (rising_change r.key r.op es h) ∙ rw (get_change k r.key r.op es h)

  -- batches with the same last change of each key give the same entries
  pub same_changes : (rs qs : List (Rec A)) (es : List (Sep A)) → Rising es → ((k : Key) (v : Option A) → last_change k rs v ≡ last_change k qs v) → apply_all rs es ≡ apply_all qs es
  same_changes rs qs es h f = same_map (apply_all rs es) (apply_all qs es) (rising_all rs es h) (rising_all qs es h)
      (λ k. get_all k rs es h ∙ f k (get k es) ∙ sym (get_all k qs es h))

  pub apply_append : (rs qs : List (Rec A)) (es : List (Sep A)) → apply_all (rs ++ qs) es ≡ apply_all qs (apply_all rs es)
  apply_append [] qs es = refl
  apply_append (r ∷ rs) qs es = apply_append rs qs (change r.key r.op es)

  last_append : (k : Key) (rs qs : List (Rec A)) (v : Option A) → last_change k (rs ++ qs) v ≡ last_change k qs (last_change k rs v)
  last_append k [] qs v = refl
  last_append k (r ∷ rs) qs v = last_append k rs qs (cond (compare_is_eq (cmp k r.key)) r.op v)

  -- a batch changes k, or leaves it
  changes_or_not : (k : Key) (rs : List (Rec A)) → ((v : Option A) → last_change k rs v ≡ v) ⊎ ((v w : Option A) → last_change k rs v ≡ last_change k rs w)
  changes_or_not k [] = inl (λ v. refl)
  changes_or_not k (r ∷ rs) = by_bool (compare_is_eq (cmp k r.key)) (λ e. inr (λ v w. rw e)) (λ e. go e (changes_or_not k rs))
    where
      go : compare_is_eq (cmp k r.key) ≡ false → ((v : Option A) → last_change k rs v ≡ v) ⊎ ((v w : Option A) → last_change k rs v ≡ last_change k rs w)
          → ((v : Option A) → last_change k (r ∷ rs) v ≡ v) ⊎ ((v w : Option A) → last_change k (r ∷ rs) v ≡ last_change k (r ∷ rs) w)
      go e (inl f) = inl (λ v. rw e (f v))
      go e (inr f) = inr (λ v w. rw e (f v w))

  pub applied_twice : (rs : List (Rec A)) (es : List (Sep A)) → Rising es → apply_all rs (apply_all rs es) ≡ apply_all rs es
  applied_twice rs es h = sym (apply_append rs rs es) ∙ same_changes (rs ++ rs) rs es h (λ k v. last_append k rs rs v ∙ go k v (changes_or_not k rs))
    where
      go : (k : Key) (v : Option A) → ((v : Option A) → last_change k rs v ≡ v) ⊎ ((v w : Option A) → last_change k rs v ≡ last_change k rs w) → last_change k rs (last_change k rs v) ≡ last_change k rs v
      go k v (inl f) = f (last_change k rs v)
      go k v (inr f) = f (last_change k rs v) v

-- ---- runs

module _ {A : Type 0} where
  -- the records that act, and how many records the runs have
  abbrev pub lasts : List (Run A) → List (Rec A)
  lasts [] = []
  lasts (q ∷ qs) = q.acts ∷ lasts qs

  abbrev pub sizes : List (Run A) → ℕ
  sizes [] = 0
  sizes (q ∷ qs) = q.size + sizes qs

  -- of two changes of one key the second acts
  second : (b : Bool) (x y z : Option A) → cond b x z ≡ cond b x (cond b y z)
  second b x y z = by_bool b (λ f. rw f) (λ f. rw f)

  -- one more record in front
  with_run_last : (k : Key) (r : Rec A) (qs : List (Run A)) (v : Option A) → last_change k (lasts (with_run r qs)) v ≡ last_change k (lasts qs) (cond (compare_is_eq (cmp k r.key)) r.op v)
  with_run_last k r [] v = refl
  with_run_last k r (q ∷ qs) v = by_cond (λ (l : List (Run A)). last_change k (lasts l) v ≡ last_change k (lasts (q ∷ qs)) (cond (compare_is_eq (cmp k r.key)) r.op v)) (compare_is_eq (cmp r.key q.acts.key))
      (λ e. rw (cmp_eq r.key q.acts.key (is_eq (cmp r.key q.acts.key) e)) (ap (last_change k (lasts qs)) (second (compare_is_eq (cmp k q.acts.key)) q.acts.op r.op v)))
      (λ e. refl)

  last_runs : (k : Key) (rs : List (Rec A)) (v : Option A) → last_change k (lasts (runs_of rs)) v ≡ last_change k rs v
  last_runs k [] v = refl
  last_runs k (r ∷ rs) v = with_run_last k r (runs_of rs) v ∙ last_runs k rs (cond (compare_is_eq (cmp k r.key)) r.op v)

  pub runs_act : (rs : List (Rec A)) (es : List (Sep A)) → Rising es → apply_all (lasts (runs_of rs)) es ≡ apply_all rs es
  runs_act rs es h = same_changes (lasts (runs_of rs)) rs es h (λ k v. last_runs k rs v)

  with_run_sizes : (r : Rec A) (qs : List (Run A)) → sizes (with_run r qs) ≡ suc (sizes qs)
  with_run_sizes r [] = refl
  with_run_sizes r (q ∷ qs) = by_cond (λ (l : List (Run A)). sizes l ≡ suc (sizes (q ∷ qs))) (compare_is_eq (cmp r.key q.acts.key)) (λ e. omega arith) (λ e. omega arith)

  pub runs_sizes : (rs : List (Rec A)) → sizes (runs_of rs) ≡ length rs
  runs_sizes [] = refl
  runs_sizes (r ∷ rs) = with_run_sizes r (runs_of rs) ∙ ap suc (runs_sizes rs)

  -- the first runs are those of the first records, the others those of the rest
  pub record Cut (before after : List (Run A)) (rs : List (Rec A)) : Type 0 where
    pub firsts : runs_of (take (sizes before) rs) ≡ before
    pub others : runs_of (drop (sizes before) rs) ≡ after

  -- a record in front of the first runs, one of whose own it is, or of a run of its own
  cut_more : (r : Rec A) (rs : List (Rec A)) (p : Run A) (before after : List (Run A)) → compare_is_eq (cmp r.key p.acts.key) ≡ true
      → Cut (p ∷ before) after rs → Cut (record { acts = p.acts; size = suc p.size } ∷ before) after (r ∷ rs)
  cut_more r rs p before after t c =
      let e : suc p.size + sizes before ≡ suc (p.size + sizes before) = omega arith in
      record { firsts = rw e (rw (c.firsts, t)); others = rw e c.others }

  with_run_new : (r : Rec A) (p : Run A) (ps before after : List (Run A)) → compare_is_eq (cmp r.key p.acts.key) ≡ false → p ∷ ps ≡ before ++ after
      → with_run r before ≡ record { acts = r; size = 1 } ∷ before
  with_run_new r p ps [] after t e = refl
  with_run_new r p ps (b ∷ before) after t e = let it : p ≡ b = cc in rw (← it, t)

  cut_new : (r : Rec A) (rs : List (Rec A)) (before after : List (Run A)) → with_run r before ≡ record { acts = r; size = 1 } ∷ before
      → Cut before after rs → Cut (record { acts = r; size = 1 } ∷ before) after (r ∷ rs)
  cut_new r rs before after t c =
      let e : 1 + sizes before ≡ suc (sizes before) = omega arith in
      record { firsts = rw e (rw (c.firsts, t)); others = rw e c.others }

  pub cut_lem : (rs : List (Rec A)) (before after : List (Run A)) → runs_of rs ≡ before ++ after → Cut before after rs
  cut_lem [] [] after e = record { firsts = refl; others = e }
  cut_lem [] (q ∷ before) after e = absurd (let w : ◌≡◌ {A = ℕ} 0 1 = cc in omega arith)
  cut_lem (r ∷ rs) before after e = go (runs_of rs) refl before e (λ b p. cut_lem rs b after p)
    where
      go : (ps : List (Run A)) → runs_of rs ≡ ps → (before : List (Run A)) → with_run r ps ≡ before ++ after
          → ((b : List (Run A)) → runs_of rs ≡ b ++ after → Cut b after rs) → Cut before after (r ∷ rs)
      go ps o [] e ih = record { firsts = refl; others = rw o e }
      go [] o (q ∷ before) e ih =
          let it : record { acts = r; size = 1 } ≡ q = cc in
          let none : [] ≡ before ++ after = cc in
          alone before none it
        where
          alone : (before : List (Run A)) → [] ≡ before ++ after → record { acts = r; size = 1 } ≡ q → Cut (q ∷ before) after (r ∷ rs)
          alone [] n it = rw (← it) (cut_new r rs [] after refl (ih [] (o ∙ n)))
          alone (b ∷ before) n it = absurd (let w : ◌≡◌ {A = ℕ} 0 1 = cc in omega arith)
      go (p ∷ ps) o (q ∷ before) e ih = by_bool (compare_is_eq (cmp r.key p.acts.key))
          (λ t.
          let w = rw t at e in
          let it : record { acts = p.acts; size = suc p.size } ≡ q = cc in
          let more : ps ≡ before ++ after = cc in
          rw (← it) (cut_more r rs p before after t (ih (p ∷ before) (o ∙ ap (λ (l : List (Run A)). p ∷ l) more))))
          (λ t.
          let w = rw t at e in
          let it : record { acts = r; size = 1 } ≡ q = cc in
          let more : p ∷ ps ≡ before ++ after = cc in
          rw (← it) (cut_new r rs before after (with_run_new r p ps before after t more) (ih before (o ∙ more))))

  -- ---- runs of keys that never fall rise strictly

  abbrev pub RunsAbove : Key → List (Run A) → Type 0
  RunsAbove k [] = Unit {0}
  RunsAbove k (q ∷ qs) = Lt k q.acts.key × RunsAbove k qs

  abbrev pub RunsRise : List (Run A) → Type 0
  RunsRise [] = Unit {0}
  RunsRise (q ∷ qs) = RunsAbove q.acts.key qs × RunsRise qs

  runs_up : (k m : Key) (qs : List (Run A)) → Lt k m → RunsAbove m qs → RunsAbove k qs
  runs_up k m [] h g = tt
  runs_up k m (q ∷ qs) h g = (lt_trans k m q.acts.key h g.0, runs_up k m qs h g.1)

  with_run_none_below : (k : Key) (r : Rec A) (qs : List (Run A)) → (Lt r.key k → ⊥) → NoneBelow k (lasts qs) → NoneBelow k (lasts (with_run r qs))
  with_run_none_below k r [] h g = (h, tt)
  with_run_none_below k r (q ∷ qs) h g = by_cond (λ (l : List (Run A)). NoneBelow k (lasts l)) (compare_is_eq (cmp r.key q.acts.key)) (λ e. g) (λ e. (h, g))

  runs_none_below : (k : Key) (rs : List (Rec A)) → NoneBelow k rs → NoneBelow k (lasts (runs_of rs))
  runs_none_below k [] h = tt
  runs_none_below k (r ∷ rs) h = with_run_none_below k r (runs_of rs) h.0 (runs_none_below k rs h.1)

  with_run_rise : (r : Rec A) (qs : List (Run A)) → NoneBelow r.key (lasts qs) → RunsRise qs → RunsRise (with_run r qs)
  with_run_rise r [] h g = (tt, tt)
  with_run_rise r (q ∷ qs) h g = by_cond RunsRise (compare_is_eq (cmp r.key q.acts.key)) (λ e. g)
      (λ e.
      let lt : Lt r.key q.acts.key = by_order (cmp r.key q.acts.key) (λ p. p) (λ p. cc) (λ p. absurd (h.0 (gt_lt r.key q.acts.key p))) in
      ((lt, runs_up r.key q.acts.key qs lt g.0), g))

  pub runs_rise : (rs : List (Rec A)) → NeverFall rs → RunsRise (runs_of rs)
  runs_rise [] h = tt
  runs_rise (r ∷ rs) h = with_run_rise r (runs_of rs) (runs_none_below r.key rs h.0) (runs_rise rs h.1)

-- ---- two batches as one

not_lt : (a b : Key) → Lt a b → Lt b a → ⊥
not_lt a b p q = let e = lt_gt a b p in let w : ◌≡◌ {A = ℕ} 0 1 = cc in omega arith

module _ {A : Type 0} where
  -- a batch of larger keys leaves k
  last_above : (k m : Key) (rs : List (Rec A)) (v : Option A) → Lt k m → NoneBelow m rs → last_change k rs v ≡ v
  last_above k m [] v h g = refl
  last_above k m (r ∷ rs) v h g =
      let ih = last_above k m rs v h g.1 in
      by_order (cmp k r.key) (λ p. rw p ih) (λ p. absurd (g.0 (rw (← cmp_eq k r.key p) h))) (λ p. rw p ih)

  last_merge : (k : Key) (xs bs : List (Rec A)) (v : Option A) → NeverFall xs → last_change k (merge xs bs) v ≡ last_change k bs (last_change k xs v)
  last_merge k [] bs v h = refl
  last_merge k (a ∷ xs) bs v h = go (λ bs v. last_merge k xs bs v h.1) bs v
    where
      eq_case : (b : Rec A) (v : Option A) → cmp a.key b.key ≡ Ordering.eq
          → cond (compare_is_eq (cmp k b.key)) b.op (last_change k xs v) ≡ cond (compare_is_eq (cmp k b.key)) b.op (last_change k (a ∷ xs) v)
      eq_case b v p = rw (cmp_eq a.key b.key p) (by_bool (compare_is_eq (cmp k b.key)) (λ f. rw f) (λ f. rw f))

      gt_case : (b : Rec A) (v : Option A) → cmp a.key b.key ≡ Ordering.gt
          → last_change k (a ∷ xs) (cond (compare_is_eq (cmp k b.key)) b.op v) ≡ cond (compare_is_eq (cmp k b.key)) b.op (last_change k (a ∷ xs) v)
      gt_case b v p = by_bool (compare_is_eq (cmp k b.key))
          (λ f.
          let lt : Lt k a.key = rw (cmp_eq k b.key (is_eq (cmp k b.key) f)) (gt_lt a.key b.key p) in
          rw (f, lt) (last_above k a.key xs b.op lt h.0))
          (λ f. rw f)

      go : ((bs : List (Rec A)) (v : Option A) → last_change k (merge xs bs) v ≡ last_change k bs (last_change k xs v)) → (bs : List (Rec A)) (v : Option A)
          → last_change k (into a (merge xs) bs) v ≡ last_change k bs (last_change k (a ∷ xs) v)
      go ih [] v = ih [] (cond (compare_is_eq (cmp k a.key)) a.op v)
      go ih (b ∷ bs) v =
          let rec = go ih bs (cond (compare_is_eq (cmp k b.key)) b.op v) in
          by_pick (λ (l : List (Rec A)). last_change k l v ≡ last_change k (b ∷ bs) (last_change k (a ∷ xs) v)) (cmp a.key b.key)
          (λ p. ih (b ∷ bs) (cond (compare_is_eq (cmp k a.key)) a.op v)) (λ p. ih (b ∷ bs) v ∙ ap (last_change k bs) (eq_case b v p)) (λ p. rec ∙ ap (last_change k bs) (gt_case b v p))

  pub merged : (xs bs : List (Rec A)) (es : List (Sep A)) → Rising es → NeverFall xs → apply_all (merge xs bs) es ≡ apply_all bs (apply_all xs es)
  merged xs bs es h g = same_changes (merge xs bs) (xs ++ bs) es h (λ k v. last_merge k xs bs v g ∙ sym (last_append k xs bs v)) ∙ apply_append xs bs es

  none_below_down : (k m : Key) (rs : List (Rec A)) → Lt k m → NoneBelow m rs → NoneBelow k rs
  none_below_down k m [] h g = tt
  none_below_down k m (r ∷ rs) h g = (λ p. g.0 (lt_trans r.key k m p h), none_below_down k m rs h g.1)

  none_below_merge : (k : Key) (xs bs : List (Rec A)) → NoneBelow k xs → NoneBelow k bs → NoneBelow k (merge xs bs)
  none_below_merge k [] bs h g = g
  none_below_merge k (a ∷ xs) bs h g = go (λ bs g. none_below_merge k xs bs h.1 g) bs g
    where
      go : ((bs : List (Rec A)) → NoneBelow k bs → NoneBelow k (merge xs bs)) → (bs : List (Rec A)) → NoneBelow k bs → NoneBelow k (into a (merge xs) bs)
      go ih [] g = (h.0, ih [] tt)
      go ih (b ∷ bs) g = let rec = go ih bs g.1 in by_pick (NoneBelow k) (cmp a.key b.key) (λ p. (h.0, ih (b ∷ bs) g)) (λ p. ih (b ∷ bs) g) (λ p. (g.0, rec))

  -- the merged batch is one that is accepted
  pub merge_never_falls : (xs bs : List (Rec A)) → NeverFall xs → NeverFall bs → NeverFall (merge xs bs)
  merge_never_falls [] bs h g = g
  merge_never_falls (a ∷ xs) bs h g = go (λ bs g. merge_never_falls xs bs h.1 g) bs g
    where
      go : ((bs : List (Rec A)) → NeverFall bs → NeverFall (merge xs bs)) → (bs : List (Rec A)) → NeverFall bs → NeverFall (into a (merge xs) bs)
      go ih [] g = (none_below_merge a.key xs [] h.0 tt, ih [] tt)
      go ih (b ∷ bs) g =
          let rec = go ih bs g.1 in
          by_pick NeverFall (cmp a.key b.key)
          (λ p. (none_below_merge a.key xs (b ∷ bs) h.0 (not_lt a.key b.key p, none_below_down a.key b.key bs p g.0), ih (b ∷ bs) g))
          (λ p. ih (b ∷ bs) g)
          (λ p.
          let lt = gt_lt a.key b.key p in
          (none_below_merge b.key (a ∷ xs) bs (not_lt b.key a.key lt, none_below_down b.key a.key xs lt h.0) g.0, rec))
