-- What a batch of accepted records does to the bytes of an audited store, told on the bytes: the answer, the entries, that it is
-- audited again, that running it again changes no byte, and two batches against the merged one.
-- Read the files of this folder in the order Natural, AtChild; Place, InsertWalk, SetState; RemoveWalk, Pair, Rebalance, Remove,
-- RemoveState; Room, Runs (ZipIndex of `outcome` before them); or this one alone. Assumes nothing.
use mathlib.Core.Path.{◌≡◌, refl, sym, ap, subst, ◌∙◌}
use mathlib.Core.List.{List, [], ◌∷◌}
use mathlib.Core.Option.{some}
use Prim.Native.Nat.{ℕ, zero, suc}
use lib.ListN.{length, take}
use native.Mathlib.Omega.{arith}
use Rattle.word.specs.Key.{cmp}
use Rattle.tree.specs.Map.{Sep}
use Rattle.tree.specs.Free.{stack}
use Rattle.tree.specs.State.{rooted, store_entries}
use Rattle.tree.specs.Batch.{Rec, apply_all, NeverFall, into, merge}
use Rattle.tree.specs.Run.{Answer, Outcome, batch}
use Rattle.tree.specs.Run as T
use Rattle.tree.proofs.Cases.{by_pick}
use Rattle.tree.proofs.RunLaws.{batched, stopped_lem}
use Rattle.tree.proofs.Replay.{batch_again, batch_merged}
use Rattle.slots.specs.Stands.{Audited}
use Rattle.slots.specs.Entries.{entries_of}
use Rattle.slots.proofs.Unique.{one_store}
use Rattle.slots.specs.Layout.{count_of}
use Rattle.slots.proofs.AuditedLaws.{stands_based, audited_count, audited_entries}
use Rattle.outcome.specs.RunMirror.{bad, done, no_room, Ended}
use Rattle.btree.proofs.Runs.{FitOp, FitRecs, end_of, EndedAs, batch_m, batch_ended}

-- ---- what fits stays fitting

pub take_fits : (i : ℕ) (rs : List (Rec ℕ)) → FitRecs rs → FitRecs (take i rs)
take_fits zero rs h = tt
take_fits (suc i) [] h = tt
take_fits (suc i) (r ∷ rs) h = (h.0, take_fits i rs h.1)

into_fits : (a : Rec ℕ) (rest : List (Rec ℕ) → List (Rec ℕ)) → FitOp a.key a.op → ((bs : List (Rec ℕ)) → FitRecs bs → FitRecs (rest bs))
    → (bs : List (Rec ℕ)) → FitRecs bs → FitRecs (into a rest bs)
into_fits a rest f h [] g = (f, h [] tt)
into_fits a rest f h (b ∷ bs) g = by_pick FitRecs (cmp a.key b.key) (λ e. (f, h (b ∷ bs) g)) (λ e. h (b ∷ bs) g) (λ e. (g.0, into_fits a rest f h bs g.1))

pub merge_fits : (xs bs : List (Rec ℕ)) → FitRecs xs → FitRecs bs → FitRecs (merge xs bs)
merge_fits [] bs f g = g
merge_fits (a ∷ xs) bs f g = into_fits a (merge xs) f.0 (λ cs k. merge_fits xs cs f.1 k) bs g

-- ---- answers

end_done : (a : Answer) → end_of a ≡ done → a ≡ T.done
end_done T.done e = refl
end_done (T.no_room m) e = cc

end_no_room : (m : ℕ) (a : Answer) → end_of a ≡ no_room → a ≡ T.no_room (T.applied m a)
end_no_room m T.done e = cc
end_no_room m (T.no_room i) e = refl

end_never_bad : (a : Answer) → end_of a ≡ bad → ⊥
end_never_bad T.done e = let w : ◌≡◌ {A = ℕ} 0 1 = cc in omega arith
end_never_bad (T.no_room i) e = let w : ◌≡◌ {A = ℕ} 0 1 = cc in omega arith

with_answer : (o : Outcome ℕ) (a : Answer) → o.answer ≡ a → o ≡ record { state = o.state; answer = a }
with_answer o a e = λ i. record { state = o.state; answer = e i }

-- ---- one batch

module _ (s : List ℕ) (h : Audited s) (rs : List (Rec ℕ)) (f : FitRecs rs) where
  -- what crate `tree` says
  abbrev pub told : Outcome ℕ
  told = batch stack rs h.store

  pub batch_ends : EndedAs h.count (length rs) told (batch_m rs s)
  batch_ends = batch_ended h.count h.least h.most s h.store h.stands h.good rs f

  -- no answer 8 occurs
  pub batch_never_bad : (batch_m rs s).out ≡ bad → ⊥
  batch_never_bad e = end_never_bad told.answer (sym batch_ends.out ∙ e)

  abbrev pub batch_audited : Audited (batch_m rs s).store
  batch_audited = record { count = h.count; least = h.least; most = h.most; store = rooted told.state; stands = batch_ends.stands; good = batch_ends.good }

  pub batch_count : count_of (batch_m rs s).store ≡ count_of s
  batch_count = audited_count (batch_m rs s).store batch_audited ∙ sym (audited_count s h)

  pub batch_length : length (batch_m rs s).store ≡ length s
  batch_length = batch_ends.stands.base.size ∙ sym (stands_based h.count s h.store h.stands).size

  -- the entries for the records that were applied
  pub batch_entries : (es : List (Sep ℕ)) → entries_of s ≡ some es → entries_of (batch_m rs s).store ≡ some (apply_all (take (batch_m rs s).applied rs) es)
  batch_entries es e =
      let b = batched stack h.count rs h.store h.least h.good in
      let was : store_entries h.store ≡ es = cc (audited_entries s h) in
      audited_entries (batch_m rs s).store batch_audited
      ∙ ap some (b.entries ∙ ap (λ (i : ℕ). apply_all (take i rs) (store_entries h.store)) (sym batch_ends.applied) ∙ ap (apply_all (take (batch_m rs s).applied rs)) was)

  ends_done : (batch_m rs s).out ≡ done → told ≡ record { state = told.state; answer = T.done }
  ends_done e = with_answer told T.done (end_done told.answer (sym batch_ends.out ∙ e))

module _ (s : List ℕ) (h : Audited s) (rs : List (Rec ℕ)) (f : FitRecs rs) where
  -- no room: the bytes are those that the records before that run leave, and these come to their end
  pub stopped_bytes : (batch_m rs s).out ≡ no_room → let first : Ended = batch_m (take (batch_m rs s).applied rs) s in (first.out ≡ done) × (first.store ≡ (batch_m rs s).store)
  stopped_bytes e =
      let w = batch_ends s h rs f in
      let m : ℕ = (batch_m rs s).applied in
      let is : (told s h rs f).answer ≡ T.no_room m = end_no_room (length rs) (told s h rs f).answer (sym w.out ∙ e) ∙ ap T.no_room (sym w.applied) in
      let b = (stopped_lem stack h.count rs h.store m h.least h.good is).before in
      let v = subst (λ (o : Outcome ℕ). EndedAs h.count (length (take m rs)) o (batch_m (take m rs) s)) b (batch_ends s h (take m rs) (take_fits m rs f)) in
      (v.out, one_store h.count (batch_m (take m rs) s).store (batch_m rs s).store (rooted (told s h rs f).state) w.good v.stands w.stands)

  -- "A batch run to its end and run again at once gives the same answer and changes no byte"
  pub run_again : NeverFall rs → (batch_m rs s).out ≡ done → batch_m rs (batch_m rs s).store ≡ batch_m rs s
  run_again up e =
      let t : List ℕ = (batch_m rs s).store in
      let w = batch_ends s h rs f in
      let u = (told s h rs f).state in
      let ends = ends_done s h rs f e in
      let again = batch_again stack h.count h.least rs h.store u h.good up ends in
      let v = subst (λ (o : Outcome ℕ). EndedAs h.count (length rs) o (batch_m rs t)) again (batch_ends t (batch_audited s h rs f) rs f) in
      let first = subst (λ (o : Outcome ℕ). EndedAs h.count (length rs) o (batch_m rs s)) ends w in
      let out : (batch_m rs t).out ≡ (batch_m rs s).out = v.out ∙ sym first.out in
      let applied : (batch_m rs t).applied ≡ (batch_m rs s).applied = v.applied ∙ sym first.applied in
      let store : (batch_m rs t).store ≡ t = one_store h.count (batch_m rs t).store t (rooted u) w.good v.stands w.stands in
      λ i. record { out = out i; applied = applied i; store = store i }

-- ---- two batches: "Batch A and then batch B give the entries that one merged batch gives from the same store, B winning where
-- both name a key, provided all three runs reach their end."

pub a_then_b : (s : List ℕ) → Audited s → (xs bs : List (Rec ℕ)) → FitRecs xs → FitRecs bs → NeverFall xs
    → (batch_m xs s).out ≡ done → (batch_m bs (batch_m xs s).store).out ≡ done → (batch_m (merge xs bs) s).out ≡ done
    → entries_of (batch_m (merge xs bs) s).store ≡ entries_of (batch_m bs (batch_m xs s).store).store
a_then_b s h xs bs f g up a b c =
    let t : List ℕ = (batch_m xs s).store in
    let k = batch_audited s h xs f in
    let fm = merge_fits xs bs f g in
    let same = batch_merged stack h.count h.least xs bs h.store (told s h xs f).state (told t k bs g).state (told s h (merge xs bs) fm).state h.good up
    (ends_done s h xs f a) (ends_done t k bs g b) (ends_done s h (merge xs bs) fm c) in
    audited_entries (batch_m (merge xs bs) s).store (batch_audited s h (merge xs bs) fm) ∙ ap some same ∙ sym (audited_entries (batch_m bs t).store (batch_audited t k bs g))
