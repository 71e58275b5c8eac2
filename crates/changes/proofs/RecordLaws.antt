-- One record at a place: when a whole one stands there, what the code reads of it, and when it has no flaw of its own. Read the
-- files of this folder in the order RecordLaws, CheckLaws, RunAtLaws (for the functions' proofs); FineLaws, WrittenLaws, ReadLaws,
-- RunsLaws, Table (what the definitions say: `fine_records`, `written_read`, `too_many`, `read_written_lem`, `first_run`, `refused`).
-- Assumes nothing.
use mathlib.Core.Path.{◌≡◌, refl, ap, ◌∙◌}
use mathlib.Core.List.{List}
use mathlib.Core.Option.{none, some}
use mathlib.Core.Bool.{Bool, true, false}
use Prim.Native.Nat.{ℕ, ◌+◌, ◌-◌, ◌≤◌, Ordering}
use lib.ListN.{length, take, drop}
use lib.Dec.{eqb, ltb, compare_is_eq}
use native.Mathlib.Omega.{arith}
use borrow.Author.Tests.{le-ltb, ltb-false}
use Rattle.std.specs.Ordering as ordering
use Rattle.std.specs.declared.cmp.Ordering.{Ordering as Order}
use Rattle.word.specs.Pick.{pick, pick_t, pick_f, by_test}
use Rattle.word.specs.Key.{is_lt, order_of}
use Rattle.word.specs.Part.{part}
use Rattle.word.specs.At.{fits_in}
use Rattle.word.proofs.AtLaws.{fits_in_lem, fits_true}
use Rattle.std.specs.Prelude as std
use Rattle.std.specs.Prelude.{Some, None, Ok, IsSome}
use Rattle.tree.proofs.Cases.{by_bool}
use Rattle.std.specs.Bool.{then_some}
use Rattle.changes.specs.declared.Change.{Change}
use Rattle.changes.specs.Records.{Checked, longest_key, op_of, kind_at, len_at, value_at, key_at, next_at, op_at, stands_at, change_at, is_known, is_bad_value}
use Rattle.changes.specs.Mirror.{flaw_at}

pub impossible : {A : Type 0} → false ≡ true → A
impossible e = absurd (let z : ◌≡◌ {A = ℕ} 0 1 = cc in omega arith)

module _ (s : List ℕ) (at : ℕ) where
  -- ---- a whole record

  pub next_is_lem : next_at s at ≡ at + 11 + len_at s at
  unfolding next_at
  next_is_lem = refl

  pub stands_true : stands_at s at ≡ true → next_at s at ≤ length s
  unfolding stands_at next_at
  stands_true =
      by_test (λ (b : Bool). b ≡ true → at + 11 + len_at s at ≤ length s) (fits_in (length s) at 11)
      (λ e t. fits_true (length s) (at + 11) (len_at s at) t) (λ e t. impossible t)

  pub stands_is : next_at s at ≤ length s → stands_at s at ≡ true
  unfolding stands_at next_at
  stands_is h = pick_t _ _ (fits_in_lem (length s) at 11 (omega arith)) ∙ fits_in_lem (length s) (at + 11) (len_at s at) h

  -- where a whole record stands, and only there, the code has a change
  pub change_there : {o : std.Option Change} → o ≡ change_at s at → next_at s at ≤ length s → IsSome o
  unfolding change_at
  change_there read h = rw (read, pick_t _ _ (stands_is h)) refl

  -- and it is that record
  module _ {c : Change} (read : Some c ≡ change_at s at) where
    stands_here : stands_at s at ≡ true
    unfolding change_at
    stands_here = by_bool (stands_at s at) (λ t. t) (λ f. absurd (let z = read ∙ pick_f _ _ f in cc))

    pub change_whole : next_at s at ≤ length s
    change_whole = stands_true stands_here

    pub change_is : c ≡ record { value = then_some (eqb (kind_at s at) 1) (record { 0 = value_at s at }); number = value_at s at; start = at + 11; len = len_at s at; next = next_at s at }
    unfolding change_at
    change_is = let z = read ∙ pick_t _ _ stands_here in cc

    pub start_is : c.start ≡ at + 11
    start_is = ap (λ (x : Change). x.start) change_is

    pub len_is : c.len ≡ len_at s at
    len_is = ap (λ (x : Change). x.len) change_is

    pub behind_is : c.next ≡ next_at s at
    behind_is = ap (λ (x : Change). x.next) change_is

    pub op_is : op_of c.value ≡ op_at s at
    unfolding op_at pick
    op_is = ap (λ (x : Change). op_of x.value) change_is ∙ go (eqb (kind_at s at) 1)
      where
        go : (b : Bool) → op_of (then_some b (record { 0 = value_at s at })) ≡ pick b (some (value_at s at)) none
        go true = refl
        go false = refl

    pub change_within : (c.start ≤ c.next) × (c.next ≤ length s)
    change_within = let a = start_is in let b = behind_is in let e = next_is_lem in let h = change_whole in (omega arith, omega arith)

    pub key_is : part s c.start c.len ≡ key_at s at
    unfolding key_at
    key_is = rw (start_is, len_is)

    pub key_lent : take (c.next - c.start) (drop c.start s) ≡ key_at s at
    unfolding key_at part
    key_lent =
        let e : c.next - c.start ≡ len_at s at = omega (arith, start_is, behind_is, next_is_lem) in
        rw (e, start_is)

  -- ---- a record with no flaw of its own

  pub record Sound : Type 0 where
    pub whole : next_at s at ≤ length s
    pub known : is_known s at ≡ true
    pub short : len_at s at ≤ longest_key
    pub valued : is_bad_value s at ≡ false

  pub flaw_sound : flaw_at s at ≡ Ok tt → Sound
  unfolding flaw_at next_at
  flaw_sound =
      by_test (λ (x : Checked). x ≡ Ok tt → Sound) (fits_in (length s) at 11)
      (λ f.
      by_test (λ (x : Checked). x ≡ Ok tt → Sound) (is_known s at)
      (λ k.
      by_test (λ (x : Checked). x ≡ Ok tt → Sound) (ltb longest_key (len_at s at)) (λ l e. impossible (cc))
      (λ l.
      by_test (λ (x : Checked). x ≡ Ok tt → Sound) (is_bad_value s at) (λ b e. impossible (cc))
      (λ b.
      by_test (λ (x : Checked). x ≡ Ok tt → Sound) (fits_in (length s) (at + 11) (len_at s at))
      (λ g e. record { whole = fits_true (length s) (at + 11) (len_at s at) g; known = k; short = ltb-false longest_key (len_at s at) l; valued = b })
      (λ g e. impossible (cc)))))
      (λ k e. impossible (cc)))
      (λ f e. impossible (cc))

  pub sound_flaw : Sound → flaw_at s at ≡ Ok tt
  unfolding flaw_at next_at
  sound_flaw h =
      let w = h.whole in
      pick_t _ _ (fits_in_lem (length s) at 11 (omega arith)) ∙ pick_t _ _ h.known ∙ pick_f _ _ (le-ltb longest_key (len_at s at) h.short) ∙ pick_f _ _ h.valued
      ∙ pick_t _ _ (fits_in_lem (length s) (at + 11) (len_at s at) w)

-- the code's order, tested
pub less_is : (o : Ordering) {q : Order} {b : Bool} → q ≡ order_of o → b ≡ ordering.is_lt q → b ≡ is_lt o
less_is Ordering.lt e f = rw e at f
less_is Ordering.eq e f = rw e at f
less_is Ordering.gt e f = rw e at f

pub equal_is : (o : Ordering) {q : Order} {b : Bool} → q ≡ order_of o → b ≡ ordering.is_eq q → b ≡ compare_is_eq o
equal_is Ordering.lt e f = rw e at f
equal_is Ordering.eq e f = rw e at f
equal_is Ordering.gt e f = rw e at f
