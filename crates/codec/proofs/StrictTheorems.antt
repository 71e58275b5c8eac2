-- 02, C-16, of what the calls answer: the premises are the bytes that were lent and what `read_strict` and `read` gave for them.
-- Assumes nothing.
use mathlib.Core.Path.{◌≡◌, refl, sym, ap, ◌∙◌}
use mathlib.Core.List.{List, []}
use mathlib.Core.Bool.{true}
use Prim.Native.Nat.{ℕ, ◌+◌, ◌≤◌, ◌<◌}
use lib.ListN.{length}
use native.Mathlib.Omega.{arith}
use borrow.Author.Tests.{eqb-true}
use Rattle.word.specs.Num.{Bytes}
use Rattle.word.specs.At.{read_at}
use Rattle.node.specs.declared.Node.{Node}
use Rattle.node.specs.Chain.{Step, node_of, first_of, steps_of}
use Rattle.node.proofs.ChainLaws.{first_node, steps_node}
use Rattle.codec.specs.declared.Ending.TheVariants.{BytesIgnored, ZeroValue}
use Rattle.codec.specs.declared.Reading.{Reading}
use Rattle.codec.specs.declared.StrictReading.{StrictReading}
use Rattle.codec.specs.Codec.{encode, Standard, ending_number, Decoded, refused, accepted, decode}
use Rattle.codec.specs.Layout.{reading_of}
use Rattle.codec.specs.Strict.{strict_number, is_low, strict_end, strict_of, strict_reading}
use Rattle.codec.proofs.Theorems.{Numbered, decoded_node, read_decodes, standard_flagged}
use Rattle.codec.proofs.StrictLaws.{strict_flag, strict_standard, strict_lenient, strict_alike, strict_18, strict_19, strict_20, strict_decodes, strict_not_0}

-- r: what a strict reading of the bytes s answered
module _ (s : List ℕ) (b : Bytes s) {r : StrictReading} (called : r ≡ strict_reading s) where
  abbrev number : ℕ
  number = strict_number r.ending

  answered_lem : ◌≡◌ {A = Numbered} (record { number = number; node = r.node }) (decoded_node (strict_of s))
  answered_lem = ap (λ (q : StrictReading). record { number = strict_number q.ending; node = q.node }) called ∙ strict_decodes s

  place_is : r.at ≡ (strict_end s).at
  unfolding strict_reading
  place_is = ap (λ (q : StrictReading). q.at) called

  -- accepted: the chain that was read
  record Accepted : Type 0 where
    first : ℕ
    rest : List Step
    decoded : strict_of s ≡ accepted first rest
    node_is : r.node ≡ node_of first rest

  accepted_as : number ≡ 0 → Accepted
  accepted_as z = go (strict_of s) refl
    where
      go : (d : Decoded) → strict_of s ≡ d → Accepted
      go (accepted c q) e = record { first = c; rest = q; decoded = e; node_is = ap (λ (x : Numbered). x.node) (answered_lem ∙ ap decoded_node e) }
      go (refused m) e = absurd (strict_not_0 s m e (sym (ap (λ (x : Numbered). x.number) (answered_lem ∙ ap decoded_node e)) ∙ z))

  refused_as : (n : ℕ) → number ≡ n → 0 < n → strict_of s ≡ refused n
  refused_as n e h = go (strict_of s) refl
    where
      go : (d : Decoded) → strict_of s ≡ d → strict_of s ≡ refused n
      go (accepted c q) a = absurd (let z : number ≡ 0 = ap (λ (x : Numbered). x.number) (answered_lem ∙ ap decoded_node a) in omega arith)
      go (refused m) a = a ∙ ap refused (sym (ap (λ (x : Numbered). x.number) (answered_lem ∙ ap decoded_node a)) ∙ e)

  -- it accepts exactly standard form, ..
  pub accepted_is_standard : number ≡ 0 → Standard s
  accepted_is_standard z = let a = accepted_as z in let w = strict_standard s a.first a.rest b a.decoded in record { first = a.first; rest = a.rest; fine = w.fine; bytes = w.bytes }

  pub standard_is_accepted : Standard s → number ≡ 0
  unfolding strict_reading
  standard_is_accepted h = ap (λ (q : StrictReading). strict_number q.ending) called ∙ eqb-true (strict_number (strict_end s).ending) 0 (strict_flag s ∙ standard_flagged s h)

  -- .. and reads it as what was written
  pub reads_what_was_written : number ≡ 0 → s ≡ encode (first_of r.node) (steps_of r.node)
  reads_what_was_written z =
      let a = accepted_as z in
      let w = strict_standard s a.first a.rest b a.decoded in
      w.bytes ∙ sym (ap (λ (x : Node). encode (first_of x) (steps_of x)) a.node_is ∙ rw (first_node a.first a.rest, steps_node a.first a.rest w.fine.rest))

  -- a refused reading gives the node with no separator and no child
  pub refused_empty : (n : ℕ) → number ≡ n → 0 < n → r.node ≡ node_of 0 []
  refused_empty n e h = ap (λ (x : Numbered). x.node) (answered_lem ∙ ap decoded_node (refused_as n e h))

  -- "a long size below 255": 0xFF and a length below 255 stand where it stopped
  pub answered_18 : number ≡ 18 → (is_low s r.at ≡ true) × (Standard s → ⊥)
  answered_18 e = let h = strict_18 s (refused_as 18 e (omega arith)) in (rw place_is h.stands, h.sloppy)

  -- l: what the lenient reading of the same bytes answered
  module _ {l : Reading} (lenient : l ≡ reading_of s) where
    leniently : ◌≡◌ {A = Numbered} (record { number = ending_number l.ending; node = l.node }) (decoded_node (decode s))
    leniently = ap (λ (q : Reading). record { number = ending_number q.ending; node = q.node }) lenient ∙ read_decodes s

    -- what is accepted strictly is accepted leniently with the same node
    pub lenient_same : number ≡ 0 → (ending_number l.ending ≡ 0) × (l.node ≡ r.node)
    lenient_same z =
        let a = accepted_as z in
        let e = leniently ∙ ap decoded_node (strict_lenient s a.first a.rest a.decoded) in
        (ap (λ (x : Numbered). x.number) e, ap (λ (x : Numbered). x.node) e ∙ sym a.node_is)

    -- "after 11 to 14": where it refuses with 4 or 11 to 14, the lenient one refuses with the same
    pub refused_alike : (n : ℕ) → number ≡ n → 0 < n → n < 18 → ending_number l.ending ≡ n
    refused_alike n e h k = ap (λ (x : Numbered). x.number) (leniently ∙ ap decoded_node (strict_alike s n (refused_as n e h) k))

    -- "a separator with value 0": it stands where the reading stopped, and the lenient one ends there
    pub answered_19 : number ≡ 19 → (r.at + 9 ≤ length s) × (read_at 8 s r.at ≡ 0) × (l.ending ≡ ZeroValue) × (Standard s → ⊥)
    answered_19 e = let h = strict_19 s (refused_as 19 e (omega arith)) in rw (place_is, lenient) (h.stands.0, h.stands.1, h.stands.2, h.sloppy)

    -- "bytes after the end of the node": one stands where the reading stopped, and the lenient one ignores it
    pub answered_20 : number ≡ 20 → (r.at < length s) × (l.ending ≡ BytesIgnored) × (Standard s → ⊥)
    answered_20 e = let h = strict_20 s (refused_as 20 e (omega arith)) in rw (place_is, lenient) (h.stands.0, h.stands.1, h.sloppy)

-- "With it, two byte strings read as the same node only if they are the same bytes."
pub same_node_same_bytes : (s t : List ℕ) → Bytes s → Bytes t → {r q : StrictReading} → r ≡ strict_reading s → q ≡ strict_reading t
    → strict_number r.ending ≡ 0 → strict_number q.ending ≡ 0 → r.node ≡ q.node → s ≡ t
same_node_same_bytes s t b d e f z w n =
    reads_what_was_written s b e z ∙ ap (λ (x : Node). encode (first_of x) (steps_of x)) n ∙ sym (reads_what_was_written t d f w)
