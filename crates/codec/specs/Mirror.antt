-- What the loops of the codec leave to do; a proof device, cited by no public contract. Assumes nothing.
use Rattle.std.specs.Prelude.{List, [], ◌∷◌, map, true, ◌&&◌, ℕ, zero, suc, ◌+◌, ◌*◌, length, get_or, take, replicate, ltb, Result, Ok, Err}
use Rattle.word.specs.Pick.{pick}
use Rattle.word.specs.Part.{over}
use Rattle.word.specs.At.{fits_in, copy_at}
use Rattle.tree.specs.Map.{Sep}
use Rattle.node.specs.declared.Value.{Value}
use Rattle.node.specs.EditMirror.{fill}
use Rattle.codec.specs.declared.Ending.{Ending}
use Rattle.codec.specs.declared.Places.{Places}
use Rattle.codec.specs.declared.WriteError.{WriteError}
use Rattle.codec.specs.declared.WriteError.TheVariants.{LongKey, NoValue, TooMany}
use Rattle.codec.specs.Codec.{Spot, Scan, stop, is_accepted, is_no_byte_left, sep_length, encode_sep}
use Rattle.node.specs.Chain.{longest_key, child_of, value_of}
use Rattle.codec.specs.Layout.{all_plain, layout, any_first, is_long, is_none}

abbrev pub empty_places : Ending → Places
empty_places e = record {
  ending = e;
  standard = true;
  count = 0;
  children = replicate 9 (child_of 0);
  values = replicate 8 (value_of 0);
  starts = replicate 8 0;
  lens = replicate 8 0;
}

-- what `ended` makes of places with that many separators
unfoldable pub ended_with : Places → Ending → ℕ → Places
ended_with p e n =
    pick (is_accepted e)
    (record { ending = e; standard = p.standard && is_no_byte_left e; count = n; children = p.children; values = p.values; starts = p.starts; lens = p.lens })
    (layout (stop e 0))

-- what is made of places up to i and the rest that is scanned
unfoldable pub filled : Places → ℕ → Scan → Places
filled p i r =
    pick (is_accepted r.ending)
    (record {
      ending = r.ending;
      standard = (p.standard && all_plain r.rest) && is_no_byte_left r.ending;
      count = i + length r.rest;
      children = fill p.children i (child_of r.first ∷ map (λ (x : Spot × ℕ). child_of x.1) r.rest);
      values = fill p.values i (map (λ (x : Spot × ℕ). value_of x.0.value) r.rest);
      starts = fill p.starts i (map (λ (x : Spot × ℕ). x.0.start) r.rest);
      lens = fill p.lens i (map (λ (x : Spot × ℕ). x.0.len) r.rest);
    })
    (layout (stop r.ending 0))

-- the keys of separators i on, k of them, copied
unfoldable pub copied : List ℕ → Places → List ℕ → ℕ → ℕ → List ℕ
copied s p keys i zero = keys
copied s p keys i (suc k) = copied s p (copy_at keys (288 * i) s (get_or p.starts i 0) (get_or p.lens i 0)) (i + 1) k

-- ---- writing

-- how many bytes standard form takes for keys of these lengths, behind a
abbrev pub width_all : ℕ → List ℕ → ℕ
width_all a [] = a
width_all a (n ∷ l) = width_all (a + (sep_length n + 8)) l

-- the same for the first n of them
unfoldable pub width_first : ℕ → ℕ → List ℕ → ℕ
width_first a n l = width_all a (take n l)

-- what `measure` answers: a refusal, or the length of standard form
unfoldable pub measured : ℕ → List ℕ → List Value → Result ℕ WriteError
measured n lens values =
    pick (ltb 8 n) (Err TooMany)
    (pick (any_first is_long n lens) (Err LongKey)
    (pick (any_first is_none n values) (Err NoValue)
    (Ok (width_first 8 n lens))))

-- d with the separator at `at`, where its key is not too long and d has the bytes
unfoldable pub put_sep : List ℕ → ℕ → Sep ℕ → List ℕ
put_sep d at e =
    pick (ltb longest_key (length e.key)) d
    (pick (fits_in (length d) at (sep_length (length e.key))) (over d at (encode_sep e)) d)
