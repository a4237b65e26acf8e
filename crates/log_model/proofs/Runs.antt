-- Runs of places, and which places of a list are in one segment.
use Rattle.std.proofs.Common.{◌≡◌, ◌≢◌, ℕ, zero, suc, ◌+◌, eqb, List, [], ◌∷◌, ◌++◌, length, refl, sym, ap, ◌∙◌, arith}
use Rattle.std.specs.List.{filter}
use Rattle.std.proofs.lemmas.Bool.{eq-eqb, ne_eqb, and_from, and_left, and_right, cond-true, cond-false}
use Rattle.std.proofs.lemmas.List.{append-nil}
use Rattle.std.proofs.lemmas.List.Elements.{filter-append}
use Rattle.log_base.specs.declared.numbers.Place.{Place}
use Rattle.log_model.specs.Places.{place_at, places_from, is_in}

-- the places of a list that are in a segment of a shard
abbrev pub in_segment : ℕ → ℕ → List Place → List Place
in_segment shard segment places = filter (is_in shard segment) places

pub length-places_from : (shard segment from count : ℕ) → length (places_from shard segment from count) ≡ count
length-places_from shard segment from zero = refl
length-places_from shard segment from (suc count) = ap suc (length-places_from shard segment (suc from) count)

-- A run goes on where another ends.
run_goes_on : (shard segment from count at more : ℕ) → at ≡ from + count
    → places_from shard segment from count ++ places_from shard segment at more ≡ places_from shard segment from (count + more)
run_goes_on shard segment from zero at more ends =
    let here : at ≡ from = omega arith in
    let size : 0 + more ≡ more = omega arith in
    rw (here, size) refl
run_goes_on shard segment from (suc count) at more ends =
    let again = run_goes_on shard segment (suc from) count at more (omega arith) in
    let size : suc count + more ≡ suc (count + more) = omega arith in
    ap (λ (rest : List Place). place_at shard segment from ∷ rest) again ∙ ap (places_from shard segment from) (sym size)

pub run_from_start : (shard segment count more : ℕ)
    → places_from shard segment 0 count ++ places_from shard segment count more ≡ places_from shard segment 0 (count + more)
run_from_start shard segment count more = run_goes_on shard segment 0 count count more (omega arith)

-- A run is all in its own segment, and in no other.
pub in_segment-run : (shard segment from count : ℕ) → in_segment shard segment (places_from shard segment from count) ≡ places_from shard segment from count
in_segment-run shard segment from zero = refl
in_segment-run shard segment from (suc count) =
    cond-true (is_in shard segment (place_at shard segment from)) _ _ (and_from _ _ (eq-eqb shard shard refl) (eq-eqb segment segment refl))
    ∙ ap (λ (rest : List Place). place_at shard segment from ∷ rest) (in_segment-run shard segment (suc from) count)

pub in_segment-other_shard : (shard segment from count other one : ℕ) → shard ≢ other → in_segment other one (places_from shard segment from count) ≡ []
in_segment-other_shard shard segment from zero other one apart = refl
in_segment-other_shard shard segment from (suc count) other one apart =
    cond-false (is_in other one (place_at shard segment from)) _ _ (and_left (eqb shard other) (eqb segment one) (ne_eqb shard other apart))
    ∙ in_segment-other_shard shard segment (suc from) count other one apart

pub in_segment-other_segment : (shard segment from count one : ℕ) → segment ≢ one → in_segment shard one (places_from shard segment from count) ≡ []
in_segment-other_segment shard segment from zero one apart = refl
in_segment-other_segment shard segment from (suc count) one apart =
    cond-false (is_in shard one (place_at shard segment from)) _ _ (and_right (eqb shard shard) (eqb segment one) (ne_eqb segment one apart))
    ∙ in_segment-other_segment shard segment (suc from) count one apart

-- Of two lists one of which has none in the segment, the other has all that are.
pub in_segment-left : (shard segment : ℕ) (xs ys kept : List Place) → in_segment shard segment xs ≡ kept → in_segment shard segment ys ≡ []
    → in_segment shard segment (xs ++ ys) ≡ kept
in_segment-left shard segment xs ys kept here none =
    filter-append (is_in shard segment) xs ys
    ∙ ap (λ (rest : List Place). in_segment shard segment xs ++ rest) none
    ∙ append-nil (in_segment shard segment xs) ∙ here

pub in_segment-right : (shard segment : ℕ) (xs ys kept : List Place) → in_segment shard segment xs ≡ [] → in_segment shard segment ys ≡ kept
    → in_segment shard segment (xs ++ ys) ≡ kept
in_segment-right shard segment xs ys kept none later =
    filter-append (is_in shard segment) xs ys
    ∙ ap (λ (front : List Place). front ++ in_segment shard segment ys) none ∙ later
