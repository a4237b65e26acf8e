-- Look-ups in the places of a list of runs, and how many places there can be.
use Rattle.std.proofs.Common.{◌≡◌, ◌≢◌, ℕ, zero, suc, ◌+◌, ◌-◌, ◌*◌, ◌^◌, ◌<◌, ◌≤◌, Bool, true, false, eqb, List, [], ◌∷◌, ◌++◌, map, length, None, Some, refl, sym, ap, ◌∙◌, subst, ⊎_elim, drop, get_or, arith, append_assoc}
use Rattle.std.specs.Prelude.{slice_get, nat_le, nat_lt, ◌&&◌}
use Rattle.std.specs.List.{AllByRecursion, Contains, IsDistinct, list_any}
use Rattle.std.specs.Cmp.{nat_eq_equiv}
use Rattle.std.proofs.lemmas.Bool.{cond-true, cond-false, cases_Bool, eqb-true, eq-eqb, and_parts, and_from, ltb-true, lt-ltb}
use Rattle.std.proofs.lemmas.List.{append-nil, map-append, length-map}
use Rattle.std.proofs.lemmas.List.Elements.{All-nil, All-push, Contains-append_cases}
use Rattle.std.proofs.lemmas.Map.Keys.{IsDistinct-push}
use Rattle.std.proofs.lemmas.Map.Steps.{length-le_from_distinct_below}
use Rattle.log_base.specs.declared.numbers.Place.{Place}
use Rattle.log_model.specs.Places.{place_at, places_from, is_same_place}
use Rattle.log_model.specs.Lookup.{position_from}
use Rattle.log_model.proofs.Times.{times, same_place, is_same_place-of_equal, listed_where_contained, contained_where_listed}
use Rattle.std.proofs.lemmas.Option.{slice_get-get_or}
use Rattle.cut_chain.specs.declared.runs.Run.{Run}
use Rattle.cut_chain.specs.Runs.{run_places, places_of, offset_in, IsFresh}
use Rattle.cut_chain.proofs.Apart.{drop_at}
use Rattle.cut_chain.specs.Walk.{IsInWidth, place_number, Ends, IsWalk}

pub run-get_within : (shard segment first count index : ℕ) (rest : List Place) → index < count
    → slice_get (places_from shard segment first count ++ rest) index ≡ Some (place_at shard segment (first + index))
run-get_within shard segment first zero index rest within = absurd (omega arith)
run-get_within shard segment first (suc count) zero rest within =
    let sum : first ≡ first + 0 = omega arith in ap (λ (n : ℕ). Some (place_at shard segment n)) sum
run-get_within shard segment first (suc count) (suc index) rest within =
    let sum : suc first + index ≡ first + suc index = omega arith in
    run-get_within shard segment (suc first) count index rest (omega arith) ∙ ap (λ (n : ℕ). Some (place_at shard segment n)) sum

pub run-get_past : (shard segment first count index : ℕ) (rest : List Place) → count ≤ index
    → slice_get (places_from shard segment first count ++ rest) index ≡ slice_get rest (index - count)
run-get_past shard segment first zero index rest past = let all : index ≡ index - 0 = omega arith in ap (slice_get rest) all
run-get_past shard segment first (suc count) zero rest past = absurd (omega arith)
run-get_past shard segment first (suc count) (suc index) rest past =
    let less : index - count ≡ suc index - suc count = omega arith in
    run-get_past shard segment (suc first) count index rest (omega arith) ∙ ap (slice_get rest) less

-- The position of a place in a run is its index there, and otherwise the search goes on behind the run.
run-position_at : (at shard segment first count index : ℕ) (rest : List Place) (place : Place) → index < count → place_at shard segment (first + index) ≡ place
    → position_from at (places_from shard segment first count ++ rest) place ≡ Some (at + index)
run-position_at at shard segment first zero index rest place within stands = absurd (omega arith)
run-position_at at shard segment first (suc count) zero rest place within stands =
    let sum : first ≡ first + 0 = omega arith in
    let here : at ≡ at + 0 = omega arith in
    let same = is_same_place-of_equal (place_at shard segment first) place (ap (place_at shard segment) sum ∙ stands) in
    cond-true (is_same_place (place_at shard segment first) place) _ _ same ∙ ap Some here
run-position_at at shard segment first (suc count) (suc index) rest place within stands =
    let sum : suc first + index ≡ first + suc index = omega arith in
    let next : suc at + index ≡ at + suc index = omega arith in
    let again = run-position_at (suc at) shard segment (suc first) count index rest place (omega arith) (ap (place_at shard segment) sum ∙ stands) in
    ⊎_elim
    (λ own.
    let same = same_place (place_at shard segment first) place own in
    let offset : first ≡ first + suc index = ap (λ (p : Place). p.offset) (same ∙ sym stands) in
    absurd (omega (arith, offset)))
    (λ other. cond-false (is_same_place (place_at shard segment first) place) _ _ other ∙ again ∙ ap Some next)
    (cases_Bool (is_same_place (place_at shard segment first) place))

run-position_past : (at shard segment first count : ℕ) (rest : List Place) (place : Place)
    → ((index : ℕ) → index < count → place_at shard segment (first + index) ≢ place)
    → position_from at (places_from shard segment first count ++ rest) place ≡ position_from (at + count) rest place
run-position_past at shard segment first zero rest place absent =
    let here : at ≡ at + 0 = omega arith in ap (λ (n : ℕ). position_from n rest place) here
run-position_past at shard segment first (suc count) rest place absent =
    let next : suc at + count ≡ at + suc count = omega arith in
    let again = run-position_past (suc at) shard segment (suc first) count rest place
    (λ index within stands.
    let sum : first + suc index ≡ suc first + index = omega arith in
    absent (suc index) (omega arith) (ap (place_at shard segment) sum ∙ stands)) in
    ⊎_elim
    (λ own.
    let same = same_place (place_at shard segment first) place own in
    let sum : first + 0 ≡ first = omega arith in
    absurd (absent 0 (omega arith) (ap (place_at shard segment) sum ∙ same)))
    (λ other. cond-false (is_same_place (place_at shard segment first) place) _ _ other ∙ again ∙ ap (λ (n : ℕ). position_from n rest place) next)
    (cases_Bool (is_same_place (place_at shard segment first) place))

-- the test that a place is in a run
abbrev pub is_in_run : Run → Place → Bool
is_in_run run place =
    eqb place.shard.0 run.shard.0 && eqb place.segment.0 run.segment.0 && nat_le run.first place.offset && nat_lt (place.offset - run.first) run.count

-- A place that passes it stands in the run at its index, and one that stands there passes it.
in_run : (run : Run) (place : Place) → is_in_run run place ≡ true
    → (place.offset - run.first < run.count) × (place_at run.shard.0 run.segment.0 (run.first + (place.offset - run.first)) ≡ place)
in_run run place test =
    let last = and_parts _ _ test in
    let front = and_parts _ _ last.0 in
    let both = and_parts _ _ front.0 in
    let shard : place.shard.0 ≡ run.shard.0 = eqb-true _ _ both.0 in
    let segment : place.segment.0 ≡ run.segment.0 = eqb-true _ _ both.1 in
    let from : run.first ≤ place.offset = grind (arith, front.1) in
    let within : place.offset - run.first < run.count = ltb-true _ _ last.1 in
    let sum : run.first + (place.offset - run.first) ≡ place.offset = omega arith in (
      within,
      ap (λ (n : ℕ). place_at n run.segment.0 (run.first + (place.offset - run.first))) (sym shard)
          ∙ ap (λ (n : ℕ). place_at place.shard.0 n (run.first + (place.offset - run.first))) (sym segment)
          ∙ ap (place_at place.shard.0 place.segment.0) sum,
    )

in_run_from : (run : Run) (place : Place) (index : ℕ) → index < run.count → place_at run.shard.0 run.segment.0 (run.first + index) ≡ place → is_in_run run place ≡ true
in_run_from run place index within stands =
    let shard : place.shard.0 ≡ run.shard.0 = ap (λ (p : Place). p.shard.0) (sym stands) in
    let segment : place.segment.0 ≡ run.segment.0 = ap (λ (p : Place). p.segment.0) (sym stands) in
    let offset : place.offset ≡ run.first + index = ap (λ (p : Place). p.offset) (sym stands) in
    let from : run.first ≤ place.offset = omega (arith, offset) in
    let inside : place.offset - run.first < run.count = omega (arith, offset, within) in
    let low : nat_le run.first place.offset ≡ true = grind (arith, from) in
    and_from _ _ (and_from _ _ (and_from _ _ (eq-eqb _ _ shard) (eq-eqb _ _ segment)) low) (lt-ltb _ _ inside)

pub position_found : (at : ℕ) (run : Run) (rest : List Place) (place : Place) (index : ℕ) → offset_in run place ≡ Some index
    → position_from at (run_places run ++ rest) place ≡ Some (at + index)
position_found at run rest place index found =
    ⊎_elim
    (λ test.
    let here : Some (place.offset - run.first) ≡ Some index = sym (cond-true (is_in_run run place) (Some (place.offset - run.first)) None test) ∙ found in
    let same : place.offset - run.first ≡ index = cc in
    let stands = in_run run place test in
    run-position_at at run.shard.0 run.segment.0 run.first run.count (place.offset - run.first) rest place stands.0 stands.1 ∙ ap (λ (n : ℕ). Some (at + n)) same)
    (λ test.
    let none : None ≡ Some index = sym (cond-false (is_in_run run place) (Some (place.offset - run.first)) None test) ∙ found in absurd (cc))
    (cases_Bool (is_in_run run place))

pub position_past : (at : ℕ) (run : Run) (rest : List Place) (place : Place) → offset_in run place ≡ None
    → position_from at (run_places run ++ rest) place ≡ position_from (at + run.count) rest place
position_past at run rest place none =
    run-position_past at run.shard.0 run.segment.0 run.first run.count rest place
    (λ index within stands.
    let test = in_run_from run place index within stands in
    let some : Some (place.offset - run.first) ≡ None = sym (cond-true (is_in_run run place) (Some (place.offset - run.first)) None test) ∙ none in
    let no : ⊥ = cc in no)

-- Runs at the end of others have their places at the end.
pub places_of-push : (runs : List Run) (run : Run) → places_of (runs ++ run ∷ []) ≡ places_of runs ++ run_places run
places_of-push [] run = append-nil (run_places run)
places_of-push (first ∷ rest) run =
    ap (λ (ps : List Place). run_places first ++ ps) (places_of-push rest run)
    ∙ sym (append_assoc (run_places first) (places_of rest) (run_places run))

-- Places in width differ where their numbers do.
number-same : (a b : Place) → IsInWidth a → IsInWidth b → place_number a ≡ place_number b → a ≡ b
number-same a b one other same =
    let front : a.shard.0 * 256 + a.segment.0 ≡ b.shard.0 * 256 + b.segment.0 = omega (arith, one.offset, other.offset, same) in
    let offset : a.offset ≡ b.offset = omega (arith, same, front) in
    let shard : a.shard.0 ≡ b.shard.0 = omega (arith, front, one.segment, other.segment) in
    let segment : a.segment.0 ≡ b.segment.0 = omega (arith, front, shard) in
    ap (λ (n : ℕ). place_at n a.segment.0 a.offset) shard
    ∙ ap (λ (n : ℕ). place_at b.shard.0 n a.offset) segment
    ∙ ap (place_at b.shard.0 b.segment.0) offset

numbered : (places : List Place) (place : Place) → AllByRecursion IsInWidth places → IsInWidth place
    → list_any (eqb (place_number place)) (map place_number places) ≡ true → 1 ≤ times places place
numbered [] place all width found = absurd (cc)
numbered (first ∷ rest) place all width found =
    ⊎_elim
    (λ own.
    let same : place ≡ first = number-same place first width all.0 (eqb-true _ _ own) in
    let test : is_same_place first place ≡ true = is_same_place-of_equal first place (sym same) in
    rw test (omega arith))
    (λ other.
    let later : list_any (eqb (place_number place)) (map place_number rest) ≡ true = rw other at found in
    let again = numbered rest place all.1 width later in
    omega (arith, again))
    (cases_Bool (eqb (place_number place) (place_number first)))

number_absent : (places : List Place) (place : Place) → AllByRecursion IsInWidth places → IsInWidth place → ¬ Contains places place
    → list_any (eqb (place_number place)) (map place_number places) ≡ false
number_absent places place all width absent =
    ⊎_elim
    (λ found. absurd (absent (contained_where_listed places place (numbered places place all width found))))
    (λ none. none)
    (cases_Bool (list_any (eqb (place_number place)) (map place_number places)))

not_same : (a b : Place) → (a ≡ b → ⊥) → is_same_place a b ≡ false
not_same a b differ =
    ⊎_elim (λ own. absurd (differ (same_place a b own))) (λ other. other) (cases_Bool (is_same_place a b))

in_width-push : (places : List Place) (place : Place) → AllByRecursion IsInWidth places → IsInWidth place → AllByRecursion IsInWidth (places ++ place ∷ [])
in_width-push [] place all width = (width, tt)
in_width-push (first ∷ rest) place all width = (all.0, in_width-push rest place all.1 width)

-- what keeps places countable
pub record Countable (places : List Place) : Type 0 where
  pub in_width : AllByRecursion IsInWidth places
  pub apart : IsDistinct eqb (map place_number places)

-- A fresh run keeps it.
pub Countable-run : (places : List Place) (shard segment first count : ℕ) → shard < 2 ^ 16 → segment < 2 ^ 8 → first + count ≤ 16384
    → ((offset : ℕ) → first ≤ offset → offset < first + count → ¬ Contains places (place_at shard segment offset))
    → Countable places → Countable (places ++ places_from shard segment first count)
Countable-run places shard segment first zero shard_fits segment_fits ends fresh is = subst Countable (sym (append-nil places)) is
Countable-run places shard segment first (suc count) shard_fits segment_fits ends fresh is =
    let place = place_at shard segment first in
    let width : IsInWidth place = record { shard = shard_fits; segment = segment_fits; offset = omega arith } in
    let low : first ≤ first = omega arith in
    let absent = fresh first low (omega arith) in
    let more : Countable (places ++ place ∷ []) = record {
      in_width = in_width-push places place is.in_width width;
      apart = subst (IsDistinct eqb) (sym (map-append place_number places (place ∷ [])))
          (IsDistinct-push nat_eq_equiv (map place_number places) (place_number place) is.apart (number_absent places place is.in_width width absent));
    } in
    let later = Countable-run (places ++ place ∷ []) shard segment (suc first) count shard_fits segment_fits (omega arith)
    (λ offset above below found.
    ⊎_elim (fresh offset (omega arith) (omega arith))
    (λ (own : Contains (place ∷ []) (place_at shard segment offset)).
    let at = listed_where_contained (place ∷ []) (place_at shard segment offset) own in
    let other : is_same_place place (place_at shard segment offset) ≡ false =
    not_same place (place_at shard segment offset) (λ same. let e : first ≡ offset = ap (λ (p : Place). p.offset) same in omega arith) in
    let none : times (place ∷ []) (place_at shard segment offset) ≡ 0 = rw other refl in
    omega (arith, at, none))
    (Contains-append_cases places (place ∷ []) (place_at shard segment offset) found)) more in
    subst Countable (append_assoc places (place ∷ []) (places_from shard segment (suc first) count)) later

nothing_apart : IsDistinct eqb []
unfolding IsDistinct
nothing_apart = tt

-- There are at most 2^38 of them.
number_below : (places : List Place) (q : ℕ) → AllByRecursion IsInWidth places → list_any (eqb q) (map place_number places) ≡ true → q < 2 ^ 38
number_below [] q all found = absurd (cc)
number_below (first ∷ rest) q all found =
    ⊎_elim
    (λ own. let same : q ≡ place_number first = eqb-true _ _ own in omega (arith, same, all.0.shard, all.0.segment, all.0.offset))
    (λ other. number_below rest q all.1 (rw other at found))
    (cases_Bool (eqb q (place_number first)))

pub countable-few : (places : List Place) → Countable places → length places ≤ 2 ^ 38
countable-few places is =
    let size = length-le_from_distinct_below (map place_number places) (2 ^ 38) is.apart (λ q found. number_below places q is.in_width found) in
    omega (arith, size, length-map places place_number)

pub walk-push : (runs : List Run) (run : Run) → run.shard.0 < 2 ^ 16 → run.segment.0 < 2 ^ 8 → Ends run → IsFresh (places_of runs) run → IsWalk runs
    → IsWalk (runs ++ run ∷ [])
walk-push runs run shard segment ends fresh is =
    let countable = Countable-run (places_of runs) run.shard.0 run.segment.0 run.first run.count shard segment ends fresh (record { in_width = is.in_width; apart = is.apart }) in
    let more = subst Countable (sym (places_of-push runs run)) countable in
    record { ends = All-push Ends runs run is.ends ends; in_width = more.in_width; apart = more.apart }

pub walk-few : (runs : List Run) → IsWalk runs → length (places_of runs) ≤ 2 ^ 38
walk-few runs is = countable-few (places_of runs) (record { in_width = is.in_width; apart = is.apart })

pub walk-empty : (runs : List Run) → runs ≡ [] → IsWalk runs
walk-empty runs none = subst IsWalk (sym none) (record { ends = All-nil Ends; in_width = tt; apart = nothing_apart })

-- what a look-up of a run gives past the end
abbrev pub no_run : Run
no_run = record { shard = record { 0 = 0 }; segment = record { 0 = 0 }; first = 0; count = 0 }

-- The places from a run on are those of the run and of the runs after it.
pub walked : (runs : List Run) (index : ℕ) → index < length runs
    → places_of (drop index runs) ≡ run_places (get_or runs index no_run) ++ places_of (drop (index + 1) runs)
walked runs index within =
    let next : suc index ≡ index + 1 = omega arith in
    let run = get_or runs index no_run in
    ap places_of (drop_at runs index run (slice_get-get_or runs index no_run within))
    ∙ ap (λ (n : ℕ). run_places run ++ places_of (drop n runs)) next
