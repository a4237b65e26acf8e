-- Looking for a place from the newest run back.
use Rattle.std.proofs.Common.{◌≡◌, ℕ, zero, suc, ◌+◌, ◌<◌, ◌≤◌, Bool, true, false, eqb, cond, List, [], ◌∷◌, ◌++◌, map, length, None, Some, refl, sym, ap, ◌∙◌, subst, ◌⊎◌, inl, inr, ⊎_elim, take, drop, get_or, arith, append_assoc, length-append}
use Rattle.std.specs.Prelude.{slice_get, ◌||◌}
use Rattle.std.specs.List.{AllByRecursion, IsDistinct, list_any}
use Rattle.std.proofs.Math.Seq.{take-suc}
use Rattle.std.proofs.lemmas.Bool.{cases_Bool, eq-eqb}
use Rattle.std.proofs.lemmas.List.{append-nil}
use Rattle.log_base.specs.declared.numbers.Place.{Place}
use Rattle.log_model.specs.Places.{is_same_place}
use Rattle.log_model.specs.Lookup.{position_from}
use Rattle.log_model.proofs.Position.{index_from_position, position_from_index, position_from_none, times-position_none}
use Rattle.log_model.proofs.Runs.{length-places_from}
use Rattle.log_model.proofs.Times.{times, same_place}
use Rattle.cut_chain.specs.declared.runs.Run.{Run}
use Rattle.cut_chain.specs.Runs.{offset_in, places_of, run_places}
use Rattle.cut_chain.specs.Walk.{IsCounted, IsWalk, place_number}
use Rattle.cut_chain.proofs.Walks.{no_run, places_of-push, position_found, position_past, walk-empty, walked}

-- ---- lists of places

times-append : (xs ys : List Place) (place : Place) → times (xs ++ ys) place ≡ times xs place + times ys place
times-append [] ys place = omega arith
times-append (x ∷ xs) ys place = let rest = times-append xs ys place in omega (arith, rest)

get-behind : (xs ys : List Place) (i : ℕ) → slice_get (xs ++ ys) (length xs + i) ≡ slice_get ys i
get-behind [] ys i = let zero_more : 0 + i ≡ i = omega arith in ap (slice_get ys) zero_more
get-behind (x ∷ xs) ys i = let next : suc (length xs) + i ≡ suc (length xs + i) = omega arith in ap (slice_get (x ∷ (xs ++ ys))) next ∙ get-behind xs ys i

-- a place that is listed has its number among the others'
number-listed : (places : List Place) (place : Place) → 1 ≤ times places place → list_any (eqb (place_number place)) (map place_number places) ≡ true
number-listed [] place listed = absurd (omega (arith, listed))
number-listed (first ∷ rest) place listed =
    ⊎_elim
    (λ own.
    let same : eqb (place_number place) (place_number first) ≡ true = eq-eqb _ _ (ap place_number (sym (same_place first place own))) in
    rw same refl)
    (λ other.
    let later = number-listed rest place (omega (arith, rw other at listed)) in
    either (eqb (place_number place) (place_number first)) (list_any (eqb (place_number place)) (map place_number rest)) later)
    (cases_Bool (is_same_place first place))
  where
    either : (a b : Bool) → b ≡ true → (a || b) ≡ true
    either true b h = refl
    either false b h = h

neither : (a b : Bool) → a ≡ false → b ≡ false → (a || b) ≡ false
neither true b one other = one
neither false b one other = other

none_any : (number : ℕ) (numbers : List ℕ) → AllByRecursion (λ (n : ℕ). eqb number n ≡ false) numbers → list_any (eqb number) numbers ≡ false
none_any number [] none = refl
none_any number (n ∷ numbers) none = neither (eqb number n) (list_any (eqb number) numbers) none.0 (none_any number numbers none.1)

-- how often a place is one other
abbrev own_times : Place → Place → ℕ
own_times first place = cond (is_same_place first place) 1 0

-- places whose numbers differ are listed once
once : (places : List Place) → IsDistinct eqb (map place_number places) → (place : Place) → times places place ≤ 1
unfolding IsDistinct
once [] apart place = omega arith
once (first ∷ rest) apart place =
    let again = once rest apart.1 place in
    ⊎_elim
    (λ own.
    let same : first ≡ place = same_place first place own in
    let one : own_times first place ≡ 1 = rw own refl in
    ⊎_elim
    (λ (some : 1 ≤ times rest place).
    let found = number-listed rest first (subst (λ (p : Place). 1 ≤ times rest p) (sym same) some) in
    let no : true ≡ false = sym found ∙ none_any (place_number first) (map place_number rest) apart.0 in
    absurd (cc))
    (λ (none : times rest place ≡ 0). omega (arith, one, none))
    (some_or_none (times rest place)))
    (λ other. let none : own_times first place ≡ 0 = rw other refl in omega (arith, none, again))
    (cases_Bool (is_same_place first place))
  where
    some_or_none : (n : ℕ) → (1 ≤ n) ⊎ (n ≡ 0)
    some_or_none zero = inr refl
    some_or_none (suc n) = inl (omega arith)

-- ---- runs

-- the places of one run more
pub front : (runs : List Run) (n : ℕ) → n < length runs → places_of (take (suc n) runs) ≡ places_of (take n runs) ++ run_places (get_or runs n no_run)
front runs n within = ap places_of (take-suc runs n no_run within) ∙ places_of-push (take n runs) (get_or runs n no_run)

no_times : (run : Run) (place : Place) → offset_in run place ≡ None → times (run_places run) place ≡ 0
no_times run place none =
    times-position_none 0 (run_places run) place
    (ap (λ (ps : List Place). position_from 0 ps place) (sym (append-nil (run_places run))) ∙ position_past 0 run [] place none)

-- a run that has not the place
pub not_from : (runs : List Run) (n : ℕ) (place : Place) → n < length runs → offset_in (get_or runs n no_run) place ≡ None
    → times (places_of (drop (n + 1) runs)) place ≡ 0 → times (places_of (drop n runs)) place ≡ 0
not_from runs n place within none behind =
    let run = get_or runs n no_run in
    let both = ap (λ (ps : List Place). times ps place) (walked runs n within) ∙ times-append (run_places run) (places_of (drop (n + 1) runs)) place in
    omega (arith, both, no_times run place none, behind)

-- a run that has it
pub found_in : (runs : List Run) (total n start index : ℕ) (place : Place) → IsCounted runs total → n < length runs → start ≡ length (places_of (take n runs))
    → places_of runs ≡ places_of (take n runs) ++ places_of (drop n runs)
    → offset_in (get_or runs n no_run) place ≡ Some index → position_from 0 (places_of runs) place ≡ Some (start + index)
found_in runs total n start index place counted within at parts found =
    let run = get_or runs n no_run in
    let rest = places_of (drop (n + 1) runs) in
    let stands = index_from_position 0 (run_places run ++ rest) place index (position_found 0 run rest place index found ∙ (let here : 0 + index ≡ index = omega arith in ap (λ (k : ℕ). Some k) here)) in
    let i : index ≡ stands.0 = omega (arith, stands.1) in
    let there : slice_get (places_of runs) (start + index) ≡ Some place =
    ap (λ (k : ℕ). slice_get (places_of runs) (k + index)) at
    ∙ ap (λ (ps : List Place). slice_get ps (length (places_of (take n runs)) + index)) parts
    ∙ get-behind (places_of (take n runs)) (places_of (drop n runs)) index
    ∙ ap (λ (ps : List Place). slice_get ps index) (walked runs n within)
    ∙ ap (slice_get (run_places run ++ rest)) i ∙ stands.2 in
    position_from_index 0 (places_of runs) place (start + index) (once (places_of runs) counted.walk.apart place) there ∙ (let here : 0 + (start + index) ≡ start + index = omega arith in ap (λ (k : ℕ). Some k) here)

-- no run has it
pub found_nowhere : (runs : List Run) (place : Place) → times (places_of runs) place ≡ 0 → position_from 0 (places_of runs) place ≡ None
found_nowhere runs place none = position_from_none 0 (places_of runs) place none

-- the places of a front and those behind it
pub in_parts : (runs : List Run) (n : ℕ) → places_of runs ≡ places_of (take n runs) ++ places_of (drop n runs)
in_parts runs zero = refl
in_parts [] (suc n) = refl
in_parts (run ∷ runs) (suc n) =
    ap (λ (ps : List Place). run_places run ++ ps) (in_parts runs n) ∙ sym (append_assoc (run_places run) (places_of (take n runs)) (places_of (drop n runs)))

-- ---- how many places there are

-- no run is there
pub counted-empty : (runs : List Run) (total : ℕ) → runs ≡ [] → total ≡ 0 → IsCounted runs total
counted-empty runs total none zero_is = record { walk = walk-empty runs none; total_is = zero_is ∙ ap (λ (rs : List Run). length (places_of rs)) (sym none) }

-- one run more
pub counted-push : (runs : List Run) (run : Run) (total : ℕ) → IsWalk (runs ++ run ∷ []) → IsCounted runs total → IsCounted (runs ++ run ∷ []) (total + run.count)
counted-push runs run total walk counted =
    let size = ap length (places_of-push runs run) in
    record {
      walk = walk;
      total_is = omega (arith, counted.total_is, size, length-append (places_of runs) (run_places run), length-places_from run.shard.0 run.segment.0 run.first run.count);
    }
