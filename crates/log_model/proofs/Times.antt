-- How many times a place is listed, and what this says of the list: a place that is listed once has one index.
use Rattle.std.proofs.Common.{◌≡◌, ℕ, zero, suc, ◌+◌, ◌<◌, ◌≤◌, true, false, cond, eqb, ltb, List, [], ◌∷◌, length, Some, refl, ap, ◌∙◌, subst, ⊎_elim, arith, zero-add}
use Rattle.std.specs.Prelude.{slice_get}
use Rattle.std.specs.List.{Contains}
use Rattle.std.proofs.lemmas.Bool.{eqb-true, eq-eqb, and_parts, and_left, cases_Bool, cond-true, cond-false, cases_order}
use Rattle.std.proofs.lemmas.Option.{slice_get-get_or, slice_get_within, get_or_from_slice_get}
use Rattle.std.proofs.lemmas.Bool.Decides.{nat_tests}
use Rattle.log_base.specs.declared.numbers.Place.{Place}
use Rattle.log_model.specs.Places.{place_at, places_from, is_same_place, is_in}
use Rattle.log_model.proofs.Runs.{in_segment}

-- 1 where an offset is below a length, and otherwise 0
abbrev pub one_below : ℕ → ℕ → ℕ
one_below offset length = cond (ltb offset length) 1 0

-- how many times a place is listed
abbrev pub times : List Place → Place → ℕ
times [] place = 0
times (first ∷ rest) place = cond (is_same_place first place) 1 0 + times rest place

-- The test of two places says whether they are equal.
pub same_place : (a b : Place) → is_same_place a b ≡ true → a ≡ b
same_place a b same =
    let parts = and_parts _ _ same in
    let front = and_parts _ _ parts.0 in
    let shard : a.shard.0 ≡ b.shard.0 = eqb-true _ _ front.0 in
    let segment : a.segment.0 ≡ b.segment.0 = eqb-true _ _ front.1 in
    let offset : a.offset ≡ b.offset = eqb-true _ _ parts.1 in
    ap (λ (n : ℕ). place_at n a.segment.0 a.offset) shard
    ∙ ap (λ (n : ℕ). place_at b.shard.0 n a.offset) segment
    ∙ ap (λ (n : ℕ). place_at b.shard.0 b.segment.0 n) offset

pub is_same_place-itself : (place : Place) → is_same_place place place ≡ true
is_same_place-itself place =
    let shard = eq-eqb place.shard.0 place.shard.0 refl in
    let segment = eq-eqb place.segment.0 place.segment.0 refl in
    let offset = eq-eqb place.offset place.offset refl in
    rw (shard, segment, offset) refl

pub is_same_place-of_equal : (a b : Place) → a ≡ b → is_same_place a b ≡ true
is_same_place-of_equal a b e = subst (λ (p : Place). is_same_place a p ≡ true) e (is_same_place-itself a)

-- A place is listed as often as it is among those of its segment.
pub times-in_segment : (xs : List Place) (shard segment offset : ℕ)
    → times (in_segment shard segment xs) (place_at shard segment offset) ≡ times xs (place_at shard segment offset)
times-in_segment [] shard segment offset = refl
times-in_segment (first ∷ rest) shard segment offset =
    let place = place_at shard segment offset in
    let kept = in_segment shard segment rest in
    let again = times-in_segment rest shard segment offset in
    ⊎_elim
    (λ inside.
    let whole = ap (λ (places : List Place). times places place) (cond-true (is_in shard segment first) (first ∷ kept) kept inside) in
    omega (arith, whole, again))
    (λ outside.
    let fewer = ap (λ (places : List Place). times places place) (cond-false (is_in shard segment first) (first ∷ kept) kept outside) in
    let other : is_same_place first place ≡ false = and_left _ _ outside in
    let none : cond {A = ℕ} (is_same_place first place) 1 0 ≡ 0 = cond-false (is_same_place first place) 1 0 other in
    omega (arith, fewer, none, again))
    (cases_Bool (is_in shard segment first))

one_more_below : (from offset : ℕ) → cond (eqb from offset) 1 0 + one_below offset from ≡ one_below offset (suc from)
one_more_below from offset = grind (arith, nat_tests)

same_run : (shard segment from offset : ℕ) → is_same_place (place_at shard segment from) (place_at shard segment offset) ≡ eqb from offset
same_run shard segment from offset = rw (eq-eqb shard shard refl, eq-eqb segment segment refl) refl

-- A run of places in one segment, from one on, has each offset below its end that is not below its start.
pub times-run : (shard segment from count offset : ℕ)
    → times (places_from shard segment from count) (place_at shard segment offset) + one_below offset from ≡ one_below offset (from + count)
times-run shard segment from zero offset =
    let start : from + 0 ≡ from = omega arith in
    rw start (zero-add (one_below offset from))
times-run shard segment from (suc count) offset =
    let again = times-run shard segment (suc from) count offset in
    let more = one_more_below from offset in
    let test = same_run shard segment from offset in
    let ends : from + suc count ≡ suc from + count = omega arith in
    rw (test, ends) (omega (arith, again, more))

-- A place that stands at an index is listed.
pub times-listed : (xs : List Place) (i : ℕ) (place : Place) → slice_get xs i ≡ Some place → 1 ≤ times xs place
times-listed [] i place at = absurd (cc)
times-listed (first ∷ rest) zero place at =
    let same : is_same_place first place ≡ true = is_same_place-of_equal first place (cc) in
    rw same (omega arith)
times-listed (first ∷ rest) (suc i) place at =
    let again = times-listed rest i place at in
    omega (arith, again)

-- A place that stands at two indices is listed twice.
pub times-listed_twice : (xs : List Place) (i j : ℕ) (place : Place) → i < j → slice_get xs i ≡ Some place → slice_get xs j ≡ Some place
    → 2 ≤ times xs place
times-listed_twice [] i j place before at_i at_j = absurd (cc)
times-listed_twice (first ∷ rest) i zero place before at_i at_j = absurd (omega arith)
times-listed_twice (first ∷ rest) zero (suc j) place before at_i at_j =
    let same : is_same_place first place ≡ true = is_same_place-of_equal first place (cc) in
    let later = times-listed rest j place at_j in
    rw same (omega (arith, later))
times-listed_twice (first ∷ rest) (suc i) (suc j) place before at_i at_j =
    let again = times-listed_twice rest i j place (omega arith) at_i at_j in
    omega (arith, again)

-- A place that is listed at most once has one index.
pub one_index : (xs : List Place) (i j : ℕ) (place : Place) → times xs place ≤ 1 → slice_get xs i ≡ Some place → slice_get xs j ≡ Some place
    → i ≡ j
one_index xs i j place once at_i at_j =
    ⊎_elim (λ same. same)
    (⊎_elim
    (λ before. absurd (omega (arith, times-listed_twice xs i j place before at_i at_j)))
    (λ after. absurd (omega (arith, times-listed_twice xs j i place after at_j at_i))))
    (cases_order i j)

-- A place that is listed stands at an index.
pub index_of_listed : (xs : List Place) (place : Place) → 1 ≤ times xs place → (i : ℕ) × (slice_get xs i ≡ Some place)
index_of_listed [] place listed = absurd (omega arith)
index_of_listed (first ∷ rest) place listed =
    ⊎_elim
    (λ same. (0, ap Some (same_place first place same)))
    (λ other.
    let after : 1 ≤ times rest place = omega (arith, rw other at listed) in
    let again = index_of_listed rest place after in
    (suc again.0, again.1))
    (cases_Bool (is_same_place first place))

-- `Contains` and the count.
pub listed_where_contained : (xs : List Place) (place : Place) → Contains xs place → 1 ≤ times xs place
listed_where_contained xs place found =
    times-listed xs found.0 place (slice_get-get_or xs found.0 place found.1 ∙ ap Some found.2)

pub contained_where_listed : (xs : List Place) (place : Place) → 1 ≤ times xs place → Contains xs place
contained_where_listed xs place listed =
    let at = index_of_listed xs place listed in
    (at.0, slice_get_within xs at.0 place at.1, get_or_from_slice_get xs at.0 place place at.1)
