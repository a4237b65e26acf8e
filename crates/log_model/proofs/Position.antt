-- The position of a place in a list is its index there.
use Rattle.std.proofs.Common.{◌≡◌, ℕ, zero, suc, ◌+◌, ◌≤◌, true, List, [], ◌∷◌, ◌++◌, None, Some, refl, ap, ◌∙◌, ⊎_elim, arith}
use Rattle.std.specs.Prelude.{slice_get}
use Rattle.std.proofs.lemmas.Bool.{cases_Bool, cond-false}
use Rattle.log_base.specs.declared.numbers.Place.{Place}
use Rattle.log_model.specs.Places.{is_same_place}
use Rattle.log_model.specs.Lookup.{position_from}
use Rattle.log_model.proofs.Times.{times, times-listed, same_place, is_same_place-of_equal}

-- Where the position is found, the place stands.
pub index_from_position : (at : ℕ) (xs : List Place) (place : Place) (position : ℕ) → position_from at xs place ≡ Some position
    → (i : ℕ) × (position ≡ at + i) × (slice_get xs i ≡ Some place)
index_from_position at [] place position found = absurd (cc)
index_from_position at (first ∷ rest) place position found =
    ⊎_elim
    (λ same.
    let here : Some at ≡ Some position = rw same at found in
    let is_at : at ≡ position = cc in
    (0, omega arith, ap Some (same_place first place same)))
    (λ other.
    let later : position_from (suc at) rest place ≡ Some position = rw other at found in
    let again = index_from_position (suc at) rest place position later in
    (suc again.0, omega (arith, again.1), again.2))
    (cases_Bool (is_same_place first place))

-- Where a place stands that is listed once, its position is found.
pub position_from_index : (at : ℕ) (xs : List Place) (place : Place) (i : ℕ) → times xs place ≤ 1 → slice_get xs i ≡ Some place
    → position_from at xs place ≡ Some (at + i)
position_from_index at [] place i once stands = absurd (cc)
position_from_index at (first ∷ rest) place zero once stands =
    let same : is_same_place first place ≡ true = is_same_place-of_equal first place (cc) in
    let sum : at + 0 ≡ at = omega arith in
    rw (same, sum) refl
position_from_index at (first ∷ rest) place (suc i) once stands =
    ⊎_elim
    (λ same.
    let twice : 1 + times rest place ≤ 1 = rw same at once in
    absurd (omega (arith, times-listed rest i place stands)))
    (λ other.
    let rest_once : times rest place ≤ 1 = omega (arith, once) in
    let again = position_from_index (suc at) rest place i rest_once stands in
    let sum : suc at + i ≡ at + suc i = omega arith in
    cond-false (is_same_place first place) (Some at) (position_from (suc at) rest place) other ∙ again ∙ ap Some sum)
    (cases_Bool (is_same_place first place))

-- No position is found where a place is not listed, and there alone.
pub position_from_none : (at : ℕ) (xs : List Place) (place : Place) → times xs place ≡ 0 → position_from at xs place ≡ None
position_from_none at [] place none = refl
position_from_none at (first ∷ rest) place none =
    ⊎_elim
    (λ same. absurd (omega (arith, rw same at none)))
    (λ other. rw other (position_from_none (suc at) rest place (omega (arith, none))))
    (cases_Bool (is_same_place first place))

pub times-position_none : (at : ℕ) (xs : List Place) (place : Place) → position_from at xs place ≡ None → times xs place ≡ 0
times-position_none at [] place none = refl
times-position_none at (first ∷ rest) place none =
    ⊎_elim
    (λ same. let here : Some at ≡ None = rw same at none in absurd (cc))
    (λ other.
    let again = times-position_none (suc at) rest place (rw other at none) in
    rw other (omega (arith, again)))
    (cases_Bool (is_same_place first place))

-- What stands at an index stays there when more is appended.
pub slice_get_kept : (xs ys : List Place) (i : ℕ) (place : Place) → slice_get xs i ≡ Some place → slice_get (xs ++ ys) i ≡ Some place
slice_get_kept [] ys i place stands = absurd (cc)
slice_get_kept (first ∷ rest) ys zero place stands = stands
slice_get_kept (first ∷ rest) ys (suc i) place stands = slice_get_kept rest ys i place stands
