-- The least of what some replicas said.
use Rattle.std.proofs.Common.{◌≡◌, ◌≢◌, ℕ, zero, suc, ◌<◌, ◌≤◌, List, [], ◌∷◌, Option, Some, None, get_or, min, refl, sym, ap, subst, Bool, true, false, ltb, ◌⊎◌, inl, inr, arith}
use Rattle.std.specs.Prelude.{◌↔◌}
use Rattle.std.specs.List.{Contains}
use Rattle.std.proofs.lemmas.Option.{same_Some}
use Rattle.std.proofs.lemmas.Option.{none-some}
use Rattle.std.proofs.lemmas.Bool.{ltb-true, ltb-false}
use Rattle.record_frame.specs.declared.values.Lengths.{Lengths}
use Rattle.aggregator.specs.Hearing.{least_of_all, least_with, lesser_of}
use Rattle.aggregator.proofs.Merged.{get_or-lesser_of}

-- the length of a segment
abbrev at : Lengths → ℕ → ℕ
at lengths segment = get_or lengths.length segment 0

abbrev both : Lengths → Lengths → Lengths
both first second = record { count = first.count; length = lesser_of first.length second.length }

front : {X : Type 0} → (x : X) (xs : List X) → Contains (x ∷ xs) x
front x xs = (0, omega arith, refl)

behind : {X : Type 0} → (y : X) (xs : List X) (x : X) → Contains xs x → Contains (y ∷ xs) x
behind y xs x (k, below, is) = (suc k, omega arith, is)

-- the least that is found is at most the first, and at most each other
below_first : (first : Lengths) (cells : List (Option Lengths)) (least : Lengths) (segment : ℕ)
    → least_with first cells ≡ Some least → at least segment ≤ at first segment
below_first first [] least segment found =
    let same : first ≡ least = same_Some first least found in
    subst (λ (l : Lengths). at l segment ≤ at first segment) same (omega arith)
below_first first (None ∷ cells) least segment found = absurd (none-some least found)
below_first first (Some next ∷ cells) least segment found =
    let rest : at least segment ≤ at (both first next) segment = below_first (both first next) cells least segment found in
    let lesser : at (both first next) segment ≡ min (at first segment) (at next segment) = get_or-lesser_of first.length next.length segment in
    omega arith

below_each : (first : Lengths) (cells : List (Option Lengths)) (least heard : Lengths) (segment : ℕ)
    → least_with first cells ≡ Some least → Contains cells (Some heard) → at least segment ≤ at heard segment
below_each first [] least heard segment found (k, below, is) = absurd (omega arith)
below_each first (None ∷ cells) least heard segment found holds = absurd (none-some least found)
below_each first (Some next ∷ cells) least heard segment found (zero, below, is) =
    let same : next ≡ heard = same_Some next heard is in
    let rest : at least segment ≤ at (both first next) segment = below_first (both first next) cells least segment found in
    let lesser : at (both first next) segment ≡ min (at first segment) (at next segment) = get_or-lesser_of first.length next.length segment in
    subst (λ (l : Lengths). at least segment ≤ at l segment) same (omega arith)
below_each first (Some next ∷ cells) least heard segment found (suc k, below, is) =
    below_each (both first next) cells least heard segment found (k, omega arith, is)

pub below_all : (cells : List (Option Lengths)) (least heard : Lengths) (segment : ℕ)
    → least_of_all cells ≡ Some least → Contains cells (Some heard) → at least segment ≤ at heard segment
below_all [] least heard segment found (k, below, is) = absurd (omega arith)
below_all (None ∷ cells) least heard segment found holds = absurd (none-some least found)
below_all (Some first ∷ cells) least heard segment found (zero, below, is) =
    let same : first ≡ heard = same_Some first heard is in
    subst (λ (l : Lengths). at least segment ≤ at l segment) same (below_first first cells least segment found)
below_all (Some first ∷ cells) least heard segment found (suc k, below, is) =
    below_each first cells least heard segment found (k, omega arith, is)

-- a length of the least is that of the first, or of another
abbrev Reached : List (Option Lengths) → Lengths → ℕ → Type 0
Reached cells least segment = (heard : Lengths) × Contains cells (Some heard) × (at least segment ≡ at heard segment)

further : (cell : Option Lengths) (cells : List (Option Lengths)) (least : Lengths) (segment : ℕ)
    → Reached cells least segment → Reached (cell ∷ cells) least segment
further cell cells least segment (heard, holds, is) = (heard, behind cell cells (Some heard) holds, is)

reached_with : (first : Lengths) (cells : List (Option Lengths)) (least : Lengths) (segment : ℕ)
    → least_with first cells ≡ Some least → (at least segment ≡ at first segment) ⊎ Reached cells least segment
reached_with first [] least segment found =
    inl (ap (λ (l : Lengths). at l segment) (sym (same_Some first least found)))
reached_with first (None ∷ cells) least segment found = absurd (none-some least found)
reached_with first (Some next ∷ cells) least segment found =
    by (reached_with (both first next) cells least segment found) (ltb f n) (ltb-true f n) (ltb-false f n)
  where
    f : ℕ
    f = at first segment

    n : ℕ
    n = at next segment

    lesser : at (both first next) segment ≡ min (at first segment) (at next segment)
    lesser = get_or-lesser_of first.length next.length segment

    by : (at least segment ≡ at (both first next) segment) ⊎ Reached cells least segment
        → (less : Bool) → (less ≡ true → f < n) → (less ≡ false → n ≤ f)
        → (at least segment ≡ at first segment) ⊎ Reached (Some next ∷ cells) least segment
    by (inl is) true under above = let less : f < n = under refl in inl (omega (arith, lesser))
    by (inl is) false under above =
        let less : n ≤ f = above refl in
        inr (next, front (Some next) cells, omega (arith, lesser))
    by (inr there) less under above = inr (further (Some next) cells least segment there)

pub reached : (cells : List (Option Lengths)) (least : Lengths) (segment : ℕ)
    → least_of_all cells ≡ Some least → Reached cells least segment
reached [] least segment found = absurd (none-some least found)
reached (None ∷ cells) least segment found = absurd (none-some least found)
reached (Some first ∷ cells) least segment found = by (reached_with first cells least segment found)
  where
    by : (at least segment ≡ at first segment) ⊎ Reached cells least segment → Reached (Some first ∷ cells) least segment
    by (inl is) = (first, front (Some first) cells, is)
    by (inr there) = further (Some first) cells least segment there

-- there is no least where one said nothing, and else there is one
missing_in : (first : Lengths) (cells : List (Option Lengths)) → least_with first cells ≡ None → Contains cells None
missing_in first [] none = absurd (none-some first (sym none))
missing_in first (None ∷ cells) none = front None cells
missing_in first (Some next ∷ cells) none = behind (Some next) cells None (missing_in (both first next) cells none)

none_with : (first : Lengths) (cells : List (Option Lengths)) → Contains cells None → least_with first cells ≡ None
none_with first [] (k, below, is) = absurd (omega arith)
none_with first (None ∷ cells) holds = refl
none_with first (Some next ∷ cells) (zero, below, is) = absurd (none-some next (sym is))
none_with first (Some next ∷ cells) (suc k, below, is) = none_with (both first next) cells (k, omega arith, is)

pub none_exactly : (cells : List (Option Lengths)) → cells ≢ [] → least_of_all cells ≡ None ↔ Contains cells None
none_exactly [] some = absurd (some refl)
none_exactly (None ∷ cells) some = (λ none. front None cells, λ holds. refl)
none_exactly (Some first ∷ cells) some = (λ none. behind (Some first) cells None (missing_in first cells none), back)
  where
    back : Contains (Some first ∷ cells) None → least_with first cells ≡ None
    back (zero, below, is) = absurd (none-some first (sym is))
    back (suc k, below, is) = none_with first cells (k, omega arith, is)
