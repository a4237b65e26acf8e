-- The slot that is found is the least that holds the value.
use Rattle.std.proofs.Common.{◌≡◌, ◌≢◌, ℕ, zero, suc, ◌+◌, ◌<◌, ◌≤◌, ◌&&◌, IsTrue, Bool, true, false, cond, leb, List, [], ◌∷◌, length, Option, Some, None, refl, sym, ap, ◌∙◌, subst, ⊎_elim, arith}
use Rattle.std.specs.List.{slice_get}
use Rattle.std.specs.Option.{MatchOption}
use Rattle.std.proofs.lemmas.Bool.{and_parts, cases_lt, leb-true, le-leb}
use Rattle.std.proofs.lemmas.Option.{slice_get_within}
use Rattle.record_frame.specs.declared.values.Value.{Value}
use Rattle.paxos_model.specs.Values.{same_value}
use Rattle.paxos_model.specs.Learner.{find_from, find_value}
use Rattle.paxos_model.proofs.Same.{same_value-true, same_value-refl}

-- none of the places of a list, which begins with the slot `at`, holds the value from a slot on
abbrev Nowhere : ℕ → List Value → Value → ℕ → Type 0
Nowhere at xs value from = (k : ℕ) → from ≤ at + k → slice_get xs k ≢ Some value

-- a slot is the least from one on that holds the value
record Least (at : ℕ) (xs : List Value) (value : Value) (from slot : ℕ) : Type 0 where
  place : ℕ
  is : slot ≡ at + place
  above : from ≤ slot
  holds : slice_get xs place ≡ Some value
  least : (k : ℕ) → k < place → from ≤ at + k → slice_get xs k ≢ Some value

-- one more value stands before the others, and it is the one that is looked for, or not
one_more : (hit : Bool) (rest : Option ℕ) (at : ℕ) (x : Value) (xs : List Value) (value : Value) (from : ℕ)
    → (hit ≡ true → (from ≤ at) × (x ≡ value))
    → (hit ≡ false → from ≤ at → x ≢ value)
    → MatchOption rest (Nowhere (suc at) xs value from) (Least (suc at) xs value from)
    → MatchOption (cond hit (Some at) rest) (Nowhere at (x ∷ xs) value from) (Least at (x ∷ xs) value from)
one_more true rest at x xs value from hits misses others =
    let here = hits refl in
    record { place = 0; is = omega arith; above = here.0; holds = ap Some here.1; least = λ k below reach same. absurd (omega (arith, below)) }
one_more false None at x xs value from hits misses others = nowhere
  where
    nowhere : Nowhere at (x ∷ xs) value from
    nowhere zero reach same = misses refl (omega (arith, reach)) (cc)
    nowhere (suc k) reach same = others k (omega (arith, reach)) same
one_more false (Some slot) at x xs value from hits misses others =
    record { place = suc others.place; is = omega (arith, others.is); above = others.above; holds = others.holds; least = least }
  where
    least : (k : ℕ) → k < suc others.place → from ≤ at + k → slice_get (x ∷ xs) k ≢ Some value
    least zero below reach same = misses refl (omega (arith, reach)) (cc)
    least (suc k) below reach same = others.least k (omega (arith, below)) (omega (arith, reach)) same

not_both : (a b : Bool) → (a && b) ≡ false → a ≡ true → b ≡ true → ⊥
not_both true true e p q = absurd (cc)
not_both true false e p q = absurd (cc)
not_both false b e p q = absurd (cc)

found : (at : ℕ) (xs : List Value) (value : Value) (from : ℕ)
    → MatchOption (find_from at xs value from) (Nowhere at xs value from) (Least at xs value from)
found at [] value from = λ k reach same. absurd (cc)
found at (x ∷ xs) value from =
    one_more (leb from at && same_value x value) (find_from (suc at) xs value from) at x xs value from
    (λ hit. let parts = and_parts (leb from at) (same_value x value) hit in (leb-true from at parts.0, same_value-true x value parts.1))
    (λ miss reach same. not_both (leb from at) (same_value x value) miss (le-leb from at reach) (subst (λ (v : Value). same_value x v ≡ true) same (same_value-refl x)))
    (found (suc at) xs value from)

-- none of the slots from one on, before another, holds the value
abbrev pub NoneBefore : List Value → Value → ℕ → ℕ → Type 0
NoneBefore known value from end = (k : ℕ) → from ≤ k → k < end → slice_get known k ≢ Some value

from_first : (answer : Option ℕ) (known : List Value) (value : Value) (from : ℕ)
    → MatchOption answer (Nowhere 0 known value from) (Least 0 known value from)
    → MatchOption answer ((k : ℕ) → from ≤ k → slice_get known k ≢ Some value)
    (λ slot. (from ≤ slot) × (slice_get known slot ≡ Some value) × NoneBefore known value from slot)
from_first None known value from nowhere = λ k reach. nowhere k (omega (arith, reach))
from_first (Some slot) known value from least =
    let same : least.place ≡ slot = omega (arith, least.is) in (
      least.above,
      subst (λ (k : ℕ). slice_get known k ≡ Some value) same least.holds,
      λ k reach below. least.least k (omega (arith, below, same)) (omega (arith, reach)),
    )

pub find_least : (known : List Value) (value : Value) (from : ℕ)
    → MatchOption (find_value known value from) ((k : ℕ) → from ≤ k → slice_get known k ≢ Some value)
    (λ slot. (from ≤ slot) × (slice_get known slot ≡ Some value) × NoneBefore known value from slot)
find_least known value from = from_first (find_value known value from) known value from (found 0 known value from)

-- what a walk over the slots has found
same_least : (answer : Option ℕ) (known : List Value) (value : Value) (from at : ℕ) → from ≤ at
    → NoneBefore known value from at → slice_get known at ≡ Some value
    → MatchOption answer ((k : ℕ) → from ≤ k → slice_get known k ≢ Some value)
    (λ slot. (from ≤ slot) × (slice_get known slot ≡ Some value) × NoneBefore known value from slot)
    → answer ≡ Some at
same_least None known value from at reach none here nowhere = absurd (nowhere at reach here)
same_least (Some slot) known value from at reach none here least =
    ⊎_elim (λ below. absurd (least.2 at reach below here))
    (λ not_below. ⊎_elim (λ before. absurd (none slot least.0 before least.1)) (λ not_before. ap Some (omega (arith, not_below, not_before))) (cases_lt slot at))
    (cases_lt at slot)

pub found_here : (known : List Value) (value : Value) (from at : ℕ) → from ≤ at
    → NoneBefore known value from at → slice_get known at ≡ Some value → find_value known value from ≡ Some at
found_here known value from at reach none here =
    same_least (find_value known value from) known value from at reach none here (find_least known value from)

-- a walk to the end has found nothing
same_none : (answer : Option ℕ) (known : List Value) (value : Value) (from end : ℕ) → length known ≤ end
    → NoneBefore known value from end
    → MatchOption answer ((k : ℕ) → from ≤ k → slice_get known k ≢ Some value)
    (λ slot. (from ≤ slot) × (slice_get known slot ≡ Some value) × NoneBefore known value from slot)
    → answer ≡ None
same_none None known value from end past none nowhere = refl
same_none (Some slot) known value from end past none least =
    let inside : slot < length known = slice_get_within known slot value least.1 in
    absurd (none slot least.0 (omega (arith, inside, past)) least.1)

pub found_nowhere : (known : List Value) (value : Value) (from end : ℕ) → length known ≤ end
    → NoneBefore known value from end → find_value known value from ≡ None
found_nowhere known value from end past none =
    same_none (find_value known value from) known value from end past none (find_least known value from)

pub one_passed : (known : List Value) (value : Value) (from at : ℕ) → NoneBefore known value from at
    → slice_get known at ≢ Some value → NoneBefore known value from (at + 1)
one_passed known value from at none miss k reach below same =
    ⊎_elim (λ before. none k reach before same)
    (λ not_before. let here : k ≡ at = omega (arith, below, not_before) in miss (subst (λ (i : ℕ). slice_get known i ≡ Some value) here same))
    (cases_lt k at)

pub never : (b : Bool) → IsTrue b → b ≡ false → ⊥
never true holds e = absurd (cc)
never false holds e = absurd (cc)

-- where a value stands at a place, another stands there too exactly where it is the same
pub holding : (known : List Value) (at : ℕ) (x value : Value) (hit : Bool) → slice_get known at ≡ Some x
    → (IsTrue hit → x ≡ value) → (x ≡ value → IsTrue hit)
    → (IsTrue hit → slice_get known at ≡ Some value) × (slice_get known at ≡ Some value → IsTrue hit)
holding known at x value hit here yes_same same_yes =
    (λ is_hit. here ∙ ap Some (yes_same is_hit), λ there. same_yes (some_same x value (sym here ∙ there)))
  where
    some_same : (a b : Value) → Some a ≡ Some b → a ≡ b
    some_same a b e = cc

pub nothing_held : (known : List Value) (at : ℕ) (value : Value) → length known ≤ at
    → (IsTrue false → slice_get known at ≡ Some value) × (slice_get known at ≡ Some value → IsTrue false)
nothing_held known at value past = (
  λ hit. absurd (cc),
  λ there. let inside : at < length known = slice_get_within known at value there in absurd (omega (arith, inside, past)),
)
