-- The state of a shard among the states of shards, and what a change of each state does to it.
use Rattle.std.proofs.Common.{◌≡◌, ℕ, zero, suc, true, false, eqb, List, [], ◌∷◌, ◌++◌, map, replicate, None, Some, refl, sym, ap, ◌∙◌, ⊎_elim}
use Rattle.std.specs.Prelude.{slice_index}
use Rattle.std.specs.List.{list_any}
use Rattle.std.specs.Option.{option_map}
use Rattle.std.proofs.lemmas.Bool.{cases_Bool, cases_eq, or_parts, or_from, eq-eqb, ne_eqb, eqb-false, cond-true, cond-false}
use Rattle.std.proofs.lemmas.List.Folds.{list_any-append}
use Rattle.log_model.specs.Chain.{ShardState, is_of, state_in, covered_length, AreApart}

-- a change that leaves each shard its number
abbrev pub KeepsNumber : (ShardState → ShardState) → Type 0
KeepsNumber change = (state : ShardState) → (change state).shard ≡ state.shard

-- The first state is that of its shard, and no other shard's.
pub state_in-here : (state : ShardState) (states : List ShardState) (shard : ℕ) → state.shard ≡ shard
    → state_in (state ∷ states) shard ≡ Some state
state_in-here state states shard same = cond-true (eqb state.shard shard) _ _ (eq-eqb state.shard shard same)

pub state_in-later : (state : ShardState) (states : List ShardState) (shard : ℕ) → (state.shard ≡ shard → ⊥)
    → state_in (state ∷ states) shard ≡ state_in states shard
state_in-later state states shard other = cond-false (eqb state.shard shard) _ _ (ne_eqb state.shard shard other)

-- After a change of each state, the shard has the changed state.
pub state_in-map : (change : ShardState → ShardState) → KeepsNumber change → (states : List ShardState) (shard : ℕ)
    → state_in (map change states) shard ≡ option_map change (state_in states shard)
state_in-map change keeps [] shard = refl
state_in-map change keeps (state ∷ states) shard =
    let again = state_in-map change keeps states shard in
    ⊎_elim
    (λ same. state_in-here (change state) (map change states) shard (keeps state ∙ same)
    ∙ ap (option_map change) (sym (state_in-here state states shard same)))
    (λ other. state_in-later (change state) (map change states) shard (λ e. other (sym (keeps state) ∙ e))
    ∙ again ∙ ap (option_map change) (sym (state_in-later state states shard other)))
    (cases_eq state.shard shard)

pub is_added-map : (change : ShardState → ShardState) → KeepsNumber change → (states : List ShardState) (shard : ℕ)
    → list_any (is_of shard) (map change states) ≡ list_any (is_of shard) states
is_added-map change keeps [] shard = refl
is_added-map change keeps (state ∷ states) shard =
    let again = is_added-map change keeps states shard in
    rw (keeps state, again) refl

-- A change that keeps the numbers keeps them apart.
pub AreApart-map : (change : ShardState → ShardState) → KeepsNumber change → (states : List ShardState)
    → AreApart states → AreApart (map change states)
AreApart-map change keeps [] apart = tt
AreApart-map change keeps (state ∷ states) apart =
    let alone = is_added-map change keeps states (change state).shard ∙ ap (λ (n : ℕ). list_any (is_of n) states) (keeps state) ∙ apart.0 in
    (alone, AreApart-map change keeps states apart.1)

-- One more shard, which is not there, is apart from the others.
pub AreApart-push : (states : List ShardState) (state : ShardState) → list_any (is_of state.shard) states ≡ false
    → AreApart states → AreApart (states ++ state ∷ [])
AreApart-push [] state new apart = (refl, tt)
AreApart-push (first ∷ rest) state new apart =
    let parts = or_parts (eqb first.shard state.shard) (list_any (is_of state.shard) rest) new in
    let unlike : eqb state.shard first.shard ≡ false =
    ne_eqb state.shard first.shard (λ e. eqb-false first.shard state.shard parts.0 (sym e)) in
    let alone : list_any (is_of first.shard) (rest ++ state ∷ []) ≡ false =
    list_any-append (is_of first.shard) rest (state ∷ [])
    ∙ or_from _ _ apart.0 (or_from (eqb state.shard first.shard) false unlike refl) in
    (alone, AreApart-push rest state parts.1 apart.1)

-- A shard that is there has a state, and one that is not has none.
pub state_of_added : (states : List ShardState) (shard : ℕ) → list_any (is_of shard) states ≡ true
    → (state : ShardState) × (state_in states shard ≡ Some state)
state_of_added [] shard added = absurd (cc)
state_of_added (state ∷ states) shard added =
    ⊎_elim
    (λ same. (state, rw same refl))
    (λ other.
    let again = state_of_added states shard (rw other at added) in
    (again.0, rw other again.1))
    (cases_Bool (eqb state.shard shard))

pub state_of_not_added : (states : List ShardState) (shard : ℕ) → list_any (is_of shard) states ≡ false → state_in states shard ≡ None
state_of_not_added [] shard absent = refl
state_of_not_added (state ∷ states) shard absent =
    let parts = or_parts (eqb state.shard shard) (list_any (is_of shard) states) absent in
    cond-false (eqb state.shard shard) _ _ parts.0 ∙ state_of_not_added states shard parts.1

-- A new shard covers nothing.
pub replicate-zero : (count segment : ℕ) → slice_index (replicate count 0) segment ≡ 0
replicate-zero zero segment = refl
replicate-zero (suc count) zero = refl
replicate-zero (suc count) (suc segment) = replicate-zero count segment

pub covered_length-push : (states : List ShardState) (new : ShardState) (shard segment : ℕ) → slice_index new.covered segment ≡ 0
    → covered_length (state_in (states ++ new ∷ []) shard) segment ≡ covered_length (state_in states shard) segment
covered_length-push [] new shard segment none =
    ⊎_elim
    (λ same. rw same none)
    (λ other. rw other refl)
    (cases_Bool (eqb new.shard shard))
covered_length-push (state ∷ states) new shard segment none =
    let again = covered_length-push states new shard segment none in
    ⊎_elim
    (λ same. rw same refl)
    (λ other. rw other again)
    (cases_Bool (eqb state.shard shard))
