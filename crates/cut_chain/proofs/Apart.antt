-- An order whose shards differ, and the shards of the chain that it stands for.
use Rattle.std.proofs.Common.{◌≡◌, ◌≢◌, ℕ, zero, suc, ◌<◌, true, false, eqb, List, [], ◌∷◌, ◌++◌, take, drop, Option, None, Some, is_some, refl, sym, ap, ◌∙◌, subst, ⊎_elim}
use Rattle.std.specs.Prelude.{slice_get, IsSome}
use Rattle.std.specs.Option.{option_map}
use Rattle.std.specs.List.{list_any, All}
use Rattle.std.proofs.lemmas.List.Elements.{All-head, All-tail}
use Rattle.std.proofs.lemmas.Bool.{cases_Bool, eqb-true, eq-eqb, ne_eqb, eqb-false}
use Rattle.log_base.specs.declared.numbers.Shard.{Shard}
use Rattle.log_model.specs.Chain.{ShardState, is_of, AreApart as ApartStates}
use Rattle.shard_registry.specs.declared.answers.State.{State}
use Rattle.shard_registry.specs.declared.answers.State.TheVariants.{Live, Finalised}
use Rattle.shard_registry.specs.Order.{Order, number, shard_in, is_shard, is_listed, state_in_order, entry_of}
use Rattle.shard_registry.proofs.Follows.{entries_of, listed-entries_of}
use Rattle.cut_chain.specs.Covering.{shard_state, shards_of, lengths_of, AreApart}

-- The shards that an order stands for have that order.
entry-back : (replicas : ℕ) (covered : List ℕ) (shard : Shard) (state : State) → entry_of (shard_state replicas covered (shard, state)) ≡ (shard, state)
entry-back replicas covered shard Live = refl
entry-back replicas covered shard Finalised = refl

pub entries-back : (replicas : ℕ) (covered : List ℕ) (order : Order) → entries_of (shards_of replicas covered order) ≡ order
entries-back replicas covered [] = refl
entries-back replicas covered (entry ∷ rest) =
    ap (λ (e : Shard × State). e ∷ entries_of (shards_of replicas covered rest)) (entry-back replicas covered entry.0 entry.1)
    ∙ ap (λ (es : Order). entry ∷ es) (entries-back replicas covered rest)

pub listed-shards_of : (replicas : ℕ) (covered : List ℕ) (order : Order) (shard : ℕ)
    → is_listed order shard ≡ list_any (is_of shard) (shards_of replicas covered order)
listed-shards_of replicas covered order shard =
    ap (λ (es : Order). is_listed es shard) (sym (entries-back replicas covered order)) ∙ listed-entries_of (shards_of replicas covered order) shard

pub apart_from_states : (replicas : ℕ) (covered : List ℕ) (order : Order) → ApartStates (shards_of replicas covered order) → AreApart order
apart_from_states replicas covered [] apart = tt
apart_from_states replicas covered (entry ∷ rest) apart =
    (listed-shards_of replicas covered rest (number entry) ∙ apart.0, apart_from_states replicas covered rest apart.1)

-- Of an order that does not list a shard, no entry is of it.
pub first_other : (entry : Shard × State) (rest : Order) (shard : ℕ) → is_listed (entry ∷ rest) shard ≡ false
    → (shard ≢ number entry) × (is_listed rest shard ≡ false)
first_other entry rest shard absent =
    ⊎_elim
    (λ own. let here : true ≡ false = rw own at absent in absurd (cc))
    (λ other. (eqb-false shard (number entry) other, rw other at absent))
    (cases_Bool (is_shard shard entry.0))

not_listed : (entry : Shard × State) (rest : Order) (shard : ℕ) → shard ≢ number entry → is_listed rest shard ≡ false
    → is_listed (entry ∷ rest) shard ≡ false
not_listed entry rest shard other absent =
    let test : eqb shard (number entry) ≡ false = ne_eqb shard (number entry) other in
    rw test absent

-- The shard at an index is listed.
pub listed_at : (order : Order) (index : ℕ) (shard : Shard) → option_map shard_in (slice_get order index) ≡ Some shard → is_listed order shard.0 ≡ true
listed_at [] index shard stands = absurd (cc)
listed_at (entry ∷ rest) zero shard stands =
    let same : entry.0 ≡ shard = cc in
    let test : eqb shard.0 (number entry) ≡ true = eq-eqb shard.0 (number entry) (ap (λ (s : Shard). s.0) (sym same)) in
    rw test refl
listed_at (entry ∷ rest) (suc index) shard stands =
    ⊎_elim
    (λ own. rw own refl)
    (λ other. rw other (listed_at rest index shard stands))
    (cases_Bool (is_shard shard.0 entry.0))

-- The entry at an index is that of its shard.
pub entry_at : (order : Order) (index : ℕ) (shard : Shard) (state : State) → AreApart order → option_map shard_in (slice_get order index) ≡ Some shard
    → state_in_order order shard.0 ≡ Some state → slice_get order index ≡ Some (shard, state)
entry_at [] index shard state apart stands found = absurd (cc)
entry_at (entry ∷ rest) zero shard state apart stands found =
    let same : entry.0 ≡ shard = cc in
    let test : eqb shard.0 (number entry) ≡ true = eq-eqb shard.0 (number entry) (ap (λ (s : Shard). s.0) (sym same)) in
    let here : Some entry.1 ≡ Some state = rw test at found in
    let equal : entry.1 ≡ state = cc in
    ap (λ (s : Shard). let e : Shard × State = (s, entry.1) in Some e) same ∙ ap (λ (s : State). let e : Shard × State = (shard, s) in Some e) equal
entry_at (entry ∷ rest) (suc index) shard state apart stands found =
    ⊎_elim
    (λ own.
    let same : shard.0 ≡ number entry = eqb-true shard.0 (number entry) own in
    let listed = listed_at rest index shard stands in
    let absent : is_listed rest shard.0 ≡ false = subst (λ (n : ℕ). is_listed rest n ≡ false) (sym same) apart.0 in
    absurd (cc))
    (λ other. entry_at rest index shard state apart.1 stands (rw other at found))
    (cases_Bool (is_shard shard.0 entry.0))

listed_where : (order : Order) (index : ℕ) (entry : Shard × State) → slice_get order index ≡ Some entry → is_listed order (number entry) ≡ true
listed_where order index entry stands = listed_at order index entry.0 (ap (option_map shard_in) stands)

-- The shard at an index is not listed before it, nor after it.
pub absent_before : (order : Order) (index : ℕ) (entry : Shard × State) → AreApart order → slice_get order index ≡ Some entry
    → is_listed (take index order) (number entry) ≡ false
absent_before [] index entry apart stands = absurd (cc)
absent_before (first ∷ rest) zero entry apart stands = refl
absent_before (first ∷ rest) (suc index) entry apart stands =
    let listed = listed_where rest index entry stands in
    not_listed first (take index rest) (number entry)
    (λ same. let absent : is_listed rest (number entry) ≡ false = subst (λ (n : ℕ). is_listed rest n ≡ false) (sym same) apart.0 in absurd (cc))
    (absent_before rest index entry apart.1 stands)

pub absent_after : (order : Order) (index : ℕ) (entry : Shard × State) → AreApart order → slice_get order index ≡ Some entry
    → is_listed (drop (suc index) order) (number entry) ≡ false
absent_after [] index entry apart stands = absurd (cc)
absent_after (first ∷ rest) zero entry apart stands =
    let same : first ≡ entry = cc in
    ap (λ (e : Shard × State). is_listed rest (number e)) (sym same) ∙ apart.0
absent_after (first ∷ rest) (suc index) entry apart stands = absent_after rest index entry apart.1 stands

-- A list is cut in two at an index.
pub drop_at : {A : Type 0} (xs : List A) (index : ℕ) (x : A) → slice_get xs index ≡ Some x → drop index xs ≡ x ∷ drop (suc index) xs
drop_at [] index x stands = absurd (cc)
drop_at (first ∷ rest) zero x stands = let same : first ≡ x = cc in ap (λ y. y ∷ rest) same
drop_at (first ∷ rest) (suc index) x stands = drop_at rest index x stands

pub take_at : {A : Type 0} (xs : List A) (index : ℕ) (x : A) → slice_get xs index ≡ Some x → take (suc index) xs ≡ take index xs ++ x ∷ []
take_at [] index x stands = absurd (cc)
take_at (first ∷ rest) zero x stands = let same : first ≡ x = cc in ap (λ y. y ∷ []) same
take_at (first ∷ rest) (suc index) x stands = ap (λ l. first ∷ l) (take_at rest index x stands)

-- Shards that are not of a number keep their states where only the lengths of that one change.
pub shards-kept : (replicas : ℕ) (before after : List ℕ) (order : Order) (shard : ℕ) → is_listed order shard ≡ false
    → ((other : ℕ) → other ≢ shard → lengths_of replicas after other ≡ lengths_of replicas before other)
    → shards_of replicas after order ≡ shards_of replicas before order
shards-kept replicas before after [] shard absent same = refl
shards-kept replicas before after (entry ∷ rest) shard absent same =
    let parts = first_other entry rest shard absent in
    let own = same (number entry) (λ e. parts.0 (sym e)) in
    ap (λ (lengths : List ℕ). record (shard_state replicas before entry) { covered = lengths } ∷ shards_of replicas after rest) own
    ∙ ap (λ (states : List ShardState). shard_state replicas before entry ∷ states) (shards-kept replicas before after rest shard parts.1 same)

-- The shard at an index is in range where all are.
pub in_range_at : (order : Order) (most index : ℕ) (shard : Shard) → All (λ (e : Shard × State). number e < most) order
    → option_map shard_in (slice_get order index) ≡ Some shard → shard.0 < most
in_range_at [] most index shard below stands = absurd (cc)
in_range_at (entry ∷ rest) most zero shard below stands =
    let same : entry.0 ≡ shard = cc in
    let first : number entry < most = All-head (λ (e : Shard × State). number e < most) entry rest below in
    subst (λ (s : Shard). s.0 < most) same first
in_range_at (entry ∷ rest) most (suc index) shard below stands =
    in_range_at rest most index shard (All-tail (λ (e : Shard × State). number e < most) entry rest below) stands

pub some_from : (found : Option State) → is_some found ≡ true → IsSome found
some_from None listed = absurd (cc)
some_from (Some state) listed = refl
