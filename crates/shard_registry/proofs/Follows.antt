-- The order of a chain, and what each value does to it.
use Rattle.std.proofs.Common.{◌≡◌, ◌≢◌, ℕ, Bool, true, false, cond, eqb, List, [], ◌∷◌, ◌++◌, map, replicate, Option, None, Some, is_some, refl, sym, ap, ◌∙◌, ⊎_elim}
use Rattle.std.specs.Option.{option_map}
use Rattle.std.specs.List.{list_any}
use Rattle.std.proofs.lemmas.Bool.{cond-true, cond-false, cond_both, cases_eq, eq-eqb, ne_eqb}
use Rattle.std.proofs.lemmas.List.{map-append}
use Rattle.log_base.specs.declared.numbers.Shard.{Shard}
use Rattle.record_frame.specs.declared.values.Lengths.{Lengths}
use Rattle.record_frame.specs.declared.values.Value.TheVariants.{Cut, Add, Finalise}
use Rattle.log_model.specs.Chain.{ChainState, ShardState, Standing, Live as LiveStanding, Frozen, apply, is_added, is_of, freeze, cut_shard, state_in as state_of_shard}
use Rattle.log_model.proofs.States.{state_in-here, state_in-later}
use Rattle.log_model.proofs.Coverage.{cut_state}
use Rattle.shard_registry.specs.declared.answers.State.{State}
use Rattle.shard_registry.specs.declared.answers.State.TheVariants.{Live, Finalised}
use Rattle.shard_registry.specs.Order.{Order, order_of, entry_of, state_of, is_shard, state_in_order, is_listed, added, ended_entry, finalised}

-- the order of shards of a chain
abbrev pub entries_of : List ShardState → Order
entries_of states = map entry_of states

-- A shard is found in the order where it is in the chain.
pub state-entries_of : (states : List ShardState) (shard : ℕ)
    → state_in_order (entries_of states) shard ≡ option_map (λ (found : ShardState). state_of found.standing) (state_of_shard states shard)
state-entries_of [] shard = refl
state-entries_of (state ∷ states) shard =
    ⊎_elim
    (λ same.
    cond-true (eqb shard state.shard) _ _ (eq-eqb shard state.shard (sym same))
    ∙ ap (option_map (λ (found : ShardState). state_of found.standing)) (sym (state_in-here state states shard same)))
    (λ other.
    cond-false (eqb shard state.shard) _ _ (ne_eqb shard state.shard (λ e. other (sym e)))
    ∙ state-entries_of states shard
    ∙ ap (option_map (λ (found : ShardState). state_of found.standing)) (sym (state_in-later state states shard other)))
    (cases_eq state.shard shard)

pub listed-entries_of : (states : List ShardState) (shard : ℕ) → is_listed (entries_of states) shard ≡ list_any (is_of shard) states
listed-entries_of [] shard = refl
listed-entries_of (state ∷ states) shard =
    let again = listed-entries_of states shard in
    ⊎_elim
    (λ same.
    let own : eqb state.shard shard ≡ true = eq-eqb state.shard shard same in
    let test : eqb shard state.shard ≡ true = eq-eqb shard state.shard (sym same) in
    rw (own, test) refl)
    (λ other.
    let own : eqb state.shard shard ≡ false = ne_eqb state.shard shard other in
    let test : eqb shard state.shard ≡ false = ne_eqb shard state.shard (λ e. other (sym e)) in
    rw (own, test) again)
    (cases_eq state.shard shard)

-- A change of states that keeps the entry of each keeps the order.
entries_of-kept : (change : ShardState → ShardState) → ((state : ShardState) → entry_of (change state) ≡ entry_of state) → (states : List ShardState)
    → entries_of (map change states) ≡ entries_of states
entries_of-kept change keeps [] = refl
entries_of-kept change keeps (state ∷ states) =
    ap (λ (e : Shard × State). e ∷ entries_of (map change states)) (keeps state)
    ∙ ap (λ (es : Order). entry_of state ∷ es) (entries_of-kept change keeps states)

cut_shard-entry : (replicas : ℕ) (lengths : List ℕ) (standing : Standing) (state : ShardState)
    → entry_of (cut_shard replicas lengths standing state) ≡ entry_of state
cut_shard-entry replicas lengths LiveStanding state = refl
cut_shard-entry replicas lengths Frozen state = refl

pub order-cut : (replicas : ℕ) (chain : ChainState) (lengths : Lengths) → order_of (apply replicas chain (Cut lengths)) ≡ order_of chain
order-cut replicas chain lengths =
    entries_of-kept (cut_state replicas lengths.length) (λ state. cut_shard-entry replicas lengths.length state.standing state) chain.shards

pub order-add : (replicas : ℕ) (chain : ChainState) (shard : Shard) → order_of (apply replicas chain (Add shard)) ≡ added (order_of chain) shard.0
order-add replicas chain shard =
    let new : ShardState = record { shard = shard.0; standing = LiveStanding; covered = replicate replicas 0 } in
    let test = listed-entries_of chain.shards shard.0 in
    cond_both (is_added chain shard.0) chain (record chain { shards = chain.shards ++ new ∷ [] })
    (λ (c : ChainState). order_of c ≡ added (order_of chain) shard.0)
    (λ known. sym (cond-true (is_listed (order_of chain) shard.0) _ _ (test ∙ known)))
    (λ absent. map-append entry_of chain.shards (new ∷ []) ∙ sym (cond-false (is_listed (order_of chain) shard.0) _ _ (test ∙ absent)))

freeze-entry : (shard : ℕ) (state : ShardState) → entry_of (freeze shard state) ≡ ended_entry shard (entry_of state)
freeze-entry shard state =
    ⊎_elim
    (λ same.
    ap entry_of (cond-true (is_of shard state) (record state { standing = Frozen }) state (eq-eqb state.shard shard same))
    ∙ sym (cond-true (eqb shard state.shard) _ _ (eq-eqb shard state.shard (sym same))))
    (λ other.
    ap entry_of (cond-false (is_of shard state) (record state { standing = Frozen }) state (ne_eqb state.shard shard other))
    ∙ sym (cond-false (eqb shard state.shard) _ _ (ne_eqb shard state.shard (λ e. other (sym e)))))
    (cases_eq state.shard shard)

map-freeze : (shard : ℕ) (states : List ShardState) → entries_of (map (freeze shard) states) ≡ finalised (entries_of states) shard
map-freeze shard [] = refl
map-freeze shard (state ∷ states) =
    ap (λ (e : Shard × State). e ∷ entries_of (map (freeze shard) states)) (freeze-entry shard state)
    ∙ ap (λ (es : Order). ended_entry shard (entry_of state) ∷ es) (map-freeze shard states)

pub order-finalise : (replicas : ℕ) (chain : ChainState) (shard : Shard) → order_of (apply replicas chain (Finalise shard)) ≡ finalised (order_of chain) shard.0
order-finalise replicas chain shard = map-freeze shard.0 chain.shards
