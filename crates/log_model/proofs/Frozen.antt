-- A frozen shard stays as it is, whatever values follow.
use Rattle.std.proofs.Common.{◌≡◌, ℕ, true, List, [], ◌∷◌, ◌++◌, replicate, Option, Some, refl, sym, ap, ◌∙◌, ⊎_elim}
use Rattle.std.specs.Option.{option_map, option_or}
use Rattle.std.proofs.lemmas.Bool.{cond_both, eq-eqb, cond-true, cases_eq}
use Rattle.std.proofs.lemmas.List.Folds.{find-append}
use Rattle.record_frame.specs.declared.values.Value.{Value}
use Rattle.record_frame.specs.declared.values.Value.TheVariants.{Noop, Cut, Add, Finalise, Trim}
use Rattle.log_model.specs.Chain.{ShardState, Standing, Live, Frozen, ChainState, is_of, is_added, cut_shard, freeze, apply, apply_all, chain_of, state_in, covered_length, covered_of}
use Rattle.log_model.proofs.States.{state_in-here, state_in-later, state_in-map, state_of_added}
use Rattle.log_model.proofs.Coverage.{cut_state, cut_state-shard}
use Rattle.log_model.proofs.Growth.{freeze-shard}
use Rattle.log_model.proofs.Appending.{chain_of-append}

cut_shard-frozen : (replicas : ℕ) (lengths : List ℕ) (standing : Standing) (state : ShardState) → standing ≡ Frozen
    → cut_shard replicas lengths standing state ≡ state
cut_shard-frozen replicas lengths Live state frozen = absurd (cc)
cut_shard-frozen replicas lengths Frozen state frozen = refl

freeze-frozen : (shard : ℕ) (state : ShardState) → state.standing ≡ Frozen → freeze shard state ≡ state
freeze-frozen shard state frozen =
    cond_both (is_of shard state) (record state { standing = Frozen }) state (λ (s : ShardState). s ≡ state)
    (λ _. ap (λ (standing : Standing). record state { standing = standing }) (sym frozen)) (λ _. refl)

-- No value changes a frozen shard.
pub frozen-apply : (replicas : ℕ) (chain : ChainState) (value : Value) (shard : ℕ) (state : ShardState) → state_in chain.shards shard ≡ Some state
    → state.standing ≡ Frozen → state_in (apply replicas chain value).shards shard ≡ Some state
frozen-apply replicas chain Noop shard state is frozen = is
frozen-apply replicas chain (Cut lengths) shard state is frozen =
    state_in-map (cut_state replicas lengths.length) (cut_state-shard replicas lengths.length) chain.shards shard
    ∙ ap (option_map (cut_state replicas lengths.length)) is
    ∙ ap Some (cut_shard-frozen replicas lengths.length state.standing state frozen)
frozen-apply replicas chain (Add new) shard state is frozen =
    cond_both (is_added chain new.0) chain _ (λ (c : ChainState). state_in c.shards shard ≡ Some state) (λ _. is)
    (λ _.
    let added : List ShardState = record { shard = new.0; standing = Live; covered = replicate replicas 0 } ∷ [] in
    find-append (is_of shard) chain.shards added ∙ ap (λ (found : Option ShardState). option_or found (state_in added shard)) is)
frozen-apply replicas chain (Finalise one) shard state is frozen =
    state_in-map (freeze one.0) (freeze-shard one.0) chain.shards shard
    ∙ ap (option_map (freeze one.0)) is
    ∙ ap Some (freeze-frozen one.0 state frozen)
frozen-apply replicas chain (Trim position) shard state is frozen = is

pub frozen-apply_all : (replicas : ℕ) (chain : ChainState) (values : List Value) (shard : ℕ) (state : ShardState)
    → state_in chain.shards shard ≡ Some state → state.standing ≡ Frozen → state_in (apply_all replicas chain values).shards shard ≡ Some state
frozen-apply_all replicas chain [] shard state is frozen = is
frozen-apply_all replicas chain (value ∷ values) shard state is frozen =
    frozen-apply_all replicas (apply replicas chain value) values shard state (frozen-apply replicas chain value shard state is frozen) frozen

-- The state of a shard is of that shard.
pub state_in-shard : (states : List ShardState) (shard : ℕ) (state : ShardState) → state_in states shard ≡ Some state → state.shard ≡ shard
state_in-shard [] shard state is = absurd (cc)
state_in-shard (first ∷ rest) shard state is =
    ⊎_elim
    (λ same. let here : Some first ≡ Some state = rw (state_in-here first rest shard same) at is in
    let equal : first ≡ state = cc in
    rw equal at same)
    (λ other. state_in-shard rest shard state (rw (state_in-later first rest shard other) at is))
    (cases_eq first.shard shard)

-- A finalisation freezes a shard that is there.
pub frozen-finalise : (replicas : ℕ) (chain : ChainState) (shard : ℕ) (state : ShardState) → state_in chain.shards shard ≡ Some state
    → state_in (apply replicas chain (Finalise (record { 0 = shard }))).shards shard ≡ Some (record state { standing = Frozen })
frozen-finalise replicas chain shard state is =
    state_in-map (freeze shard) (freeze-shard shard) chain.shards shard
    ∙ ap (option_map (freeze shard)) is
    ∙ ap Some (cond-true (is_of shard state) _ state (eq-eqb state.shard shard (state_in-shard chain.shards shard state is)))

-- After its finalisation nothing more of a shard is covered.
pub covered_of-finalised : (replicas : ℕ) (values more : List Value) (shard segment : ℕ) → is_added (chain_of replicas values) shard ≡ true
    → covered_of (chain_of replicas (values ++ Finalise (record { 0 = shard }) ∷ more)) shard segment ≡ covered_of (chain_of replicas values) shard segment
covered_of-finalised replicas values more shard segment added =
    let chain = chain_of replicas values in
    let final : Value = Finalise (record { 0 = shard }) in
    let found = state_of_added chain.shards shard added in
    let frozen : ShardState = record found.0 { standing = Frozen } in
    let stays = frozen-apply_all replicas (apply replicas chain final) more shard frozen
    (frozen-finalise replicas chain shard found.0 found.1) refl in
    ap (λ (c : ChainState). covered_of c shard segment) (chain_of-append replicas values (final ∷ more))
    ∙ ap (λ (o : Option ShardState). covered_length o segment) stays
    ∙ ap (λ (o : Option ShardState). covered_length o segment) (sym found.1)
