-- The standing of a shard: what a cut leaves, and which values keep a live shard live.
use Rattle.std.proofs.Common.{◌≡◌, ◌≢◌, ℕ, List, [], ◌∷◌, replicate, Option, None, Some, inl, inr, ◌⊎◌, refl, sym, ap, ◌∙◌, subst, ⊎_elim}
use Rattle.std.specs.List.{AllByRecursion}
use Rattle.std.specs.Option.{option_map, option_or}
use Rattle.std.proofs.lemmas.Bool.{cond_both, cond-false, ne_eqb, cases_Bool}
use Rattle.std.proofs.lemmas.List.Folds.{find-append}
use Rattle.log_base.specs.declared.numbers.Shard.{Shard}
use Rattle.record_frame.specs.declared.values.Value.{Value}
use Rattle.record_frame.specs.declared.values.Value.TheVariants.{Noop, Cut, Add as AddValue, Finalise as FinaliseValue, Trim as TrimValue}
use Rattle.log_model.specs.Chain.{ChainState, ShardState, Standing, Live, Frozen, is_of, is_added, apply, apply_all, cut_shard, covered_length, freeze, state_in}
use Rattle.log_model.proofs.Coverage.{cut_state, cut_state-shard}
use Rattle.log_model.proofs.Frozen.{state_in-shard}
use Rattle.log_model.proofs.Growth.{freeze-shard}
use Rattle.log_model.proofs.States.{state_in-map}
use Rattle.plain_log.specs.Log.{found_standing}

-- A shard of a standing has a state.
pub state_of_standing : (found : Option ShardState) (standing : Standing) → found_standing found ≡ Some standing
    → (state : ShardState) × (found ≡ Some state) × (state.standing ≡ standing)
state_of_standing None standing has = absurd (cc)
state_of_standing (Some state) standing has =
    let same : state.standing ≡ standing = cc in
    (state, refl, same)

pub live_or_not : (standing : Option Standing) → (standing ≡ Some Live) ⊎ (standing ≢ Some Live)
live_or_not None = inr (λ same. absurd (cc))
live_or_not (Some Frozen) = inr (λ same. absurd (cc))
live_or_not (Some Live) = inl refl

cut-still : (replicas : ℕ) (lengths : List ℕ) (standing : Standing) (state : ShardState) → standing ≢ Live
    → cut_shard replicas lengths standing state ≡ state
cut-still replicas lengths Live state still = absurd (still refl)
cut-still replicas lengths Frozen state still = refl

-- A cut leaves the lengths of a shard that is not live.
pub covered_length-still : (replicas : ℕ) (lengths : List ℕ) (found : Option ShardState) (segment : ℕ) → found_standing found ≢ Some Live
    → covered_length (option_map (cut_state replicas lengths) found) segment ≡ covered_length found segment
covered_length-still replicas lengths None segment still = refl
covered_length-still replicas lengths (Some state) segment still =
    ap (λ (after : ShardState). covered_length (Some after) segment)
    (cut-still replicas lengths state.standing state (λ live. still (ap Some live)))

cut-standing : (replicas : ℕ) (lengths : List ℕ) (standing : Standing) (state : ShardState)
    → (cut_shard replicas lengths standing state).standing ≡ state.standing
cut-standing replicas lengths Live state = refl
cut-standing replicas lengths Frozen state = refl

-- A cut leaves the standing.
standing-cut : (replicas : ℕ) (lengths : List ℕ) (found : Option ShardState)
    → found_standing (option_map (cut_state replicas lengths) found) ≡ found_standing found
standing-cut replicas lengths None = refl
standing-cut replicas lengths (Some state) = ap Some (cut-standing replicas lengths state.standing state)

-- A new shard is live.
standing-new : (new shard : ℕ) (covered : List ℕ)
    → found_standing (state_in ((record { shard = new; standing = Live; covered = covered }) ∷ []) shard) ≢ Some Frozen
standing-new new shard covered frozen =
    let state : ShardState = record { shard = new; standing = Live; covered = covered } in
    ⊎_elim
    (λ same. let live = rw same at frozen in absurd (cc))
    (λ other. let none = rw other at frozen in absurd (cc))
    (cases_Bool (is_of shard state))

standing-or : (found new : Option ShardState) → found_standing found ≢ Some Frozen → found_standing new ≢ Some Frozen
    → found_standing (option_or found new) ≢ Some Frozen
standing-or None new first second = second
standing-or (Some state) new first second = first

-- A finalisation of another shard leaves the standing.
standing-freeze : (one shard : ℕ) (found : Option ShardState) → ((state : ShardState) → found ≡ Some state → state.shard ≡ shard) → one ≢ shard
    → found_standing (option_map (freeze one) found) ≡ found_standing found
standing-freeze one shard None of other = refl
standing-freeze one shard (Some state) of other =
    let own = of state refl in
    ap (λ (after : ShardState). Some after.standing)
    (cond-false (is_of one state) (record state { standing = Frozen }) state (ne_eqb state.shard one (λ same. other (sym same ∙ own))))

-- A shard is finalised by no value but its finalisation.
not_frozen-apply : (replicas : ℕ) (chain : ChainState) (value : Value) (shard : Shard) → value ≢ FinaliseValue shard
    → found_standing (state_in chain.shards shard.0) ≢ Some Frozen
    → found_standing (state_in (apply replicas chain value).shards shard.0) ≢ Some Frozen
not_frozen-apply replicas chain Noop shard other live = live
not_frozen-apply replicas chain (Cut lengths) shard other live = λ frozen.
    live (sym (standing-cut replicas lengths.length (state_in chain.shards shard.0))
    ∙ ap found_standing (sym (state_in-map (cut_state replicas lengths.length) (cut_state-shard replicas lengths.length) chain.shards shard.0))
    ∙ frozen)
not_frozen-apply replicas chain (AddValue new) shard other live =
    cond_both (is_added chain new.0) chain _ (λ (c : ChainState). found_standing (state_in c.shards shard.0) ≢ Some Frozen) (λ _. live)
    (λ _.
    let added : List ShardState = record { shard = new.0; standing = Live; covered = replicate replicas 0 } ∷ [] in
    subst (λ (found : Option ShardState). found_standing found ≢ Some Frozen) (sym (find-append (is_of shard.0) chain.shards added))
    (standing-or (state_in chain.shards shard.0) (state_in added shard.0) live (standing-new new.0 shard.0 (replicate replicas 0))))
not_frozen-apply replicas chain (FinaliseValue one) shard other live = λ frozen.
    let apart : one.0 ≢ shard.0 = λ same. other (ap (λ (n : ℕ). FinaliseValue (record { 0 = n })) same) in
    live (sym (standing-freeze one.0 shard.0 (state_in chain.shards shard.0) (state_in-shard chain.shards shard.0) apart)
    ∙ ap found_standing (sym (state_in-map (freeze one.0) (freeze-shard one.0) chain.shards shard.0))
    ∙ frozen)
not_frozen-apply replicas chain (TrimValue position) shard other live = live

pub not_frozen-apply_all : (replicas : ℕ) (chain : ChainState) (values : List Value) (shard : Shard)
    → AllByRecursion (λ (value : Value). value ≢ FinaliseValue shard) values
    → found_standing (state_in chain.shards shard.0) ≢ Some Frozen
    → found_standing (state_in (apply_all replicas chain values).shards shard.0) ≢ Some Frozen
not_frozen-apply_all replicas chain [] shard others live = live
not_frozen-apply_all replicas chain (value ∷ values) shard others live =
    not_frozen-apply_all replicas (apply replicas chain value) values shard others.1 (not_frozen-apply replicas chain value shard others.0 live)
