-- What each value keeps: shards that were added stay and keep their numbers apart, and the mark only rises, at most to the end.
use Rattle.std.proofs.Common.{◌≡◌, ℕ, suc, ◌*◌, ◌≤◌, true, List, [], ◌∷◌, ◌++◌, length, replicate, refl, ap, ◌∙◌, arith}
use Rattle.std.proofs.lemmas.List.{length-replicate}
use Rattle.std.proofs.lemmas.Bool.{cond_both, or_left}
use Rattle.std.proofs.lemmas.List.Elements.{All-nil, All-map, All-weaker, All-push}
use Rattle.std.proofs.lemmas.List.Folds.{list_any-append}
use Rattle.record_frame.specs.declared.values.Value.{Value}
use Rattle.record_frame.specs.declared.values.Value.TheVariants.{Noop, Cut, Add, Finalise, Trim}
use Rattle.log_model.specs.Chain.{ShardState, Standing, Live, Frozen, ChainState, no_values, is_of, is_added, raised, cut_shard, freeze, apply, apply_all, chain_of, IsChain}
use Rattle.log_model.proofs.States.{AreApart-map, AreApart-push, is_added-map}
use Rattle.log_model.proofs.Coverage.{cut_state, cut_state-shard}

-- Freezing a shard leaves each its number and its lengths.
pub freeze-shard : (shard : ℕ) (state : ShardState) → (freeze shard state).shard ≡ state.shard
freeze-shard shard state =
    cond_both (is_of shard state) _ state (λ (s : ShardState). s.shard ≡ state.shard) (λ _. refl) (λ _. refl)

pub freeze-covered : (shard : ℕ) (state : ShardState) → (freeze shard state).covered ≡ state.covered
freeze-covered shard state =
    cond_both (is_of shard state) _ state (λ (s : ShardState). s.covered ≡ state.covered) (λ _. refl) (λ _. refl)

-- A cut leaves the number of lengths.
pub length-raised : (lengths : List ℕ) (at : ℕ) (covered : List ℕ) → length (raised lengths at covered) ≡ length covered
length-raised lengths at [] = refl
length-raised lengths at (first ∷ rest) = ap suc (length-raised lengths (suc at) rest)

length-cut_shard : (replicas : ℕ) (lengths : List ℕ) (standing : Standing) (state : ShardState)
    → length (cut_shard replicas lengths standing state).covered ≡ length state.covered
length-cut_shard replicas lengths Live state = length-raised lengths (state.shard * replicas) state.covered
length-cut_shard replicas lengths Frozen state = refl

pub no_values-IsChain : (replicas : ℕ) → IsChain replicas no_values
no_values-IsChain replicas = record { apart = tt; segments = All-nil _; mark = omega arith }

-- Each value keeps what holds of a chain.
pub apply-IsChain : (replicas : ℕ) (chain : ChainState) (value : Value) → IsChain replicas chain → IsChain replicas (apply replicas chain value)
apply-IsChain replicas chain Noop is = is
apply-IsChain replicas chain (Cut lengths) is = record {
  apart = AreApart-map (cut_state replicas lengths.length) (cut_state-shard replicas lengths.length) chain.shards is.apart;
  segments = All-map (λ (state : ShardState). length state.covered ≡ replicas) (cut_state replicas lengths.length) chain.shards
      (All-weaker (λ (state : ShardState). length state.covered ≡ replicas) (λ (state : ShardState). length (cut_state replicas lengths.length state).covered ≡ replicas)
      (λ state size. length-cut_shard replicas lengths.length state.standing state ∙ size) chain.shards is.segments);
  mark = omega (arith, is.mark);
}
apply-IsChain replicas chain (Add shard) is =
    let new : ShardState = record { shard = shard.0; standing = Live; covered = replicate replicas 0 } in
    cond_both (is_added chain shard.0) chain (record chain { shards = chain.shards ++ new ∷ [] }) (IsChain replicas) (λ _. is)
    (λ absent. record {
      apart = AreApart-push chain.shards new absent is.apart;
      segments = All-push (λ (state : ShardState). length state.covered ≡ replicas) chain.shards new is.segments (length-replicate replicas 0);
      mark = is.mark;
    })
apply-IsChain replicas chain (Finalise shard) is = record {
  apart = AreApart-map (freeze shard.0) (freeze-shard shard.0) chain.shards is.apart;
  segments = All-map (λ (state : ShardState). length state.covered ≡ replicas) (freeze shard.0) chain.shards
      (All-weaker (λ (state : ShardState). length state.covered ≡ replicas) (λ (state : ShardState). length (freeze shard.0 state).covered ≡ replicas)
      (λ state size. ap length (freeze-covered shard.0 state) ∙ size) chain.shards is.segments);
  mark = is.mark;
}
apply-IsChain replicas chain (Trim position) is =
    record { apart = is.apart; segments = is.segments; mark = omega (arith, is.mark) }

pub apply_all-IsChain : (replicas : ℕ) (chain : ChainState) (values : List Value) → IsChain replicas chain → IsChain replicas (apply_all replicas chain values)
apply_all-IsChain replicas chain [] is = is
apply_all-IsChain replicas chain (value ∷ values) is =
    apply_all-IsChain replicas (apply replicas chain value) values (apply-IsChain replicas chain value is)

pub chain_of-IsChain : (replicas : ℕ) (values : List Value) → IsChain replicas (chain_of replicas values)
chain_of-IsChain replicas values = apply_all-IsChain replicas no_values values (no_values-IsChain replicas)

-- A shard that was added stays.
pub is_added-apply : (replicas : ℕ) (chain : ChainState) (value : Value) (shard : ℕ) → is_added chain shard ≡ true
    → is_added (apply replicas chain value) shard ≡ true
is_added-apply replicas chain Noop shard added = added
is_added-apply replicas chain (Cut lengths) shard added =
    is_added-map (cut_state replicas lengths.length) (cut_state-shard replicas lengths.length) chain.shards shard ∙ added
is_added-apply replicas chain (Add new) shard added =
    cond_both (is_added chain new.0) chain _ (λ (c : ChainState). is_added c shard ≡ true) (λ _. added)
    (λ _. list_any-append (is_of shard) chain.shards _ ∙ or_left _ _ added)
is_added-apply replicas chain (Finalise one) shard added =
    is_added-map (freeze one.0) (freeze-shard one.0) chain.shards shard ∙ added
is_added-apply replicas chain (Trim position) shard added = added

pub is_added-apply_all : (replicas : ℕ) (chain : ChainState) (values : List Value) (shard : ℕ) → is_added chain shard ≡ true
    → is_added (apply_all replicas chain values) shard ≡ true
is_added-apply_all replicas chain [] shard added = added
is_added-apply_all replicas chain (value ∷ values) shard added =
    is_added-apply_all replicas (apply replicas chain value) values shard (is_added-apply replicas chain value shard added)

-- The mark only rises.
pub mark-apply : (replicas : ℕ) (chain : ChainState) (value : Value) → chain.mark ≤ (apply replicas chain value).mark
mark-apply replicas chain Noop = omega arith
mark-apply replicas chain (Cut lengths) = omega arith
mark-apply replicas chain (Add shard) =
    let same : chain.mark ≤ chain.mark = omega arith in
    cond_both (is_added chain shard.0) chain _ (λ (c : ChainState). chain.mark ≤ c.mark) (λ _. same) (λ _. same)
mark-apply replicas chain (Finalise shard) = omega arith
mark-apply replicas chain (Trim position) = omega arith

pub mark-apply_all : (replicas : ℕ) (chain : ChainState) (values : List Value) → chain.mark ≤ (apply_all replicas chain values).mark
mark-apply_all replicas chain [] = omega arith
mark-apply_all replicas chain (value ∷ values) =
    omega (arith, mark-apply replicas chain value, mark-apply_all replicas (apply replicas chain value) values)
