-- Covered lengths stay below what every cut is below.
use Rattle.std.proofs.Common.{◌≡◌, ◌+◌, ◌*◌, ◌≤◌, ℕ, zero, suc, List, [], ◌∷◌, Bool, true, false, cond, Option, Some, None, refl, sym, ap, subst, arith, ◌∙◌}
use Rattle.std.specs.Prelude.{slice_index, replicate}
use Rattle.std.specs.Option.{option_map}
use Rattle.std.proofs.lemmas.Bool.{cond_both, eqb-true}
use Rattle.log_model.specs.Chain.{ChainState, Frozen, Live, ShardState, Standing, apply, covered_length, covered_of, cut_shard, freeze, is_added, is_of, raised, state_in}
use Rattle.log_model.proofs.Coverage.{cut_state, cut_state-shard}
use Rattle.log_model.proofs.Growth.{freeze-covered, freeze-shard}
use Rattle.log_model.proofs.States.{covered_length-push, replicate-zero, state_in-map}
use Rattle.record_frame.specs.declared.values.Value.{Value}
use Rattle.record_frame.specs.declared.values.Value.TheVariants.{Noop, Cut, Add, Finalise, Trim}

-- a value's length of a segment is at most a bound
abbrev pub IsBelow : ℕ → ℕ → ℕ → Value → Type 0
IsBelow place segment bound (Cut lengths) = slice_index lengths.length (place + segment) ≤ bound
IsBelow place segment bound Noop = Unit {0}
IsBelow place segment bound (Add shard) = Unit {0}
IsBelow place segment bound (Finalise shard) = Unit {0}
IsBelow place segment bound (Trim position) = Unit {0}

raised_below : (lengths : List ℕ) (at : ℕ) (covered : List ℕ) (j bound : ℕ) → slice_index covered j ≤ bound → slice_index lengths (at + j) ≤ bound
    → slice_index (raised lengths at covered) j ≤ bound
raised_below lengths at [] j bound h g = omega arith
raised_below lengths at (covered ∷ rest) zero bound h g =
    let same : at + 0 ≡ at = omega arith in
    let low : slice_index lengths at ≤ bound = subst (λ (n : ℕ). slice_index lengths n ≤ bound) same g in
    omega arith
raised_below lengths at (covered ∷ rest) (suc j) bound h g =
    let same : at + suc j ≡ suc at + j = omega arith in
    raised_below lengths (suc at) rest j bound h (subst (λ (n : ℕ). slice_index lengths n ≤ bound) same g)

cut_standing_below : (replicas : ℕ) (lengths : List ℕ) (standing : Standing) (state : ShardState) (j bound : ℕ) → slice_index state.covered j ≤ bound
    → slice_index lengths (state.shard * replicas + j) ≤ bound → slice_index (cut_shard replicas lengths standing state).covered j ≤ bound
cut_standing_below replicas lengths Live state j bound h g = raised_below lengths (state.shard * replicas) state.covered j bound h g
cut_standing_below replicas lengths Frozen state j bound h g = h

found_shard : (states : List ShardState) (shard : ℕ) (state : ShardState) → state_in states shard ≡ Some state → state.shard ≡ shard
found_shard [] shard state e = absurd (cc)
found_shard (first ∷ states) shard state e = at (found_shard states shard state) (is_of shard first) refl e
  where
    at : (state_in states shard ≡ Some state → state.shard ≡ shard) → (b : Bool) → is_of shard first ≡ b
        → cond b (Some first) (state_in states shard) ≡ Some state → state.shard ≡ shard
    at rest true t f = let same : first ≡ state = cc in ap (λ (x : ShardState). x.shard) (sym same) ∙ eqb-true first.shard shard t
    at rest false t f = rest f

cut_below : (replicas : ℕ) (lengths : List ℕ) (o : Option ShardState) (shard j bound : ℕ) → ((state : ShardState) → o ≡ Some state → state.shard ≡ shard)
    → covered_length o j ≤ bound → slice_index lengths (shard * replicas + j) ≤ bound → covered_length (option_map (cut_state replicas lengths) o) j ≤ bound
cut_below replicas lengths None shard j bound is h g = h
cut_below replicas lengths (Some state) shard j bound is h g =
    cut_standing_below replicas lengths state.standing state j bound h
    (subst (λ (n : ℕ). slice_index lengths (n * replicas + j) ≤ bound) (sym (is state refl)) g)

freeze_below : (one : ℕ) (o : Option ShardState) (j bound : ℕ) → covered_length o j ≤ bound → covered_length (option_map (freeze one) o) j ≤ bound
freeze_below one None j bound h = h
freeze_below one (Some state) j bound h = subst (λ (xs : List ℕ). slice_index xs j ≤ bound) (sym (freeze-covered one state)) h

pub apply_below : (replicas : ℕ) (chain : ChainState) (value : Value) (shard j bound : ℕ) → covered_of chain shard j ≤ bound
    → IsBelow (shard * replicas) j bound value → covered_of (apply replicas chain value) shard j ≤ bound
apply_below replicas chain Noop shard j bound h g = h
apply_below replicas chain (Cut lengths) shard j bound h g =
    subst (λ (o : Option ShardState). covered_length o j ≤ bound) (sym (state_in-map (cut_state replicas lengths.length) (cut_state-shard replicas lengths.length) chain.shards shard))
    (cut_below replicas lengths.length (state_in chain.shards shard) shard j bound (λ state e. found_shard chain.shards shard state e) h g)
apply_below replicas chain (Add new) shard j bound h g =
    cond_both (is_added chain new.0) chain _ (λ (c : ChainState). covered_of c shard j ≤ bound) (λ _. h)
    (λ _. subst (λ (n : ℕ). n ≤ bound)
    (sym (covered_length-push chain.shards (record { shard = new.0; standing = Live; covered = replicate replicas 0 }) shard j (replicate-zero replicas j))) h)
apply_below replicas chain (Finalise one) shard j bound h g =
    subst (λ (o : Option ShardState). covered_length o j ≤ bound) (sym (state_in-map (freeze one.0) (freeze-shard one.0) chain.shards shard))
    (freeze_below one.0 (state_in chain.shards shard) j bound h)
apply_below replicas chain (Trim position) shard j bound h g = h
