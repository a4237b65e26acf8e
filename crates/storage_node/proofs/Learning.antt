-- What is covered once a further value is known: a cut covers at most its lengths.
use Rattle.std.proofs.Common.{◌≡◌, ℕ, zero, suc, ◌+◌, ◌*◌, ◌<◌, ◌≤◌, Bool, true, false, cond, eqb, List, [], ◌∷◌, map, length, Option, Some, None, refl, sym, subst, arith, ⊎_elim}
use Rattle.std.specs.Prelude.{slice_index}
use Rattle.std.specs.Option.{option_map}
use Rattle.std.proofs.lemmas.Bool.{cond-true, cond-false, cases_Bool, eqb-true}
use Rattle.log_model.specs.Chain.{ChainState, ShardState, Standing, Live, Frozen, apply, covered_length, covered_of, cut_shard, is_of, raised, state_in}
use Rattle.log_model.specs.Learning.{known_after, knowing}
use Rattle.log_model.specs.Storage.{HoldsCovered, Knowledge, Member, list_in}
use Rattle.log_model.proofs.Coverage.{cut_state, cut_state-shard}
use Rattle.log_model.proofs.Spelled.{covered_of-add, covered_of-finalise}
use Rattle.log_model.proofs.States.{state_in-map}
use Rattle.node_model.specs.Fits.{IsHeldIn}
use Rattle.record_frame.specs.declared.entries.Entry.{Entry}
use Rattle.record_frame.specs.declared.values.Value.{Value}
use Rattle.record_frame.specs.declared.values.Value.TheVariants.{Noop, Cut, Add, Finalise, Trim}

-- a raised length is at most the greater of the two
raised-at : (lengths : List ℕ) (at : ℕ) (covered : List ℕ) (segment limit : ℕ) → slice_index covered segment ≤ limit → slice_index lengths (at + segment) ≤ limit
    → slice_index (raised lengths at covered) segment ≤ limit
raised-at lengths at [] segment limit old new = old
raised-at lengths at (first ∷ rest) zero limit old new =
    let here : slice_index lengths at ≤ limit = subst (λ (k : ℕ). slice_index lengths k ≤ limit) (omega arith) new in
    omega (arith, old, here)
raised-at lengths at (first ∷ rest) (suc segment) limit old new =
    raised-at lengths (suc at) rest segment limit old (subst (λ (k : ℕ). slice_index lengths k ≤ limit) (omega arith) new)

cut-at : (replicas : ℕ) (lengths : List ℕ) (standing : Standing) (state : ShardState) (segment limit : ℕ) → slice_index state.covered segment ≤ limit
    → slice_index lengths (state.shard * replicas + segment) ≤ limit → slice_index (cut_shard replicas lengths standing state).covered segment ≤ limit
cut-at replicas lengths Live state segment limit old new = raised-at lengths (state.shard * replicas) state.covered segment limit old new
cut-at replicas lengths Frozen state segment limit old new = old

-- the state of a shard has its number
state-found : (states : List ShardState) (shard : ℕ) (state : ShardState) → state_in states shard ≡ Some state → state.shard ≡ shard
state-found [] shard state e = absurd (cc)
state-found (first ∷ states) shard state e = next (is_of shard first) refl e (state-found states shard state)
  where
    next : (b : Bool) → is_of shard first ≡ b → cond b (Some first) (state_in states shard) ≡ Some state → (state_in states shard ≡ Some state → state.shard ≡ shard)
        → state.shard ≡ shard
    next true same e later =
        let is : first ≡ state = cc in
        subst (λ (s : ShardState). s.shard ≡ shard) is (eqb-true first.shard shard same)
    next false other e later = later e

cut-option : (replicas : ℕ) (lengths : List ℕ) (found : Option ShardState) (shard segment limit : ℕ) → ((state : ShardState) → found ≡ Some state → state.shard ≡ shard)
    → covered_length found segment ≤ limit → slice_index lengths (shard * replicas + segment) ≤ limit
    → covered_length (option_map (cut_state replicas lengths) found) segment ≤ limit
cut-option replicas lengths None shard segment limit is old new = old
cut-option replicas lengths (Some state) shard segment limit is old new =
    cut-at replicas lengths state.standing state segment limit old (subst (λ (s : ℕ). slice_index lengths (s * replicas + segment) ≤ limit) (sym (is state refl)) new)

cut-covers : (replicas : ℕ) (lengths : List ℕ) (states : List ShardState) (shard segment limit : ℕ) → covered_length (state_in states shard) segment ≤ limit
    → slice_index lengths (shard * replicas + segment) ≤ limit
    → covered_length (state_in (map (cut_state replicas lengths) states) shard) segment ≤ limit
cut-covers replicas lengths states shard segment limit old new =
    subst (λ (o : Option ShardState). covered_length o segment ≤ limit) (sym (state_in-map (cut_state replicas lengths) (cut_state-shard replicas lengths) states shard))
    (cut-option replicas lengths (state_in states shard) shard segment limit (state-found states shard) old new)

-- a value whose lengths are held covers what is held
value-covers : (member : Member) (lists : List (List Entry)) (chain : ChainState) (value : Value) (segment : ℕ) → segment < member.replicas
    → covered_of chain member.shard segment ≤ length (list_in lists segment) → IsHeldIn member lists value
    → covered_of (apply member.replicas chain value) member.shard segment ≤ length (list_in lists segment)
value-covers member lists chain Noop segment lt old held = old
value-covers member lists chain (Cut lengths) segment lt old held =
    cut-covers member.replicas lengths.length chain.shards member.shard segment (length (list_in lists segment)) old (held segment lt)
value-covers member lists chain (Add shard) segment lt old held =
    subst (λ (n : ℕ). n ≤ length (list_in lists segment)) (sym (covered_of-add member.replicas chain shard.0 member.shard segment)) old
value-covers member lists chain (Finalise shard) segment lt old held =
    subst (λ (n : ℕ). n ≤ length (list_in lists segment)) (sym (covered_of-finalise member.replicas chain shard.0 member.shard segment)) old
value-covers member lists chain (Trim position) segment lt old held = old

pub learn-covers : (member : Member) (lists : List (List Entry)) (known : Knowledge) (slot : ℕ) (value : Value) → HoldsCovered member lists known
    → IsHeldIn member lists value → HoldsCovered member lists (known_after member known slot value)
unfolding known_after
learn-covers member lists known slot value holds held segment lt =
    ⊎_elim
    (λ next. subst (λ (k : Knowledge). covered_of k.chain member.shard segment ≤ length (list_in lists segment))
    (sym (cond-true (eqb slot known.count) (knowing member known value) known next)) (value-covers member lists known.chain value segment lt (holds segment lt) held))
    (λ other. subst (λ (k : Knowledge). covered_of k.chain member.shard segment ≤ length (list_in lists segment))
    (sym (cond-false (eqb slot known.count) (knowing member known value) known other)) (holds segment lt))
    (cases_Bool (eqb slot known.count))

-- and how many values are known
pub learn-counts : (member : Member) (known : Knowledge) (slot : ℕ) (value : Value) → slot < 16384 → known.count ≤ 16384 → (known_after member known slot value).count ≤ 16384
unfolding known_after
learn-counts member known slot value lt few =
    ⊎_elim
    (λ next. let is : slot ≡ known.count = eqb-true slot known.count next in
    subst (λ (k : Knowledge). k.count ≤ 16384) (sym (cond-true (eqb slot known.count) (knowing member known value) known next)) (omega (arith, lt, is)))
    (λ other. subst (λ (k : Knowledge). k.count ≤ 16384) (sym (cond-false (eqb slot known.count) (knowing member known value) known other)) few)
    (cases_Bool (eqb slot known.count))
