-- The cut of lists that are covered covers nothing more, and one that raises a covered length covers something.
use Rattle.std.proofs.Common.{◌≡◌, ◌≢◌, ◌⊎◌, ◌+◌, ◌*◌, ◌<◌, ◌≤◌, ℕ, true, false, ◌==◌, List, [], ◌∷◌, length, length-append, Option, Some, None, refl, sym, ap, subst, inl, inr, ⊎_elim, arith, eq-eqb, ◌∙◌}
use Rattle.std.specs.Prelude.{slice_index, slice_index_or}
use Rattle.std.specs.Option.{option_map}
use Rattle.std.proofs.lemmas.Bool.{and_from, cases_Bool, cases_lt, cond-false, cond-true}
use Rattle.std.proofs.lemmas.List.{get_or_past}
use Rattle.log_base.specs.ClusterShape.{Shape}
use Rattle.log_base.specs.declared.numbers.Place.{Place}
use Rattle.record_frame.specs.declared.entries.Entry.{Entry}
use Rattle.record_frame.specs.declared.values.Lengths.{Lengths}
use Rattle.record_frame.specs.declared.values.Value.{Value}
use Rattle.record_frame.specs.declared.values.Value.TheVariants.{Cut}
use Rattle.log_model.specs.Chain.{ChainState, ShardState, Standing, Live, Frozen, apply, chain_of, covered_by, covered_length, covered_of, cut_shard, is_added, raised}
use Rattle.log_model.specs.Lookup.{segment_index}
use Rattle.log_model.specs.Places.{is_in, places_from}
use Rattle.log_model.proofs.Coverage.{cut_state, cut_state-shard}
use Rattle.log_model.proofs.Growth.{chain_of-IsChain, length-raised}
use Rattle.log_model.proofs.NoEffect.{cut-no_effect}
use Rattle.log_model.proofs.Runs.{in_segment, length-places_from}
use Rattle.log_model.proofs.Spelled.{covered_by-kept}
use Rattle.log_model.proofs.States.{state_in-map, state_of_added, state_of_not_added}
use Rattle.paxos_model.specs.Learner.{cut_wish, is_empty}
use Rattle.plain_log.specs.Coherent.{IsCoherent, IsOfShape}
use Rattle.plain_log.specs.Log.{cut_of}
use Rattle.plain_log.proofs.Lists.{cut_of-at, found_state, raised-at}

-- lengths that are raised to none that is greater
raised-same : (lengths : List ℕ) (at : ℕ) (covered : List ℕ) (k : ℕ) → (k < length covered → slice_index lengths (at + k) ≤ slice_index covered k)
    → slice_index (raised lengths at covered) k ≡ slice_index covered k
raised-same lengths at covered k least =
    ⊎_elim
    (λ within. let more = least within in omega (arith, raised-at lengths at covered k within))
    (λ past. get_or_past (raised lengths at covered) k 0 (omega (arith, length-raised lengths at covered)) ∙ sym (get_or_past covered k 0 past))
    (cases_lt k (length covered))

cut-same : (replicas : ℕ) (lengths : List ℕ) (standing : Standing) (state : ShardState) (k : ℕ)
    → (k < length state.covered → slice_index lengths (state.shard * replicas + k) ≤ slice_index state.covered k)
    → slice_index (cut_shard replicas lengths standing state).covered k ≡ slice_index state.covered k
cut-same replicas lengths Live state k least = raised-same lengths (state.shard * replicas) state.covered k least
cut-same replicas lengths Frozen state k least = refl

-- The cut of the lists leaves each covered length.
covered-stays : (shape : Shape) (chain : ChainState) (segments : List (List Entry)) → IsCoherent shape chain segments → (s j : ℕ)
    → covered_of (apply shape.replicas chain (Cut (cut_of segments))) s j ≡ covered_of chain s j
covered-stays shape chain segments is s j =
    let replicas = shape.replicas in
    let lengths = (cut_of segments).length in
    ap (λ (found : Option ShardState). covered_length found j) (state_in-map (cut_state replicas lengths) (cut_state-shard replicas lengths) chain.shards s)
    ∙ ⊎_elim
    (λ added.
    let there = state_of_added chain.shards s added in
    let state : ShardState = there.0 in
    let facts = found_state (IsOfShape shape) chain.shards s state is.shards there.1 in
    let least : j < length state.covered → slice_index lengths (state.shard * replicas + j) ≤ slice_index state.covered j = λ within.
    let told : slice_index lengths (state.shard * replicas + j) ≡ length (slice_index_or segments (segment_index replicas s j) []) =
    cut_of-at segments (state.shard * replicas + j) ∙ ap (λ (n : ℕ). length (slice_index_or segments (segment_index replicas n j) [])) facts.1 in
    let held : slice_index state.covered j ≡ length (slice_index_or segments (segment_index replicas s j) []) =
    ap (λ (found : Option ShardState). covered_length found j) (sym there.1)
    ∙ is.covered s j (subst (λ (n : ℕ). n < shape.shards) facts.1 facts.0.0) (omega (arith, within, facts.0.1)) in
    omega (arith, told, held) in
    ap (λ (found : Option ShardState). covered_length (option_map (cut_state replicas lengths) found) j) there.1
    ∙ cut-same replicas lengths state.standing state j least
    ∙ ap (λ (found : Option ShardState). covered_length found j) (sym there.1))
    (λ absent.
    let none = state_of_not_added chain.shards s absent in
    ap (λ (found : Option ShardState). covered_length (option_map (cut_state replicas lengths) found) j) none
    ∙ ap (λ (found : Option ShardState). covered_length found j) (sym none))
    (cases_Bool (is_added chain s))

-- places of which none is in any segment
none_anywhere : (places : List Place) → ((s j : ℕ) → length (in_segment s j places) ≡ 0) → places ≡ []
none_anywhere [] none = refl
none_anywhere (place ∷ rest) none =
    let s = place.shard.0 in
    let j = place.segment.0 in
    let own : is_in s j place ≡ true = and_from (s == s) (j == j) (eq-eqb s s refl) (eq-eqb j j refl) in
    let here : in_segment s j (place ∷ rest) ≡ place ∷ in_segment s j rest = cond-true (is_in s j place) (place ∷ in_segment s j rest) (in_segment s j rest) own in
    absurd (omega (arith, ap length here, none s j))

pub covers_nothing : (shape : Shape) (values : List Value) (segments : List (List Entry)) → IsCoherent shape (chain_of shape.replicas values) segments
    → covered_by shape.replicas (chain_of shape.replicas values) (Cut (cut_of segments)) ≡ []
covers_nothing shape values segments is =
    let replicas = shape.replicas in
    let chain = chain_of replicas values in
    let value : Value = Cut (cut_of segments) in
    none_anywhere (covered_by replicas chain value)
    (λ s j.
    let before = covered_of chain s j in
    let more = in_segment s j (covered_by replicas chain value) in
    let kept = ap length (covered_by-kept replicas chain value s j (chain_of-IsChain replicas values)) in
    omega (
      arith,
      kept,
      length-append (places_from s j 0 before) more,
      length-places_from s j 0 before,
      length-places_from s j 0 (covered_of (apply replicas chain value) s j),
      covered-stays shape chain segments is s j,
    ))

-- ---- the wish

empty_or : (places : List Place) → (places ≡ []) ⊎ (is_empty places ≡ false)
empty_or [] = inl refl
empty_or (place ∷ rest) = inr refl

pub no_cut_wish : (replicas : ℕ) (values : List Value) (heard : Lengths) → covered_by replicas (chain_of replicas values) (Cut heard) ≡ []
    → cut_wish replicas values heard ≡ None
unfolding cut_wish
no_cut_wish replicas values heard none =
    cond-true (is_empty (covered_by replicas (chain_of replicas values) (Cut heard))) None (Some (Cut heard)) (ap (λ (places : List Place). is_empty places) none)

-- Where a cut raises a covered length, it is wished.
pub cut_is_wished : (replicas : ℕ) (values : List Value) (heard : Lengths) (s j : ℕ)
    → covered_of (apply replicas (chain_of replicas values) (Cut heard)) s j ≢ covered_of (chain_of replicas values) s j
    → cut_wish replicas values heard ≡ Some (Cut heard)
unfolding cut_wish
cut_is_wished replicas values heard s j more =
    let chain = chain_of replicas values in
    cond-false (is_empty (covered_by replicas chain (Cut heard))) None (Some (Cut heard))
    (⊎_elim
    (λ none. absurd (more (ap (λ (c : ChainState). covered_of c s j) (cut-no_effect replicas chain heard none))))
    (λ some. some)
    (empty_or (covered_by replicas chain (Cut heard))))
