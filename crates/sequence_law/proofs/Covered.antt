-- What the decided values cover: each of them is one of the cluster, whose lengths every replica holds.
use Rattle.std.proofs.Common.{◌≡◌, ◌<◌, ◌≤◌, ◌+◌, ◌*◌, ℕ, zero, suc, Bool, true, false, cond, List, [], ◌∷◌, length, slice_get, Some, refl, sym, ap, subst, inl, inr, ⊎_elim, arith}
use Rattle.std.specs.Prelude.{slice_index}
use Rattle.std.specs.List.{All}
use Rattle.std.proofs.Math.Nat.{mul-le-mul_right}
use Rattle.std.proofs.lemmas.Bool.{cases_lt}
use Rattle.std.proofs.lemmas.List.Elements.{All-head, All-tail}
use Rattle.history_frame.specs.declared.events.Event.{Event}
use Rattle.log_base.specs.ClusterShape.{Shape}
use Rattle.log_base.specs.declared.numbers.Place.{Place}
use Rattle.log_model.specs.Chain.{ShardState, chain_of, covered_length, covered_of, is_of, state_in}
use Rattle.log_model.specs.Spelling.{spell}
use Rattle.log_model.proofs.Growth.{chain_of-IsChain}
use Rattle.record_frame.specs.declared.values.Value.{Value}
use Rattle.record_frame.specs.declared.values.Value.TheVariants.{Noop, Cut, Add, Finalise, Trim}
use Rattle.paxos_model.specs.Votes.{vote_of}
use Rattle.node_model.specs.Chosen.{decided}
use Rattle.node_model.specs.Histories.{durable_after, orderer_after}
use Rattle.node_model.specs.Legal.{IsLegal}
use Rattle.node_model.specs.NodeState.{KeptLists, orderers_kept}
use Rattle.node_model.specs.Sequence.{decided_by}
use Rattle.node_model.proofs.Orderers.{orderer_lists, orderer_state}
use Rattle.agreement_law.specs.Elements.{In, IsIn}
use Rattle.agreement_law.proofs.Decided.{decided_voted}
use Rattle.safety_law.specs.Lists.{IsSafeValue, IsSegment, Lists}
use Rattle.safety_law.specs.Statements.{lists_after}
use Rattle.safety_law.proofs.Corollaries.{cuts_are_held}
use Rattle.safety_law.proofs.Covers.{IsBelow}
use Rattle.sequence_law.proofs.Chains.{chain_below, covered_at}

pub in_place : {A : Type 0} (xs : List A) (x : A) → In x xs → (k : ℕ) × IsIn xs k x
in_place [] x a = absurd a
in_place (y ∷ xs) x (inl e) = (zero, sym e)
in_place (y ∷ xs) x (inr a) = let rest = in_place xs x a in (suc rest.0, rest.1)

-- a cell past the end
cell_past : (xs : List ℕ) (j : ℕ) → length xs ≤ j → slice_index xs j ≡ 0
cell_past [] j h = refl
cell_past (x ∷ xs) zero h = absurd (omega arith)
cell_past (x ∷ xs) (suc j) h = cell_past xs j (omega arith)

-- the state of a shard has a length for each replica
found_size : (replicas : ℕ) (states : List ShardState) (s : ℕ) → All (λ (state : ShardState). length state.covered ≡ replicas) states
    → (j : ℕ) → replicas ≤ j → covered_length (state_in states s) j ≡ 0
found_size replicas [] s all j h = refl
found_size replicas (first ∷ states) s all j h = at (is_of s first) (found_size replicas states s (All-tail (λ (state : ShardState). length state.covered ≡ replicas) first states all) j h)
  where
    at : (b : Bool) → covered_length (state_in states s) j ≡ 0 → covered_length (cond b (Some first) (state_in states s)) j ≡ 0
    at true rest = cell_past first.covered j (let size = All-head (λ (state : ShardState). length state.covered ≡ replicas) first states all in omega (arith, size))
    at false rest = rest

module _ (config : Shape) (lists : Lists) where
  safe_below : (s r j : ℕ) → IsSegment config s r j → (v : Value) → IsSafeValue config lists v → IsBelow (s * config.replicas) j (length (lists s r j)) v
  safe_below s r j inside Noop h = tt
  safe_below s r j inside (Cut lengths) h = h.held s r j inside
  safe_below s r j inside (Add shard) h = tt
  safe_below s r j inside (Finalise shard) h = tt
  safe_below s r j inside (Trim position) h = tt

  safe_none : (s j : ℕ) → config.shards ≤ s → (v : Value) → IsSafeValue config lists v → IsBelow (s * config.replicas) j 0 v
  safe_none s j past Noop h = tt
  safe_none s j past (Cut lengths) h =
      let more : config.shards * config.replicas ≤ s * config.replicas = mul-le-mul_right config.replicas past in
      let none = h.range.rest (s * config.replicas + j) (let count = h.of_config in omega (arith, count, more)) in
      omega (arith, none)
  safe_none s j past (Add shard) h = tt
  safe_none s j past (Finalise shard) h = tt
  safe_none s j past (Trim position) h = tt

  module _ (values : List Value) (safe : (v : Value) → In v values → IsSafeValue config lists v) where
    pub covered_held : (s r j : ℕ) → IsSegment config s r j → covered_of (chain_of config.replicas values) s j ≤ length (lists s r j)
    covered_held s r j inside = chain_below config.replicas values s j (length (lists s r j)) (λ v a. safe_below s r j inside v (safe v a))

    -- what is covered is of the cluster
    pub covered_inside : (s j o : ℕ) → o < covered_of (chain_of config.replicas values) s j → IsSegment config s j j
    covered_inside s j o h = record { shard_below = shard; replica_below = segment; segment_below = segment }
      where
        shard : s < config.shards
        shard = ⊎_elim (λ below. below) (λ past. let none = chain_below config.replicas values s j 0 (λ v a. safe_none s j past v (safe v a)) in absurd (omega (arith, none, h))) (cases_lt s config.shards)

        segment : j < config.replicas
        segment = ⊎_elim (λ below. below)
            (λ past. let none = found_size config.replicas (chain_of config.replicas values).shards s (chain_of-IsChain config.replicas values).segments j past in absurd (omega (arith, none, h)))
            (cases_lt j config.replicas)

    -- each place that is spelled is of the cluster, and held
    pub place_inside : (place : Place) (p : ℕ) → slice_get (spell config.replicas values) p ≡ Some place → IsSegment config place.shard.0 place.segment.0 place.segment.0
    place_inside place p e = covered_inside place.shard.0 place.segment.0 place.offset (covered_at config.replicas values place.shard.0 place.segment.0 place.offset p e)

    pub place_held : (place : Place) (p r : ℕ) → slice_get (spell config.replicas values) p ≡ Some place → r < config.replicas → place.offset < length (lists place.shard.0 r place.segment.0)
    place_held place p r e below =
        let inside = place_inside place p e in
        let held = covered_held place.shard.0 r place.segment.0 (record { shard_below = inside.shard_below; replica_below = below; segment_below = inside.segment_below }) in
        let at = covered_at config.replicas values place.shard.0 place.segment.0 place.offset p e in
        omega (arith, held, at)

module _ (config : Shape) (run : ℕ) (kept : KeptLists) (events : List Event) (legal : IsLegal config run kept events) where
  -- the decided list is that of the orderers' lists
  pub decided_is : decided_by config kept events ≡ decided config.orderers (durable_after config (orderers_kept config kept) events)
  decided_is = ap (λ lists. decided config.orderers lists) (orderer_lists config kept events)

  decided_as : (v : Value) → In v (decided config.orderers (durable_after config (orderers_kept config kept) events)) → IsSafeValue config (lists_after config kept events) v
  decided_as v a =
      let at = in_place (decided config.orderers (durable_after config (orderers_kept config kept) events)) v a in
      let voted = decided_voted config.orderers (durable_after config (orderers_kept config kept) events) at.0 v at.1 in
      let fine = (cuts_are_held config run kept events legal).orderers voted.1 (orderer_after config (orderers_kept config kept) events voted.1) voted.2 (orderer_state config kept events voted.1 voted.2) in
      fine.kept (vote_of voted.0 at.0 v) voted.3

  -- each decided value is one of the cluster, whose lengths every replica holds
  pub decided_safe : (v : Value) → In v (decided_by config kept events) → IsSafeValue config (lists_after config kept events) v
  decided_safe v a = decided_as v (subst (In v) decided_is a)
