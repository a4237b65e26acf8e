-- Whether a cut covers something more.
use Rattle.std.specs.Prelude.{ℕ, ◌<◌, ◌≤◌, List, Bool, true, false, not, Option, Some, None, slice_index}
use Rattle.log_model.specs.Chain.{ChainState, ShardState, covered_in_shard, covered_of}
use Rattle.log_model.specs.Lookup.{segment_index}
use Rattle.paxos_model.specs.Learner.{is_empty}

-- whether a cut at these lengths covers something more of a shard, if it was added
abbrev pub covers_of : ℕ → List ℕ → Option ShardState → Bool
covers_of replicas lengths None = false
covers_of replicas lengths (Some state) = not (is_empty (covered_in_shard replicas lengths state.standing state))

-- whether one of the lengths of a shard is above what is covered of its segment
abbrev pub Rises : ℕ → ChainState → List ℕ → ℕ → Bool → Type 0
Rises replicas chain lengths shard true =
    (segment : ℕ) × (segment < replicas) × (covered_of chain shard segment < slice_index lengths (segment_index replicas shard segment))
Rises replicas chain lengths shard false =
    (segment : ℕ) → segment < replicas → slice_index lengths (segment_index replicas shard segment) ≤ covered_of chain shard segment
