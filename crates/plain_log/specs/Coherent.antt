-- What holds of each state that items lead to: the covered length of each segment is the number of its entries.
use Rattle.std.specs.Prelude.{◌≡◌, ℕ, ◌<◌, ◌*◌, List, [], length, slice_index_or}
use Rattle.std.specs.List.{All}
use Rattle.log_base.specs.ClusterShape.{Shape}
use Rattle.record_frame.specs.declared.entries.Entry.{Entry}
use Rattle.log_model.specs.Chain.{ChainState, ShardState, chain_of, covered_of}
use Rattle.log_model.specs.Lookup.{segment_index}
use Rattle.plain_log.specs.Log.{LogState}

-- a shard of the cluster, live or finalised: its number is in range, and it has a length for each replica
abbrev pub IsOfShape : Shape → ShardState → Type 0
IsOfShape shape state = (state.shard < shape.shards) × (length state.covered ≡ shape.replicas)

-- each segment has a list, whose length is the segment's covered length, also where its shard is finalised
pub record IsCoherent (shape : Shape) (chain : ChainState) (segments : List (List Entry)) : Type 0 where
  pub shards : All (IsOfShape shape) chain.shards
  pub segments_of_all : length segments ≡ shape.shards * shape.replicas
  pub covered : (shard segment : ℕ) → shard < shape.shards → segment < shape.replicas
      → covered_of chain shard segment ≡ length (slice_index_or segments (segment_index shape.replicas shard segment) [])

-- what holds of a state
abbrev pub IsCoherentState : Shape → LogState → Type 0
IsCoherentState shape state = IsCoherent shape (chain_of shape.replicas state.values) state.segments
