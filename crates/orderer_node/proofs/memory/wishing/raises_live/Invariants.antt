use Rattle.std.proofs.Common.{ℕ, ◌<◌, ◌≤◌}
use Rattle.std.specs.Prelude.{slice_index}
use Rattle.log_base.specs.Shape.{shape}
use Rattle.log_model.specs.Chain.{covered_of}
use Rattle.log_model.specs.Lookup.{segment_index}
use Rattle.orderer_node.proofs.memory.wishing.raises_live.Given as goal

-- no length so far is above what is covered
abbrev pub invariant-loop-segment : goal.invariant-loop-segment
invariant-loop-segment g l = (j : ℕ) → j < l.segment
    → slice_index l.lengths (segment_index (shape l.config).replicas l.shard.0 j) ≤ covered_of l.chain.known.chain l.shard.0 j
