use Rattle.std.proofs.Common.{ℕ, ◌<◌, get_or}
use Rattle.log_base.specs.Shape.{shape}
use Rattle.log_model.specs.Lookup.{segment_index}
use Rattle.node_model.specs.Sound.{payloads_on}
use Rattle.kept_lists.specs.Covering.{CoversSegment}
use Rattle.kept_lists.proofs.promises.covers_shard.Given as goal

abbrev pub invariant-loop-segment : goal.invariant-loop-segment
invariant-loop-segment l =
    (segment : ℕ) → segment < l.segment
    → CoversSegment (shape l.config) (payloads_on l.lists.kept.now) l.shard segment (get_or l.lengths (segment_index (shape l.config).replicas l.shard segment) 0)
