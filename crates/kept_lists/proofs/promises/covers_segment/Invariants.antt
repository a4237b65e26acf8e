use Rattle.std.proofs.Common.{ℕ, ◌<◌, ◌≤◌, length}
use Rattle.log_base.specs.Shape.{shape}
use Rattle.node_model.specs.Sound.{payloads_on, segment_disk}
use Rattle.kept_lists.proofs.promises.covers_segment.Given as goal

abbrev pub invariant-loop-replica : goal.invariant-loop-replica
invariant-loop-replica l =
    (replica : ℕ) → replica < l.replica → l.wanted ≤ length (payloads_on l.lists.kept.now (segment_disk (shape l.config) l.shard replica l.segment))
