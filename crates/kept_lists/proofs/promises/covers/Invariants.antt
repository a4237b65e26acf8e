use Rattle.std.proofs.Common.{ℕ, ◌<◌}
use Rattle.log_base.specs.Shape.{shape}
use Rattle.node_model.specs.Sound.{payloads_on}
use Rattle.kept_lists.specs.Covering.{CoversShard}
use Rattle.kept_lists.proofs.promises.covers.Given as goal

abbrev pub invariant-loop-shard : goal.invariant-loop-shard
invariant-loop-shard l = (shard : ℕ) → shard < l.shard → CoversShard (shape l.config) (payloads_on l.lists.kept.now) shard l.lengths
