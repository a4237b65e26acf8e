use Rattle.std.proofs.Common.{◌≡◌, ℕ, ◌<◌, false}
use Rattle.log_base.specs.Shape.{shape}
use Rattle.log_model.specs.Chain.{state_in}
use Rattle.orderer_node.specs.Wishing.{covers_of}
use Rattle.orderer_node.proofs.memory.wishing.covers_more.Given as goal

-- the cut covers nothing more of any shard so far
abbrev pub invariant-loop-shard : goal.invariant-loop-shard
invariant-loop-shard g l = (s : ℕ) → s < l.shard → covers_of (shape l.config).replicas l.lengths (state_in l.chain.known.chain.shards s) ≡ false
