use Rattle.std.proofs.Common.{◌+◌, ◌<◌, sym, subst, ◌∙◌, arith}
use Rattle.std.specs.List.{All}
use Rattle.cut_chain.specs.Known.{Known}
use Rattle.log_base.specs.Shape.{shape}
use Rattle.log_model.specs.Chain.{AreApart}
use Rattle.log_model.proofs.Growth.{chain_of-IsChain}
use Rattle.orderer_node.proofs.Covers.{IsBelow, none_covered, shards_below, some_covered}
use Rattle.orderer_node.proofs.memory.wishing.covers_more.Goals as goal

pub returns-then-raises : goal.returns-then-raises
returns-then-raises g c =
    some_covered (shape c.args.config.now).replicas c.args.lengths.now c.args.chain.now.known.chain.shards c.loop-shard.shard (sym c.if-raises.true ∙ c.raises.ensures)

pub returns : goal.returns
returns g c =
    let config = shape c.args.config.now in
    let shards = c.args.chain.now.known.chain.shards in
    let all : config.shards < c.loop-shard.shard + 1 = omega (arith, c.loop-shard-test.false, c.from-shard-end.ensures, c.shards.ensures) in
    let apart : AreApart shards = subst (λ (k : Known). AreApart k.chain.shards) (sym c.requires.2) (chain_of-IsChain config.replicas c.requires.0).apart in
    let below : All (IsBelow config.shards) shards = subst (λ (k : Known). All (IsBelow config.shards) k.chain.shards) (sym c.requires.2) (shards_below config c.requires.0 c.requires.1) in
    none_covered config c.args.lengths.now shards apart below (λ shard h. c.loop-shard.invariant shard (omega arith))
