use Rattle.std.proofs.Common.{◌≡◌, ◌*◌, ◌<◌, sym, subst}
use Rattle.log_base.specs.Shape.{shape}
use Rattle.orderer_node.specs.Remembering.{Remembered}
use Rattle.orderer_node.proofs.Orderers.{heard_fine}
use Rattle.orderer_node.proofs.memory.OrdererMemory.hear.Goals as goal

pub invariant_of-self : goal.invariant_of-self
invariant_of-self g c =
    let config = shape c.self.inside.config in
    let shard : c.args.shard.0 < config.shards = subst (λ (m : Remembered). c.args.shard.0 < m.config.shards) (sym c.self.view_is) c.requires.shard in
    let first : c.from.result * c.from-2.result ≡ c.args.shard.0 * config.replicas = cc in
    let heard = c.raise.ensures in
    heard_fine config c.args.shard.0 (c.from.result * c.from-2.result) c.replicas-2.result c.args.lengths.now c.raise.new.heard
    (record { known = c.self.inside.known.known; heard = c.self.inside.heard; wishes = c.self.inside.wishes.wishes; ticks = c.self.inside.ticks; leader = c.self.inside.leader.leader })
    c.self.inside.chain.known c.self.inside.leader.orderers shard first c.replicas-2.ensures c.requires.lengths c.raise.ensures c.self.invariant
