use Rattle.std.proofs.Common.{Some, refl, sym, subst}
use Rattle.log_base.specs.Shape.{shape}
use Rattle.node_model.specs.OrdererNode.{Orderer}
use Rattle.paxos_model.specs.Leader.{leader_from}
use Rattle.paxos_leader.specs.Leading.{Leading}
use Rattle.orderer_node.specs.Remembering.{IsMemory}
use Rattle.orderer_node.proofs.Leaders.{fresh_fine}
use Rattle.orderer_node.proofs.Orderers.{memory_leader}
use Rattle.orderer_node.proofs.memory.OrdererMemory.lead.Goals as goal

pub invariant_of-self : goal.invariant_of-self
invariant_of-self g c =
    let config = shape c.self.inside.config in
    let o : Orderer = record { known = c.self.inside.known.known; heard = c.self.inside.heard; wishes = c.self.inside.wishes.wishes; ticks = c.self.inside.ticks; leader = c.self.inside.leader.leader } in
    subst (λ (l : Leading). IsMemory config (record { known = o.known; heard = o.heard; wishes = o.wishes; ticks = o.ticks; leader = l.leader }) c.self.inside.chain.known l.orderers) (sym c.start.ensures)
    (memory_leader config o c.self.inside.chain.known c.self.inside.leader.orderers c.self.inside.leader.orderers (Some (leader_from c.args.ballot.0 c.len.result)) c.self.invariant
    (fresh_fine config _ c.args.ballot.0 c.len.result c.requires c.len.ensures.most) refl)
