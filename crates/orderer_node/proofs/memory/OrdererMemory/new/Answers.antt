use Rattle.std.proofs.Common.{ap}
use Rattle.log_base.specs.Shape.{shape}
use Rattle.paxos_leader.specs.Leading.{Leading}
use Rattle.orderer_node.proofs.Orderers.{memory_fresh}
use Rattle.orderer_node.proofs.memory.OrdererMemory.new.Goals as goal

pub invariant_of-result : goal.invariant_of-result
invariant_of-result g c =
    memory_fresh (shape c.args.config) c.new-3.result.known c.nothing_heard.result c.new-4.result.wishes c.in_ok-leader.leader.leader c.in_ok-chain.chain.known
    c.in_ok-leader.leader.orderers c.args.config.in_range c.new-3.ensures c.nothing_heard.ensures c.new-4.ensures (ap (λ (l : Leading). l.leader) c.in_ok-leader.ensures)
    c.in_ok-chain.ensures (ap (λ (l : Leading). l.orderers) c.in_ok-leader.ensures)
