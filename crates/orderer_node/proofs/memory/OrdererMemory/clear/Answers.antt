use Rattle.std.proofs.Common.{[], ap, ◌∙◌}
use Rattle.cut_chain.specs.Known.{Known, known_of}
use Rattle.log_base.specs.Shape.{shape}
use Rattle.paxos_leader.specs.Leading.{Leading}
use Rattle.orderer_node.proofs.Orderers.{memory_fresh}
use Rattle.orderer_node.proofs.memory.OrdererMemory.clear.Goals as goal

pub invariant_of-self : goal.invariant_of-self
invariant_of-self g c =
    memory_fresh (shape c.self.inside.config) c.clear.new.self.known c.nothing_heard-self-inside.result c.clear-3.new.self.wishes c.stop.new.self.leader c.clear-2.new.self.known
    c.stop.new.self.orderers c.self.invariant.range c.clear.ensures.known c.nothing_heard-self-inside.ensures c.clear-3.ensures.wishes (ap (λ (l : Leading). l.leader) c.stop.ensures)
    (c.clear-2.ensures ∙ ap (λ (k : Known). known_of k.config []) c.self.invariant.chained) (ap (λ (l : Leading). l.orderers) c.stop.ensures ∙ c.self.invariant.counted)
