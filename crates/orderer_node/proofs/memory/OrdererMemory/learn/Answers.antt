use Rattle.std.proofs.Common.{List, sym, ap, subst, ◌∙◌}
use Rattle.cut_chain.specs.Known.{Known, known_of}
use Rattle.log_base.specs.Shape.{shape}
use Rattle.record_frame.specs.declared.values.Value.{Value}
use Rattle.node_model.specs.OrdererNode.{Orderer}
use Rattle.node_model.specs.OrdererRow.{learned}
use Rattle.paxos_model.specs.Learner.{learn}
use Rattle.paxos_leader.specs.Leading.{Leading}
use Rattle.orderer_node.specs.Fine.{IsFine, IsFineOrderer}
use Rattle.orderer_node.specs.Remembering.{Remembered}
use Rattle.orderer_node.proofs.Orderers.{learned_fine, learned_parts}
use Rattle.orderer_node.proofs.memory.OrdererMemory.learn.Goals as goal

pub invariant_of-self : goal.invariant_of-self
invariant_of-self g c =
    let config = shape c.self.inside.config in
    let o : Orderer = record { known = c.self.inside.known.known; heard = c.self.inside.heard; wishes = c.self.inside.wishes.wishes; ticks = c.self.inside.ticks; leader = c.self.inside.leader.leader } in
    let parts = learned_parts config o c.args.slot.0 c.args.value.now c.learn_next.new.known.known c.seen.new.self.wishes c.len.result c.passed.new.self.leader
    c.self.invariant.fine.leader c.learn_next.ensures.known c.seen.ensures.wishes c.len.ensures.count (ap (λ (l : Leading). l.leader) c.passed.ensures) in
    let value : IsFine config c.args.value.now = subst (λ (m : Remembered). IsFine m.config c.args.value.now) (sym c.self.view_is) c.requires.value in
    record {
      range = c.self.invariant.range;
      fine = subst (λ (p : Orderer). IsFineOrderer config p) parts (learned_fine config o c.args.slot.0 c.args.value.now c.requires.slot value c.self.invariant.fine);
      chained = c.learn_next.ensures.chain
          ∙ ap (λ (k : Known). known_of k.config (learn c.self.inside.known.known c.args.slot.0 c.args.value.now)) c.self.invariant.chained
          ∙ ap (λ (vs : List Value). known_of config vs) (sym c.learn_next.ensures.known);
      counted = ap (λ (l : Leading). l.orderers) c.passed.ensures ∙ c.self.invariant.counted;
    }

pub returns-clause-orderer : goal.returns-clause-orderer
returns-clause-orderer g c =
    let config = shape c.self.inside.config in
    let o : Orderer = record { known = c.self.inside.known.known; heard = c.self.inside.heard; wishes = c.self.inside.wishes.wishes; ticks = c.self.inside.ticks; leader = c.self.inside.leader.leader } in
    let parts = learned_parts config o c.args.slot.0 c.args.value.now c.learn_next.new.known.known c.seen.new.self.wishes c.len.result c.passed.new.self.leader
    c.self.invariant.fine.leader c.learn_next.ensures.known c.seen.ensures.wishes c.len.ensures.count (ap (λ (l : Leading). l.leader) c.passed.ensures) in
    sym parts ∙ ap (λ (m : Remembered). learned m.orderer c.args.slot.0 c.args.value.now) c.self.view_is
