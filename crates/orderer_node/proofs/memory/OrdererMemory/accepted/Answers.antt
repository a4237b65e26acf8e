use Rattle.std.proofs.Common.{◌≡◌, ◌++◌, ap, subst}
use Rattle.log_base.specs.Shape.{shape}
use Rattle.node_model.specs.OrdererNode.{Orderer}
use Rattle.paxos_leader.specs.Leading.{Leading}
use Rattle.orderer_node.specs.Remembering.{Remembered, gone_on}
use Rattle.log_base.specs.ClusterShape.{Shape}
use Rattle.node_model.specs.Messages.{decide_message}
use Rattle.node_model.specs.Nodes.{to_learners}
use Rattle.node_model.specs.OrdererRow.{on_accepted, told}
use Rattle.orderer_node.specs.Announcing.{announced}
use Rattle.orderer_node.proofs.Rows.{accepted_row}
use Rattle.orderer_node.proofs.memory.OrdererMemory.accepted.Goals as goal

pub returns-in-Chosen-clause-row : goal.returns-in-Chosen-clause-row
returns-in-Chosen-clause-row g c = λ index.
    let config = shape c.self.inside.config in
    let o : Orderer = record { known = c.self.inside.known.known; heard = c.self.inside.heard; wishes = c.self.inside.wishes.wishes; ticks = c.self.inside.ticks; leader = c.self.inside.leader.leader } in
    let next = subst (λ (s : Shape). gone_on s c.learn.new.self.orderer ≡ told c.go_on-next.new.self.orderer (announced s c.go_on-next.result)) c.learn.ensures.config c.go_on-next.ensures.row in
    let row = accepted_row config index o c.learn.new.self.orderer c.go_on-next.new.self.orderer c.self.inside.leader.orderers c.args.ballot.0 c.args.slot.0 c.args.who c.in-Chosen.value
    c.accepted.result c.accepted.new.self.leader (announced config c.go_on-next.result) c.self.invariant.counted c.accepted.ensures.answer c.in-Chosen.is
    (ap (λ (l : Leading). l.leader) c.accepted.ensures.leader) c.learn.ensures.orderer next in
    subst (λ (m : Remembered). on_accepted m.config index m.orderer c.args.ballot.0 c.args.slot.0 c.args.who
    ≡ told c.go_on-next.new.self.orderer (to_learners m.config index (decide_message c.args.slot.0 c.in-Chosen.value) ++ announced m.config c.go_on-next.result)) c.self.view_is row
