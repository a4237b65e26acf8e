use Rattle.std.proofs.Common.{◌≡◌, length, refl, sym, ap, subst}
use Rattle.log_base.specs.Shape.{shape}
use Rattle.node_model.specs.OrdererNode.{Orderer}
use Rattle.paxos_leader.specs.Leading.{Leading}
use Rattle.orderer_node.specs.Announcing.{announced}
use Rattle.orderer_node.specs.Remembering.{IsMemory, Remembered}
use Rattle.node_model.specs.OrdererRow.{on_promised, told}
use Rattle.std.specs.List.{AllByRecursion}
use Rattle.paxos_leader.specs.Leading.{promise_to}
use Rattle.orderer_node.specs.Fine.{IsFineVote}
use Rattle.orderer_node.proofs.Leaders.{promised_fine}
use Rattle.orderer_node.proofs.Orderers.{memory_leader}
use Rattle.orderer_node.proofs.Rows.{promised_row}
use Rattle.orderer_node.proofs.memory.OrdererMemory.promised.Goals as goal

pub invariant_of-self : goal.invariant_of-self
invariant_of-self g c =
    let config = shape c.self.inside.config in
    let o : Orderer = record { known = c.self.inside.known.known; heard = c.self.inside.heard; wishes = c.self.inside.wishes.wishes; ticks = c.self.inside.ticks; leader = c.self.inside.leader.leader } in
    let votes : AllByRecursion (IsFineVote config) c.args.votes.now = subst (λ (m : Remembered). AllByRecursion (IsFineVote m.config) c.args.votes.now) (sym c.self.view_is) c.requires.votes in
    let fine = promised_fine config (length o.known) c.self.inside.leader.orderers o.leader c.args.ballot.0 c.args.from.0 c.args.who c.args.votes.now c.self.invariant.fine.leader votes in
    subst (λ (l : Leading). IsMemory config (record { known = o.known; heard = o.heard; wishes = o.wishes; ticks = o.ticks; leader = l.leader }) c.self.inside.chain.known l.orderers) (sym c.promised.ensures.leader)
    (memory_leader config o c.self.inside.chain.known c.self.inside.leader.orderers c.self.inside.leader.orderers
    (promise_to c.self.inside.leader.orderers o.leader c.args.ballot.0 c.args.from.0 c.args.who c.args.votes.now).leader c.self.invariant fine refl)

pub returns-in-Counted-clause-row : goal.returns-in-Counted-clause-row
returns-in-Counted-clause-row g c =
    let config = shape c.self.inside.config in
    let o : Orderer = record { known = c.self.inside.known.known; heard = c.self.inside.heard; wishes = c.self.inside.wishes.wishes; ticks = c.self.inside.ticks; leader = c.self.inside.leader.leader } in
    let row = promised_row config o c.go_on.new.self.orderer c.self.inside.leader.orderers c.args.ballot.0 c.args.from.0 c.args.who c.in-Counted.answers c.args.votes.now
    c.promised.result c.promised.new.self.leader (announced config c.go_on.result) c.self.invariant.counted c.promised.ensures.answer c.in-Counted.is
    (ap (λ (l : Leading). l.leader) c.promised.ensures.leader) c.go_on.ensures.row in
    subst (λ (m : Remembered). on_promised m.config m.orderer c.args.ballot.0 c.args.from.0 c.args.who c.args.votes.now
    ≡ told c.go_on.new.self.orderer (announced m.config c.go_on.result)) c.self.view_is row
