use Rattle.std.proofs.Common.{ℕ, Option, refl, sym, ap, subst, ◌∙◌}
use Rattle.log_base.specs.Shape.{shape}
use Rattle.node_model.specs.OrdererNode.{Orderer}
use Rattle.paxos_leader.specs.Leading.{Leading}
use Rattle.orderer_node.specs.Remembering.{IsMemory, Remembered}
use Rattle.paxos_leader.specs.Leading.{next_to}
use Rattle.paxos_leader.specs.declared.answers.Next.{Next}
use Rattle.orderer_node.specs.Announcing.{IsSaid, next_said}
use Rattle.orderer_node.specs.Fine.{IsFineLeaderOr, IsFineOr}
use Rattle.orderer_node.specs.declared.announcing.Announcement.{Announcement}
use Rattle.orderer_node.proofs.Leaders.{next_to_fine}
use Rattle.orderer_node.proofs.Orderers.{memory_leader}
use Rattle.orderer_node.proofs.memory.OrdererMemory.go_on.Goals as goal

pub invariant_of-self : goal.invariant_of-self
invariant_of-self g c =
    let config = shape c.self.inside.config in
    let o : Orderer = record { known = c.self.inside.known.known; heard = c.self.inside.heard; wishes = c.self.inside.wishes.wishes; ticks = c.self.inside.ticks; leader = c.self.inside.leader.leader } in
    let fine : IsFineLeaderOr config c.len.result o.leader = subst (λ (n : ℕ). IsFineLeaderOr config n o.leader) (sym c.len.ensures.count) c.self.invariant.fine.leader in
    let wish : IsFineOr config c.wish-wish.result = subst (λ (m : Remembered). IsFineOr m.config c.wish-wish.result) (sym c.self.view_is) c.wish-wish.ensures.fine in
    let step = next_to_fine config c.len.result c.self.inside.leader.orderers o.leader c.in-Some.ballot c.wish-wish.result c.len.ensures.most fine wish
    (sym c.ballot.ensures ∙ c.in-Some.is) in
    let after = subst (λ (n : ℕ). IsFineLeaderOr config n (next_to c.self.inside.leader.orderers o.leader c.len.result c.wish-wish.result).leader) c.len.ensures.count step.0 in
    subst (λ (l : Leading). IsMemory config (record { known = o.known; heard = o.heard; wishes = o.wishes; ticks = o.ticks; leader = l.leader }) c.self.inside.chain.known l.orderers) (sym c.next-next.ensures.leader)
    (memory_leader config o c.self.inside.chain.known c.self.inside.leader.orderers c.self.inside.leader.orderers
    (next_to c.self.inside.leader.orderers o.leader c.len.result c.wish-wish.result).leader c.self.invariant after refl)

pub returns-clause-said : goal.returns-clause-said
returns-clause-said g c =
    let config = shape c.self.inside.config in
    let o : Orderer = record { known = c.self.inside.known.known; heard = c.self.inside.heard; wishes = c.self.inside.wishes.wishes; ticks = c.self.inside.ticks; leader = c.self.inside.leader.leader } in
    let fine : IsFineLeaderOr config c.len.result o.leader = subst (λ (n : ℕ). IsFineLeaderOr config n o.leader) (sym c.len.ensures.count) c.self.invariant.fine.leader in
    let wish : IsFineOr config c.wish-wish.result = subst (λ (m : Remembered). IsFineOr m.config c.wish-wish.result) (sym c.self.view_is) c.wish-wish.ensures.fine in
    let step = next_to_fine config c.len.result c.self.inside.leader.orderers o.leader c.in-Some.ballot c.wish-wish.result c.len.ensures.most fine wish
    (sym c.ballot.ensures ∙ c.in-Some.is) in
    subst (λ (a : Option Announcement). IsSaid a) (sym (c.said_next.ensures ∙ ap (λ (n : Next). next_said c.in-Some.ballot n) c.next-next.ensures.answer)) step.1
