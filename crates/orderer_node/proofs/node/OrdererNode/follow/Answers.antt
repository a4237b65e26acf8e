use Rattle.std.proofs.Common.{◌≡◌, Some, sym, subst}
use Rattle.history_frame.specs.declared.inputs.Input.{Input}
use Rattle.history_frame.specs.declared.inputs.Input.TheVariants.{Deliver, Tick, Lead}
use Rattle.history_frame.specs.declared.inputs.Mark.{Mark}
use Rattle.node_model.specs.OrdererRow.{outcome}
use Rattle.orderer_node.specs.Ordering.{node_of}
use Rattle.orderer_node.proofs.Outcomes.{call_outcome, lead_outcome, receive_outcome, tick_outcome}
use Rattle.orderer_node.proofs.node.OrdererNode.follow.Goals as goal

pub returns-in-Deliver-clause-row : goal.returns-in-Deliver-clause-row
returns-in-Deliver-clause-row g c =
    let place = c.in-Deliver.place in
    let index = c.in-Deliver.index in
    subst (λ (i : Input). outcome c.args.self.now.memory.config c.args.self.now.index (node_of g.J.Journal.state c.args.self.now) i c.of.result.mark
    ≡ Some (record { node = node_of g.J.Journal.state c.receive.new.self; outputs = c.receive.new.letters.sent; reply = c.of.result.reply })) (sym c.in-Deliver.is)
    (subst (λ (m : Mark). outcome c.args.self.now.memory.config c.args.self.now.index (node_of g.J.Journal.state c.args.self.now) (Deliver place index c.in-Deliver.message) m
    ≡ Some (record { node = node_of g.J.Journal.state c.receive.new.self; outputs = c.receive.new.letters.sent; reply = c.of.result.reply })) (sym c.of.ensures.mark)
    (receive_outcome g.J.Journal.state c.args.self.now c.receive.new.self place index c.in-Deliver.message c.receive.result c.receive.new.letters c.args.out.now c.receive.new.out c.of.result.reply c.requires.running
    c.receive.ensures.row c.of.ensures.reply))

pub returns-in-Call-clause-row : goal.returns-in-Call-clause-row
returns-in-Call-clause-row g c =
    subst (λ (i : Input). outcome c.args.self.now.memory.config c.args.self.now.index (node_of g.J.Journal.state c.args.self.now) i c.call.result.mark
    ≡ Some (record { node = node_of g.J.Journal.state c.call.new.self; outputs = c.args.letters.now.sent; reply = c.call.result.reply })) (sym c.in-Call.is)
    (call_outcome g.J.Journal.state c.args.self.now c.call.new.self c.in-Call.call c.call.result.mark c.args.letters.now.sent c.call.result.reply c.requires.running c.call.ensures.standing
    c.call.ensures.journal c.call.ensures.done c.requires.ready.sent c.call.ensures.row)

pub returns-in-Tick-clause-row : goal.returns-in-Tick-clause-row
returns-in-Tick-clause-row g c =
    subst (λ (i : Input). outcome c.args.self.now.memory.config c.args.self.now.index (node_of g.J.Journal.state c.args.self.now) i c.of-in-Tick.result.mark
    ≡ Some (record { node = node_of g.J.Journal.state c.tick.new.self; outputs = c.tick.new.letters.sent; reply = c.of-in-Tick.result.reply })) (sym c.in-Tick.is)
    (subst (λ (m : Mark). outcome c.args.self.now.memory.config c.args.self.now.index (node_of g.J.Journal.state c.args.self.now) Tick m
    ≡ Some (record { node = node_of g.J.Journal.state c.tick.new.self; outputs = c.tick.new.letters.sent; reply = c.of-in-Tick.result.reply })) (sym c.of-in-Tick.ensures.mark)
    (tick_outcome g.J.Journal.state c.args.self.now c.tick.new.self _ c.tick.new.letters c.args.out.now c.tick.new.out c.of-in-Tick.result.reply c.requires.running c.tick.ensures.row c.of-in-Tick.ensures.reply))

pub returns-in-Lead-clause-row : goal.returns-in-Lead-clause-row
returns-in-Lead-clause-row g c =
    subst (λ (i : Input). outcome c.args.self.now.memory.config c.args.self.now.index (node_of g.J.Journal.state c.args.self.now) i c.of-in-Lead.result.mark
    ≡ Some (record { node = node_of g.J.Journal.state c.lead.new.self; outputs = c.lead.new.letters.sent; reply = c.of-in-Lead.result.reply })) (sym c.in-Lead.is)
    (subst (λ (m : Mark). outcome c.args.self.now.memory.config c.args.self.now.index (node_of g.J.Journal.state c.args.self.now) Lead m
    ≡ Some (record { node = node_of g.J.Journal.state c.lead.new.self; outputs = c.lead.new.letters.sent; reply = c.of-in-Lead.result.reply })) (sym c.of-in-Lead.ensures.mark)
    (lead_outcome g.J.Journal.state c.args.self.now c.lead.new.self _ c.lead.new.letters c.args.out.now c.lead.new.out c.of-in-Lead.result.reply c.requires.running c.lead.ensures.row c.of-in-Lead.ensures.reply))
