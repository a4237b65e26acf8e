use Rattle.std.proofs.Common.{List, sym, subst, ◌∙◌, refl}
use Rattle.counted_node.specs.Counted.{counted_node, CountedState}
use Rattle.history_frame.specs.declared.inputs.Input.TheVariants.{Call as ACall}
use Rattle.log_base.specs.Shape.{shape}
use Rattle.node_model.specs.Sound.{payloads_on}
use Rattle.node_table.specs.Numbering.{nodes_of, role_at}
use Rattle.tied_cells.specs.Turns.{HasLeft}
use Rattle.cluster.specs.Events.{FitsAlways}
use Rattle.cluster.proofs.Charging.{charged_moves}
use Rattle.cluster.proofs.Giving.{call_fits, call_spelled}
use Rattle.cluster.proofs.Holding.{held_at, left_over}
use Rattle.cluster.proofs.Making.{given_from, idle_from}
use Rattle.cluster.proofs.Passing.{pass_busy, pass_given, pass_idle}
use Rattle.cluster.proofs.cluster.Cluster.call.Goals as goal

pub give_held-requires-clause-node : goal.give_held-requires-clause-node
give_held-requires-clause-node g c = (c.requires.node, λ i. record { 0 = c.in-Held.ensures.outcome.0 i })

pub give_held-requires-clause-held : goal.give_held-requires-clause-held
give_held-requires-clause-held g c = let t = c.in-Held.ensures.outcome in
    held_at (counted_node g.J.Journal.state) c.args.pass.now.seat.me c.take.new.pass.seat.me c.args.node.0 c.in-Held.held.cell t.1 t.2

pub give_held-requires-clause-left : goal.give_held-requires-clause-left
give_held-requires-clause-left g c = subst HasLeft (sym c.in-Held.ensures.same.1) (left_over c.spent.result (HasLeft c.args.pass.now.account) c.if-spent.false c.spent.ensures.left)

pub give_held-requires-clause-fits : goal.give_held-requires-clause-fits
give_held-requires-clause-fits g c = let t = c.in-Held.ensures.outcome in let config = shape c.args.self.now.config in
    subst (λ (starts : List CountedState). FitsAlways starts c.args.node.0 (ACall c.args.call)) (λ i. (sym t.1 i).0.deal.starts)
    (call_fits config (payloads_on c.args.self.now.kept) c.args.pass.now.seat.me.0.deal.starts c.requires.pass.first c.args.node.0 c.requires.node c.args.call c.requires.fits)

pub give_held-requires-clause-spelled : goal.give_held-requires-clause-spelled
give_held-requires-clause-spelled g c = let config = shape c.args.self.now.config in call_spelled config (role_at config c.args.node.0) c.args.call c.requires.fits

pub returns-in-Ok-clause-answer : goal.returns-in-Ok-clause-answer
returns-in-Ok-clause-answer g c = let t = c.in-Held.ensures.outcome in let es = c.in-Held.held.cell.events.items in (
  left_over c.spent.result (HasLeft c.args.pass.now.account) c.if-spent.false c.spent.ensures.left,
  (es, c.in-Ok.given.lost, given_from (nodes_of (shape c.args.self.now.config)) c.args.pass.now.seat.me c.take.new.pass.seat.me c.give_held.new.pass.seat.me c.args.node.0 c.in-Ok.given.place c.in-Ok.given.lost es (ACall c.args.call) c.in-Ok.given.reply t.1 c.in-Ok.ensures.ok),
)

pub returns-in-Err-clause-memory : goal.returns-in-Err-clause-memory
returns-in-Err-clause-memory g c = let t = c.in-Held.ensures.outcome in
    idle_from c.args.pass.now.seat.me c.take.new.pass.seat.me c.give_held.new.pass.seat.me c.args.node.0 c.in-Held.held.cell.events.items t.1 c.in-Err.ensures.memory

pub take-requires-clause-table : goal.take-requires-clause-table
take-requires-clause-table g c = c.requires.pass.table_is

pub take-requires-clause-free : goal.take-requires-clause-free
take-requires-clause-free g c = c.requires.pass.free

pub give_held-requires-clause-table : goal.give_held-requires-clause-table
give_held-requires-clause-table g c = c.take.ensures.same.0 ∙ c.requires.pass.table_is

pub returns-in-Busy-clause-pass : goal.returns-in-Busy-clause-pass
returns-in-Busy-clause-pass g c = pass_busy (shape c.args.self.now.config) c.args.self.now.run (payloads_on c.args.self.now.kept) c.args.self.now.cells.table.shared.table_id c.args.pass.now.account.number c.args.pass.now.seat c.take.new.pass.seat c.requires.pass c.take.ensures.same.0 c.args.node.0 c.in-Busy.ensures.outcome

pub returns-in-Err-clause-pass : goal.returns-in-Err-clause-pass
returns-in-Err-clause-pass g c = let t = c.in-Held.ensures.outcome in
    pass_idle (shape c.args.self.now.config) c.args.self.now.run (payloads_on c.args.self.now.kept) c.args.self.now.cells.table.shared.table_id c.args.pass.now.account.number c.args.pass.now.seat c.give_held.new.pass.seat c.requires.pass (c.give_held.ensures.same ∙ c.take.ensures.same.0) c.give_held.ensures.free
    (idle_from c.args.pass.now.seat.me c.take.new.pass.seat.me c.give_held.new.pass.seat.me c.args.node.0 c.in-Held.held.cell.events.items t.1 c.in-Err.ensures.memory)

pub returns-in-Ok-clause-pass : goal.returns-in-Ok-clause-pass
returns-in-Ok-clause-pass g c = let t = c.in-Held.ensures.outcome in let es = c.in-Held.held.cell.events.items in let nodes = nodes_of (shape c.args.self.now.config) in
    pass_given (shape c.args.self.now.config) c.args.self.now.run (payloads_on c.args.self.now.kept) c.args.self.now.cells.table.shared.table_id c.args.pass.now.account.number c.args.pass.now.seat c.give_held.new.pass.seat c.requires.pass (c.give_held.ensures.same ∙ c.take.ensures.same.0) nodes c.args.node.0 c.in-Ok.given.place c.in-Ok.given.lost es (ACall c.args.call) c.in-Ok.given.reply
    (given_from nodes c.args.pass.now.seat.me c.take.new.pass.seat.me c.give_held.new.pass.seat.me c.args.node.0 c.in-Ok.given.place c.in-Ok.given.lost es (ACall c.args.call) c.in-Ok.given.reply t.1 c.in-Ok.ensures.ok)
    c.requires.submits

pub returns-in-Ok-clause-account : goal.returns-in-Ok-clause-account
returns-in-Ok-clause-account g c = let t = c.in-Held.ensures.outcome in
    charged_moves c.take.new.pass.account c.args.pass.now.account c.give_held.new.pass.account c.give_held.new.pass.account c.take.new.pass.seat.me.0.own c.args.pass.now.seat.me.0.own c.give_held.new.pass.seat.me.0.own c.give_held.new.pass.seat.me.0.own
    c.in-Ok.ensures.charged (sym c.take.ensures.same.1) refl (λ i. (sym t.1 i).0.own) refl
