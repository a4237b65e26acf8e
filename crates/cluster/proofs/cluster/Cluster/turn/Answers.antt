use Rattle.std.proofs.Common.{sym, subst, ◌∙◌, refl}
use Rattle.counted_node.specs.Counted.{counted_node}
use Rattle.node_table.specs.Numbering.{nodes_of}
use Rattle.log_base.specs.Shape.{shape}
use Rattle.tied_cells.specs.Turns.{HasLeft}
use Rattle.cluster.specs.Events.{at_turn}
use Rattle.cluster.proofs.Charging.{charged_moves}
use Rattle.cluster.proofs.Holding.{held_at, left_over}
use Rattle.cluster.proofs.Making.{idle_from, turn_from}
use Rattle.node_model.specs.Sound.{payloads_on}
use Rattle.cluster.proofs.Passing.{pass_busy, pass_idle, pass_turn}
use Rattle.cluster.proofs.cluster.Cluster.turn.Goals as goal

pub turn_held-requires-clause-node : goal.turn_held-requires-clause-node
turn_held-requires-clause-node g c = (c.requires.node, λ i. record { 0 = c.in-Held.ensures.outcome.0 i })

pub turn_held-requires-clause-held : goal.turn_held-requires-clause-held
turn_held-requires-clause-held g c = let t = c.in-Held.ensures.outcome in
    held_at (counted_node g.J.Journal.state) c.args.pass.now.seat.me c.take.new.pass.seat.me c.args.node.0 c.in-Held.held.cell t.1 t.2

pub turn_held-requires-clause-left : goal.turn_held-requires-clause-left
turn_held-requires-clause-left g c = subst HasLeft (sym c.in-Held.ensures.same.1) (left_over c.spent.result (HasLeft c.args.pass.now.account) c.if-spent.false c.spent.ensures.left)

pub returns-in-Ok-clause-answer : goal.returns-in-Ok-clause-answer
returns-in-Ok-clause-answer g c = let t = c.in-Held.ensures.outcome in let es = c.in-Held.held.cell.events.items in (
  left_over c.spent.result (HasLeft c.args.pass.now.account) c.if-spent.false c.spent.ensures.left,
  (es, turn_from (nodes_of (shape c.args.self.now.config)) c.args.pass.now.seat.me c.take.new.pass.seat.me c.turn_held.new.pass.seat.me c.args.node.0 c.in-Ok.place c.in-Ok.lost es t.1 c.in-Ok.ensures.ok),
)

pub returns-in-Err-clause-memory : goal.returns-in-Err-clause-memory
returns-in-Err-clause-memory g c = let t = c.in-Held.ensures.outcome in
    idle_from c.args.pass.now.seat.me c.take.new.pass.seat.me c.turn_held.new.pass.seat.me c.args.node.0 c.in-Held.held.cell.events.items t.1 c.in-Err.ensures.memory

pub take-requires-clause-table : goal.take-requires-clause-table
take-requires-clause-table g c = c.requires.pass.table_is

pub take-requires-clause-free : goal.take-requires-clause-free
take-requires-clause-free g c = c.requires.pass.free

pub turn_held-requires-clause-table : goal.turn_held-requires-clause-table
turn_held-requires-clause-table g c = c.take.ensures.same.0 ∙ c.requires.pass.table_is

pub returns-in-Busy-clause-pass : goal.returns-in-Busy-clause-pass
returns-in-Busy-clause-pass g c = pass_busy (shape c.args.self.now.config) c.args.self.now.run (payloads_on c.args.self.now.kept) c.args.self.now.cells.table.shared.table_id c.args.pass.now.account.number c.args.pass.now.seat c.take.new.pass.seat c.requires.pass c.take.ensures.same.0 c.args.node.0 c.in-Busy.ensures.outcome

pub returns-in-Err-clause-pass : goal.returns-in-Err-clause-pass
returns-in-Err-clause-pass g c = let t = c.in-Held.ensures.outcome in
    pass_idle (shape c.args.self.now.config) c.args.self.now.run (payloads_on c.args.self.now.kept) c.args.self.now.cells.table.shared.table_id c.args.pass.now.account.number c.args.pass.now.seat c.turn_held.new.pass.seat c.requires.pass (c.turn_held.ensures.same ∙ c.take.ensures.same.0) c.turn_held.ensures.free
    (idle_from c.args.pass.now.seat.me c.take.new.pass.seat.me c.turn_held.new.pass.seat.me c.args.node.0 c.in-Held.held.cell.events.items t.1 c.in-Err.ensures.memory)

pub returns-in-Ok-clause-pass : goal.returns-in-Ok-clause-pass
returns-in-Ok-clause-pass g c = let t = c.in-Held.ensures.outcome in let es = c.in-Held.held.cell.events.items in let nodes = nodes_of (shape c.args.self.now.config) in
    pass_turn (shape c.args.self.now.config) c.args.self.now.run (payloads_on c.args.self.now.kept) c.args.self.now.cells.table.shared.table_id c.args.pass.now.account.number c.args.pass.now.seat c.turn_held.new.pass.seat c.requires.pass (c.turn_held.ensures.same ∙ c.take.ensures.same.0) nodes c.args.node.0 c.in-Ok.place c.in-Ok.lost (at_turn c.args.pass.now.seat.me c.args.node.0 es) es
    (turn_from nodes c.args.pass.now.seat.me c.take.new.pass.seat.me c.turn_held.new.pass.seat.me c.args.node.0 c.in-Ok.place c.in-Ok.lost es t.1 c.in-Ok.ensures.ok)

pub returns-in-Ok-clause-account : goal.returns-in-Ok-clause-account
returns-in-Ok-clause-account g c = let t = c.in-Held.ensures.outcome in
    charged_moves c.take.new.pass.account c.args.pass.now.account c.turn_held.new.pass.account c.turn_held.new.pass.account c.take.new.pass.seat.me.0.own c.args.pass.now.seat.me.0.own c.turn_held.new.pass.seat.me.0.own c.turn_held.new.pass.seat.me.0.own
    c.in-Ok.ensures.charged (sym c.take.ensures.same.1) refl (λ i. (sym t.1 i).0.own) refl
