use Rattle.std.proofs.Common.{ℕ, sym, ap, subst, refl}
use Rattle.counted_node.specs.Counted.{counted_meanings, counted_node}
use Rattle.node_table.specs.Numbering.{nodes_of}
use Rattle.log_base.specs.Shape.{shape}
use Rattle.tied_cells.specs.History.{StandsAfter}
use Rattle.tied_cells.specs.Turns.{HasTurn}
use Rattle.cluster.proofs.Charging.{charged_moves}
use Rattle.cluster.proofs.Holding.{few_letters, nothing_held, turn_done}
use Rattle.cluster.proofs.Making.{has_outputs, idle_after}
use Rattle.cluster.proofs.cluster.Cluster.turn_held.Goals as goal

pub finish-lost-requires-clause-outputs : goal.finish-lost-requires-clause-outputs
finish-lost-requires-clause-outputs g c = let t = c.in-Ok.ensures.ok in
    has_outputs c.args.pass.now.seat.me c.turn_under.new.pass.seat.me c.args.node.0 c.in-Ok.place c.args.held.cell.events.items t.happened c.turn_under.new.out.letters t.commits t.letters_are

pub finish-lost-requires-clause-few : goal.finish-lost-requires-clause-few
finish-lost-requires-clause-few g c = let t = c.in-Ok.ensures.ok in few_letters t.happened c.turn_under.new.out.letters t.letters_are t.fits_frame.few

pub returns-in-Ok-clause-free : goal.returns-in-Ok-clause-free
returns-in-Ok-clause-free g c = (turn_done (nodes_of (shape c.args.self.now.config)) c.args.pass.now.seat.me c.turn_under.new.pass.seat.me c.finish-lost.new.pass.seat.me c.args.node.0 c.in-Ok.place c.finish-lost.result
    c.args.held.cell.events.items c.turn_under.new.out.letters c.in-Ok.ensures.ok c.finish-lost.ensures.go_out c.finish-lost.ensures.mail).event.free

pub returns-in-Ok-clause-ok : goal.returns-in-Ok-clause-ok
returns-in-Ok-clause-ok g c = turn_done (nodes_of (shape c.args.self.now.config)) c.args.pass.now.seat.me c.turn_under.new.pass.seat.me c.finish-lost.new.pass.seat.me c.args.node.0 c.in-Ok.place c.finish-lost.result
    c.args.held.cell.events.items c.turn_under.new.out.letters c.in-Ok.ensures.ok c.finish-lost.ensures.go_out c.finish-lost.ensures.mail

pub release-requires-clause-turn : goal.release-requires-clause-turn
release-requires-clause-turn g c = subst (λ (n : ℕ). HasTurn c.turn_under.new.pass.seat.me n c.turn_under.new.held.cell) (ap (λ n. n.0) (sym c.in-Err.ensures.node)) c.in-Err.ensures.held.turn

pub release-requires-clause-stands : goal.release-requires-clause-stands
release-requires-clause-stands g c = let cell = c.turn_under.new.held.cell in
    subst (λ (n : ℕ). StandsAfter (counted_node g.J.Journal.state) counted_meanings c.turn_under.new.pass.seat.me.0.deal.starts n cell.machine cell.events.items)
    (ap (λ n. n.0) (sym c.in-Err.ensures.node)) c.in-Err.ensures.held.stands

pub returns-in-Err-clause-free : goal.returns-in-Err-clause-free
returns-in-Err-clause-free g c = nothing_held c.turn_under.new.pass.seat.me c.release.new.pass.seat.me c.release.ensures.view

pub returns-in-Err-clause-memory : goal.returns-in-Err-clause-memory
returns-in-Err-clause-memory g c = idle_after c.args.pass.now.seat.me c.turn_under.new.pass.seat.me c.release.new.pass.seat.me c.in-Err.ensures.err c.release.ensures.view

pub returns-in-Ok-clause-charged : goal.returns-in-Ok-clause-charged
returns-in-Ok-clause-charged g c =
    charged_moves c.args.pass.now.account c.args.pass.now.account c.turn_under.new.pass.account c.finish-lost.new.pass.account c.args.pass.now.seat.me.0.own c.args.pass.now.seat.me.0.own c.turn_under.new.pass.seat.me.0.own c.finish-lost.new.pass.seat.me.0.own
    c.in-Ok.ensures.charged refl c.finish-lost.ensures.account refl (λ i. (c.finish-lost.ensures.mail i).0.own)
