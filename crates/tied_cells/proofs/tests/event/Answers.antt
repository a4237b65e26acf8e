use Rattle.std.proofs.Common.{sym, ap, ◌∙◌, subst}
use Rattle.tied_cells.specs.Turns.{IsLastFetched}
use Rattle.tied_cells.proofs.Stepping.{stepped}
use Rattle.tied_cells.proofs.tests.event.Goals as goal

pub commit-place-requires-clause-stepped : goal.commit-place-requires-clause-stepped
commit-place-requires-clause-stepped g c =
    let m = g.M.Machine.meanings in let t = c.in-Held.ensures.outcome in let view = c.take.new.pass.seat.me.0 in let said = c.in_ok-happened.ensures in
    let none = ap m.delivers said.input ∙ c.requires.quiet in
    stepped g.M.Machine.state m c.args.pass.now.seat.me.0.deal.starts view c.args.node.0 c.ready_commit.new.held.node.0 c.in-Held.held.cell.events.items c.ready_commit.new.held.cell.events.items
    c.in-Held.held.cell.machine c.machine.result.now c.step_at.new.machine c.args.input c.in_ok-happened.happened t.2 (λ i. (t.1 i).0.deal.starts)
    (ap (λ n. n.0) c.ready_commit.ensures.same.0 ∙ t.0) c.ready_commit.ensures.same.2 (ap g.M.Machine.state (c.machine.ensures.now ∙ c.ready_commit.ensures.same.1)) c.requires.fits said.input said.row said.after
    (subst (λ o. IsLastFetched c.ready_commit.new.held.node.0 o view.fetched) (sym none) tt)
