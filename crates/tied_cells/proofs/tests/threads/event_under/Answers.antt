use Rattle.std.proofs.Common.{sym, ap, ◌∙◌, subst}
use Rattle.std.specs.Option.{option_map}
use Rattle.tied_cells.specs.Rule.{told}
use Rattle.tied_cells.specs.Turns.{IsLastFetched}
use Rattle.tied_cells.proofs.Stepping.{stepped}
use Rattle.tied_cells.proofs.tests.threads.event_under.Goals as goal

pub commit-requires-clause-stepped : goal.commit-requires-clause-stepped
commit-requires-clause-stepped c =
    let view = c.letter_for-letter.new.pass.seat.me.0 in let said = c.in_ok-happened.ensures in let held = c.ready_commit.new.held in
    stepped (λ counter. counter) _ c.args.pass.now.seat.me.0.deal.starts view c.args.held.now.node.0 held.node.0 c.args.held.now.cell.events.items held.cell.events.items
    c.args.held.now.cell.machine c.machine.result.now c.count_once.new.counter (record { letter = c.letter_for-letter.result }) c.in_ok-happened.happened c.requires.stands (ap (λ d. d.starts) c.letter_for-letter.ensures.view.0)
    (ap (λ n. n.0) c.ready_commit.ensures.same.0) c.ready_commit.ensures.same.2 (c.machine.ensures.now ∙ c.ready_commit.ensures.same.1) (λ s. tt) said.input said.row said.after
    (subst (λ t. IsLastFetched held.node.0 (option_map told t.letter) view.fetched) (sym said.input) c.letter_for-letter.ensures.fetched)
