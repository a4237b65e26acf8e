use Rattle.std.proofs.Common.{ℕ, [], sym, ap, subst}
use Rattle.counted_node.specs.Counted.{counted_meanings, counted_node}
use Rattle.tied_cells.specs.History.{StandsAfter}
use Rattle.tied_cells.specs.Turns.{HasTurn}
use Rattle.tied_cells.specs.Views.{let_go}
use Rattle.cluster.specs.Posting.{AllGoOut, HasOutputs, IsMail}
use Rattle.cluster.proofs.cluster.Cluster.finish.Goals as goal

pub release-requires-clause-turn : goal.release-requires-clause-turn
release-requires-clause-turn g c =
    subst (λ (n : ℕ). HasTurn c.args.pass.now.seat.me n c.args.held.cell) (ap (λ n. n.0) (sym c.requires.node.1)) c.requires.held.turn

pub release-requires-clause-stands : goal.release-requires-clause-stands
release-requires-clause-stands g c =
    subst (λ (n : ℕ). StandsAfter (counted_node g.J.Journal.state) counted_meanings c.args.pass.now.seat.me.0.deal.starts n c.args.held.cell.machine c.args.held.cell.events.items)
    (ap (λ n. n.0) (sym c.requires.node.1)) c.requires.held.stands

pub post_all-requires-clause-outputs : goal.post_all-requires-clause-outputs
post_all-requires-clause-outputs g c = subst (λ me. HasOutputs counted_meanings me.0 c.args.place c.args.out.now.letters) (sym c.release.ensures.view) c.requires.outputs

pub returns-clause-go_out : goal.returns-clause-go_out
returns-clause-go_out g c =
    subst (λ (n : ℕ). AllGoOut n c.args.place 0 c.args.out.now.letters (let_go c.args.pass.now.seat.me.0, []) c.post_all.new.pass.seat.me c.post_all.result) c.nodes.ensures
    (subst (λ me. AllGoOut c.nodes.result c.args.place 0 c.args.out.now.letters me c.post_all.new.pass.seat.me c.post_all.result) c.release.ensures.view c.post_all.ensures.go_out)

pub returns-clause-mail : goal.returns-clause-mail
returns-clause-mail g c = subst (λ me. IsMail me c.post_all.new.pass.seat.me) c.release.ensures.view c.post_all.ensures.mail
