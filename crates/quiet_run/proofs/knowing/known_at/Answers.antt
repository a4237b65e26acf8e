use Rattle.std.proofs.Common.{ap, ◌∙◌}
use Rattle.core_step.specs.Known.{known_count}
use Rattle.core_step.specs.Standing.{Standing, state_of}
use Rattle.quiet_run.proofs.Mosts.{counted_at}
use Rattle.quiet_run.proofs.knowing.known_at.Goals as goal

pub returns : goal.returns
returns g c =
    c.known.ensures
    ∙ ap (λ (node : Standing g.row.J.Denot g.row.P.Denot). known_count (state_of g.J.Journal.state node.part)) c.index-nodes-number.is
    ∙ counted_at (λ (node : Standing g.row.J.Denot g.row.P.Denot). known_count (state_of g.J.Journal.state node.part)) c.args.nodes.now c.args.number c.index-nodes-number.result c.requires
