use Rattle.std.proofs.Common.{◌∙◌}
use Rattle.core_step.proofs.Flights.{orderer_planned}
use Rattle.core_step.proofs.part.disks.plan_orderer.Goals as goal

pub returns-clause-turns : goal.returns-clause-turns
returns-clause-turns g c =
    let old = c.args.node.now in
    c.plan.ensures.turns
    ∙ orderer_planned (g.J.Journal.state old.journal) old.standing old.memory.orderer c.args.plan (g.J.Journal.turns old.journal) c.plan.ensures.runs
