use Rattle.core_step.proofs.Gatherers.{gatherer_done, gatherer_opened, gatherer_runs}
use Rattle.core_step.proofs.part.gatherer.act_gatherer.Goals as goal

pub returns-clause-runs : goal.returns-clause-runs
returns-clause-runs c =
    let old = c.args.node.now in
    gatherer_runs old.config old.index old.node c.args.input.now c.act.result.mark _ c.act.ensures.row

pub returns-clause-done : goal.returns-clause-done
returns-clause-done c = λ other.
    let old = c.args.node.now in
    gatherer_done old.config old.index old.node c.args.input.now c.act.result.mark _ c.act.ensures.row other

pub returns-clause-opened : goal.returns-clause-opened
returns-clause-opened c = λ start.
    let old = c.args.node.now in
    gatherer_opened old.config old.index old.node c.args.input.now c.act.result.mark _ c.act.ensures.row start
