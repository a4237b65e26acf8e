use Rattle.std.proofs.Common.{ap, ◌∙◌}
use Rattle.node_model.specs.Legal.{submitted}
use Rattle.history_walk.proofs.Noting.{noted_nothing, not_a_call}
use Rattle.history_walk.proofs.submissions.Submissions.take.Goals as goal

pub returns-in_default : goal.returns-in_default
returns-in_default c = λ before event noted node input agrees.
    noted_nothing c.args.self.now before event noted (ap submitted input ∙ not_a_call c.args.input.now c.in_default.not-Call)
