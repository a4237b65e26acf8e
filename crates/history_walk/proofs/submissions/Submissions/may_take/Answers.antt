use Rattle.std.proofs.Common.{ap, refl, ◌∙◌}
use Rattle.node_model.specs.Legal.{submitted}
use Rattle.history_walk.proofs.Noting.{may_nothing, not_a_call}
use Rattle.history_walk.proofs.submissions.Submissions.may_take.Goals as goal

pub returns-in-Call : goal.returns-in-Call
returns-in-Call c = λ before event noted node input. c.may_be_called.ensures before event noted node (input ∙ c.in-Call.is)

pub returns-in_default : goal.returns-in_default
returns-in_default c = λ before event noted node input.
    (λ t. may_nothing c.args.run before event (ap submitted input ∙ not_a_call c.args.input.now c.in_default.not-Call), λ may. refl)
