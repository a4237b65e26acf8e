use Rattle.schedule_model.proofs.RunLaws.{plans_allowed}
use Rattle.schedule_model.proofs.laws.plans_are_allowed.Goals as goal

pub returns : goal.returns
returns c = plans_allowed
