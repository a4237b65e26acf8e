use Rattle.schedule_model.proofs.RunLaws.{turn_allowed}
use Rattle.schedule_model.proofs.laws.inputs_are_allowed.Goals as goal

pub returns : goal.returns
returns c = turn_allowed
