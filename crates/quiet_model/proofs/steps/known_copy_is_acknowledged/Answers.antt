use Rattle.quiet_model.proofs.Rows.{known_copy}
use Rattle.quiet_model.proofs.steps.known_copy_is_acknowledged.Goals as goal

pub returns : goal.returns
returns c = known_copy
