use Rattle.quiet_model.proofs.Rows.{next_copy}
use Rattle.quiet_model.proofs.steps.next_copy_is_stored.Goals as goal

pub returns : goal.returns
returns c = next_copy
