use Rattle.quiet_model.proofs.Copying.{copied_round}
use Rattle.quiet_model.proofs.laws.copies_catch_up.Goals as goal

pub returns : goal.returns
returns c = copied_round
