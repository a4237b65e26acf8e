use Rattle.quiet_model.proofs.Still.{none_ahead}
use Rattle.quiet_model.proofs.laws.none_is_ahead.Goals as goal

pub returns : goal.returns
returns c = none_ahead
