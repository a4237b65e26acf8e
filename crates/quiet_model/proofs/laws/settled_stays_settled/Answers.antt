use Rattle.quiet_model.proofs.Still.{still_round}
use Rattle.quiet_model.proofs.laws.settled_stays_settled.Goals as goal

pub returns : goal.returns
returns c = still_round
