use Rattle.quiet_model.proofs.Deciding.{decided_round}
use Rattle.quiet_model.proofs.laws.value_is_decided.Goals as goal

pub returns : goal.returns
returns c = decided_round
