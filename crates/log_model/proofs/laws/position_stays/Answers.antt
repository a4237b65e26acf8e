use Rattle.log_model.proofs.Spelled.{position_stays}
use Rattle.log_model.proofs.laws.position_stays.Goals as goal

pub returns : goal.returns
returns c = position_stays
