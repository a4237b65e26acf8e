use Rattle.log_model.proofs.Frozen.{covered_of-finalised}
use Rattle.log_model.proofs.laws.nothing_after_finalisation.Goals as goal

pub returns : goal.returns
returns c = covered_of-finalised
