use Rattle.aggregator.proofs.Leasts.{reached}
use Rattle.aggregator.proofs.laws.least_is_reached.Goals as goal

pub returns : goal.returns
returns c = reached
