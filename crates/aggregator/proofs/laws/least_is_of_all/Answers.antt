use Rattle.aggregator.proofs.Leasts.{below_all}
use Rattle.aggregator.proofs.laws.least_is_of_all.Goals as goal

pub returns : goal.returns
returns c = below_all
