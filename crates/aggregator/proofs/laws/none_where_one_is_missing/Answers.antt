use Rattle.aggregator.proofs.Leasts.{none_exactly}
use Rattle.aggregator.proofs.laws.none_where_one_is_missing.Goals as goal

pub returns : goal.returns
returns c = none_exactly
