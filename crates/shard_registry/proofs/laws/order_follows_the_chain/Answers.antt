use Rattle.shard_registry.proofs.Follows.{order-cut, order-add, order-finalise}
use Rattle.shard_registry.proofs.laws.order_follows_the_chain.Goals as goal

pub returns-clause-cut : goal.returns-clause-cut
returns-clause-cut c = order-cut

pub returns-clause-addition : goal.returns-clause-addition
returns-clause-addition c = order-add

pub returns-clause-finalisation : goal.returns-clause-finalisation
returns-clause-finalisation c = order-finalise
