use Rattle.shard_registry.proofs.Follows.{listed-entries_of, state-entries_of}
use Rattle.shard_registry.proofs.laws.state_is_that_of_the_chain.Goals as goal

pub returns-clause-listed : goal.returns-clause-listed
returns-clause-listed c = λ chain shard. listed-entries_of chain.shards shard

pub returns-clause-state : goal.returns-clause-state
returns-clause-state c = λ chain shard. state-entries_of chain.shards shard
