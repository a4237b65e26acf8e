use Rattle.shard_replica.proofs.Putting.{held-all}
use Rattle.shard_replica.proofs.lists.Lists.new.Goals as goal

pub invariant_of-result : goal.invariant_of-result
invariant_of-result g c = record { hold = held-all (λ j. g.J.Journal.state j) c.args.journals.items c.requires; read = tt }
