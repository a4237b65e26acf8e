use Rattle.shard_replica.proofs.Putting.{all-held}
use Rattle.shard_replica.proofs.lists.Lists.into_journals.Goals as goal

pub returns-clause-records : goal.returns-clause-records
returns-clause-records g c = all-held (λ j. g.J.Journal.state j) c.self.inside.journals.items c.self.invariant.hold
