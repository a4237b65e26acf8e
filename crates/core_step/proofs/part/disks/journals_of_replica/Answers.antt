use Rattle.core_step.proofs.Handing.{replica_handed}
use Rattle.core_step.proofs.part.disks.journals_of_replica.Goals as goal

pub returns-clause-holds : goal.returns-clause-holds
returns-clause-holds g c =
    replica_handed g.J.Journal.state c.into_journals.result.items c.args.node c.into_journals.ensures.segments c.into_journals.ensures.records c.into_journals.ensures.rests
