use Rattle.cluster_disks.specs.Lent.{disks}
use Rattle.scalog_run.proofs.Checkable.{sends_lawful}
use Rattle.scalog_run.proofs.checking.runs_are_lawful.Goals as goal

pub returns : goal.returns
returns g c config run old new sink_old sink_new ran =
    sends_lawful (disks g.D.Disk.reads g.D.Disk.may_leave g.D.Disk.keeps_synced g.D.Disk.faults) config run old new sink_old sink_new ran
