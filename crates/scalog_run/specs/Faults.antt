-- The fault of a run, by what failed.
use Rattle.cluster_disks.specs.declared.stop.OpenStop.{OpenStop}
use Rattle.cluster_disks.specs.declared.stop.OpenStop.TheVariants.{Unopened as NotOpened, BadDisk as IsBad, TooManyKept, Memory as NoRoom}
use Rattle.quiet_run.specs.declared.outcomes.DriveStop.{DriveStop}
use Rattle.quiet_run.specs.declared.outcomes.DriveStop.TheVariants.{Limit, Memory as NoMemory}
use Rattle.reply_frame.specs.declared.faults.ItemFault.{ItemFault}
use Rattle.reply_frame.specs.declared.faults.ItemFault.TheVariants.{Bad, Read, Many, Memory as NoSpace}
use Rattle.scalog_run.specs.declared.fault.RunFault.{RunFault}
use Rattle.scalog_run.specs.declared.fault.RunFault.TheVariants.{BadInput, Unread, Unopened, BadDisk, TooMany, Memory}

-- where its items could not be read
abbrev pub reading_fault : ItemFault → RunFault
reading_fault (Bad at) = BadInput at
reading_fault (Read at) = Unread at
reading_fault (Many cause) = TooMany cause
reading_fault NoSpace = Memory

-- where its cluster could not be opened; 6 is the cause of too many bytes that the disks keep
abbrev pub opening_fault : OpenStop → RunFault
opening_fault (NotOpened disk) = Unopened disk
opening_fault (IsBad disk at) = BadDisk disk at
opening_fault TooManyKept = TooMany 6
opening_fault NoRoom = Memory

-- where it stopped
abbrev pub stopping_fault : DriveStop → RunFault
stopping_fault (Limit cause) = TooMany cause
stopping_fault NoMemory = Memory
