use Rattle.std.proofs.Common.{take}
use Rattle.cluster_disks.specs.Found.{TakesIn, kept_on}
use Rattle.cluster_disks.proofs.kept.copy_journal.Given as goal

-- the first payloads are copied
abbrev pub invariant-loop-offset : goal.invariant-loop-offset
invariant-loop-offset g l = TakesIn (kept_on l.disk (take l.offset l.journal.journal.payloads)) l.bytes l.total l.initial.kept.items l.kept.items
