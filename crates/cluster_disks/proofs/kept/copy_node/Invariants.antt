use Rattle.std.proofs.Common.{take}
use Rattle.node_table.specs.Numbering.{disk_of}
use Rattle.cluster_disks.specs.Found.{TakesIn, kept_from}
use Rattle.cluster_disks.proofs.kept.copy_node.Given as goal

-- the payloads of the disks so far are copied
abbrev pub invariant-loop-segment : goal.invariant-loop-segment
invariant-loop-segment g l = TakesIn (kept_from (disk_of l.node.0 0) (take l.segment l.journals)) l.bytes l.total l.initial.kept.items l.kept.items
