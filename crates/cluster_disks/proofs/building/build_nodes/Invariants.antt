use Rattle.std.proofs.Common.{◌≡◌, ◌+◌, ◌≤◌, length}
use Rattle.std.specs.Prelude.{vec_capacity, vec_len}
use Rattle.log_base.specs.Shape.{shape}
use Rattle.cluster_disks.specs.Lent.{disks}
use Rattle.cluster_disks.specs.Nodes.{AreMade, AreTaken}
use Rattle.cluster_disks.proofs.building.build_nodes.Given as goal

-- the nodes so far are made over their journals, whose places are empty, and the others have theirs
abbrev pub invariant-loop-number : goal.invariant-loop-number
invariant-loop-number g l = record {
  made : AreMade (disks g.D.Disk.reads g.D.Disk.may_leave g.D.Disk.keeps_synced g.D.Disk.faults) (shape l.fn.config) l.fn.journals.items l.nodes.items;
  taken : AreTaken l.number l.fn.journals.items l.rest.items;
  count : length l.nodes.items ≡ l.number;
  room : vec_len l.nodes + l.count ≤ vec_capacity l.nodes + l.number;
}
