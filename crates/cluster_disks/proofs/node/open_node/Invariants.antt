use Rattle.std.proofs.Common.{ℕ, ◌+◌, ◌<◌, ◌≤◌, None}
use Rattle.std.specs.Prelude.{vec_len, vec_capacity}
use Rattle.node_table.specs.Numbering.{disk_of}
use Rattle.cluster_disks.specs.Lent.{IsDiskOfNode, StaysBut, disks, lain}
use Rattle.cluster_disks.proofs.Opening.{IsOpening}
use Rattle.cluster_disks.proofs.node.open_node.Given as goal

-- the disks of the segments before this one are open
abbrev pub invariant-loop-segment : goal.invariant-loop-segment
invariant-loop-segment g l = record {
  opening : IsOpening (disks g.Q.D.Disk.reads g.Q.D.Disk.may_leave g.Q.D.Disk.keeps_synced g.Q.D.Disk.faults) l.node.0 (lain g.Q.Rack.disk_at g.Q.Rack.disk_faults g.Q.Rack.faults l.initial.rack) l.segment l.journals.items;
  lent : (j : ℕ) → j < l.segment → g.Q.Rack.lent_under l.rack (disk_of l.node.0 j) None;
  others : StaysBut g.Q.Rack.lent_under g.Q.Rack.disk_faults g.Q.Rack.disk_at (IsDiskOfNode l.node.0 l.segment) l.initial.rack l.rack;
  later : g.Q.Rack.faults l.initial.rack ≤ g.Q.Rack.faults l.rack;
  room : vec_len l.journals + l.count ≤ vec_capacity l.journals + l.segment;
}
