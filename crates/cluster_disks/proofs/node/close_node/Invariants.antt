use Rattle.std.proofs.Common.{ℕ, ◌<◌, ◌≤◌, None, length}
use Rattle.node_table.specs.Numbering.{disk_of}
use Rattle.cluster_disks.specs.Lent.{IsDiskOfNode, StaysBut, disks, lain}
use Rattle.cluster_disks.proofs.Closing.{IsClosing}
use Rattle.cluster_disks.proofs.node.close_node.Given as goal

-- the disks of the journals so far lie there again
abbrev pub invariant-journals : goal.invariant-journals
invariant-journals g l = record {
  closing : IsClosing (disks g.Q.D.Disk.reads g.Q.D.Disk.may_leave g.Q.D.Disk.keeps_synced g.Q.D.Disk.faults) l.node.0 (lain g.Q.Rack.disk_at g.Q.Rack.disk_faults g.Q.Rack.faults l.rack) l.segment l.yielded;
  lent : (j : ℕ) → j < length l.fn.journals.items → g.Q.Rack.lent_under l.rack (disk_of l.node.0 j) None;
  others : StaysBut g.Q.Rack.lent_under g.Q.Rack.disk_faults g.Q.Rack.disk_at (IsDiskOfNode l.node.0 l.segment) l.initial.rack l.rack;
  later : g.Q.Rack.faults l.initial.rack ≤ g.Q.Rack.faults l.rack;
}
