use Rattle.std.proofs.Common.{ℕ, ◌≤◌, None}
use Rattle.cluster_disks.specs.Lent.{StaysBut, disks, lain}
use Rattle.cluster_disks.specs.Opened.{IsDiskIn}
use Rattle.cluster_disks.proofs.Nodes.{AreClosing}
use Rattle.cluster_disks.proofs.cluster.close_disks.Given as goal

-- the disks of the nodes so far lie there again, and the others are lent
abbrev pub invariant-nodes : goal.invariant-nodes
invariant-nodes g l = record {
  closing : AreClosing (disks g.Q.D.Disk.reads g.Q.D.Disk.may_leave g.Q.D.Disk.keeps_synced g.Q.D.Disk.faults) (lain g.Q.Rack.disk_at g.Q.Rack.disk_faults g.Q.Rack.faults l.rack) l.node l.yielded;
  lent : (number : ℕ) (is : IsDiskIn l.fn.nodes.items number) → l.node ≤ is.node → g.Q.Rack.lent_under l.rack number None;
  others : StaysBut g.Q.Rack.lent_under g.Q.Rack.disk_faults g.Q.Rack.disk_at (IsDiskIn l.yielded) l.initial.rack l.rack;
  later : g.Q.Rack.faults l.initial.rack ≤ g.Q.Rack.faults l.rack;
}
