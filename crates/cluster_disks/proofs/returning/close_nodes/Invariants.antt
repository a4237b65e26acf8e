use Rattle.std.proofs.Common.{◌≡◌, ℕ, ◌<◌, ◌≤◌, None, length}
use Rattle.log_base.specs.Shape.{shape}
use Rattle.node_table.specs.Numbering.{disk_of}
use Rattle.cluster_disks.specs.Lent.{IsDiskBelow, StaysBut, disks, disks_at, lain}
use Rattle.cluster_disks.specs.Nodes.{AreAllOf}
use Rattle.cluster_disks.proofs.returning.close_nodes.Given as goal

-- the disks of the nodes so far lie there again, and the others are lent
abbrev pub invariant-nodes : goal.invariant-nodes
invariant-nodes g l = record {
  count : l.number ≡ length l.yielded;
  back : AreAllOf (disks g.Q.D.Disk.reads g.Q.D.Disk.may_leave g.Q.D.Disk.keeps_synced g.Q.D.Disk.faults) (shape l.fn.config) l.yielded (lain g.Q.Rack.disk_at g.Q.Rack.disk_faults g.Q.Rack.faults l.rack);
  lent : (n j : ℕ) → l.number ≤ n → n < length l.fn.nodes.items → j < disks_at (shape l.fn.config) n → g.Q.Rack.lent_under l.rack (disk_of n j) None;
  others : StaysBut g.Q.Rack.lent_under g.Q.Rack.disk_faults g.Q.Rack.disk_at (IsDiskBelow (shape l.fn.config) l.number) l.initial.rack l.rack;
  later : g.Q.Rack.faults l.initial.rack ≤ g.Q.Rack.faults l.rack;
}
