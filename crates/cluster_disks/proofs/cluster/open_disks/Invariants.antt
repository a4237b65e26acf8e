use Rattle.std.proofs.Common.{ℕ, ◌+◌, ◌≤◌, None}
use Rattle.std.specs.Prelude.{vec_len, vec_capacity}
use Rattle.log_base.specs.Shape.{shape}
use Rattle.cluster_disks.specs.Lent.{IsDiskBelow, StaysBut, disks, lain}
use Rattle.cluster_disks.proofs.Nodes.{AreOpening}
use Rattle.cluster_disks.proofs.cluster.open_disks.Given as goal

-- the disks of the nodes before this one are open
abbrev pub invariant-loop-number : goal.invariant-loop-number
invariant-loop-number g l = record {
  opening : AreOpening (disks g.Q.D.Disk.reads g.Q.D.Disk.may_leave g.Q.D.Disk.keeps_synced g.Q.D.Disk.faults) (shape l.config) (lain g.Q.Rack.disk_at g.Q.Rack.disk_faults g.Q.Rack.faults l.initial.rack) l.number l.opened.items;
  lent : (k : ℕ) → IsDiskBelow (shape l.config) l.number k → g.Q.Rack.lent_under l.rack k None;
  others : StaysBut g.Q.Rack.lent_under g.Q.Rack.disk_faults g.Q.Rack.disk_at (IsDiskBelow (shape l.config) l.number) l.initial.rack l.rack;
  later : g.Q.Rack.faults l.initial.rack ≤ g.Q.Rack.faults l.rack;
  room : vec_len l.opened + l.count ≤ vec_capacity l.opened + l.number;
}
