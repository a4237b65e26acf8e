use Rattle.std.proofs.Common.{◌≡◌, ℕ}
use Rattle.log_base.specs.Shape.{shape}
use Rattle.node_model.specs.Sound.{payloads_on}
use Rattle.node_table.specs.Numbering.{nodes_of}
use Rattle.cluster.specs.Clusters.{IsPassOf}
use Rattle.lane_work.specs.Keeping.{IsTurned}
use Rattle.lane_work.proofs.turning.turn_all.Given as goal

abbrev pub invariant-loop-node : goal.invariant-loop-node
invariant-loop-node g l = record {
  pass : IsPassOf (shape l.cluster.config) l.cluster.run (payloads_on l.cluster.kept) l.cluster.cells.table.shared.table_id l.initial.pass.account.number l.pass.seat;
  turned : IsTurned (nodes_of (shape l.cluster.config)) l.initial.pass.seat.me.0.own l.pass.seat.me.0.own (λ (count : ℕ). count ≡ l.node);
}
