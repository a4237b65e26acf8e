use Rattle.std.proofs.Common.{◌≡◌}
use Rattle.log_base.specs.Shape.{shape}
use Rattle.node_model.specs.Sound.{payloads_on}
use Rattle.cluster.specs.Clusters.{IsPassOf}
use Rattle.lane_work.proofs.turning.turn_node.Given as goal

abbrev pub invariant-tries : goal.invariant-tries
invariant-tries g l = record {
  pass : IsPassOf (shape l.cluster.config) l.cluster.run (payloads_on l.cluster.kept) l.cluster.cells.table.shared.table_id l.initial.pass.account.number l.pass.seat;
  own : l.pass.seat.me.0.own ≡ l.initial.pass.seat.me.0.own;
  account : l.pass.account ≡ l.initial.pass.account;
}
