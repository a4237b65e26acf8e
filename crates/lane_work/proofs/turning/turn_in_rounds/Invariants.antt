use Rattle.log_base.specs.Shape.{shape}
use Rattle.node_model.specs.Sound.{payloads_on}
use Rattle.node_table.specs.Numbering.{nodes_of}
use Rattle.cluster.specs.Clusters.{IsPassOf}
use Rattle.lane_work.proofs.Rounds.{RoundsMade}
use Rattle.lane_work.proofs.turning.turn_in_rounds.Given as goal

abbrev pub invariant-loop-round : goal.invariant-loop-round
invariant-loop-round g l = record {
  pass : IsPassOf (shape l.cluster.config) l.cluster.run (payloads_on l.cluster.kept) l.cluster.cells.table.shared.table_id l.initial.pass.account.number l.pass.seat;
  made : RoundsMade (nodes_of (shape l.cluster.config)) l.initial.pass.seat.me.0.own l.pass.seat.me.0.own l.round;
}
