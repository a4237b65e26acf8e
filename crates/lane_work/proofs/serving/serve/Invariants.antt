use Rattle.log_base.specs.Shape.{shape}
use Rattle.node_model.specs.Sound.{payloads_on}
use Rattle.cluster.specs.Clusters.{IsPassOf}
use Rattle.lane_work.specs.Keeping.{MayGo}
use Rattle.lane_work.specs.Stages.{unplaced_stage}
use Rattle.lane_work.proofs.ServingItems.{IsUnderWay}
use Rattle.lane_work.proofs.serving.serve.Given as goal

abbrev pub invariant-steps : goal.invariant-steps
invariant-steps g l = record {
  pass : IsPassOf (shape l.cluster.config) l.cluster.run (payloads_on l.cluster.kept) l.cluster.cells.table.shared.table_id l.initial.pass.account.number l.pass.seat;
  may : MayGo (shape l.cluster.config) l.cluster.run l.initial.pass.account.number l.pass.seat.me.0.own (unplaced_stage l.stage);
  under_way : IsUnderWay (shape l.cluster.config) (unplaced_stage l.fn.first) l.initial.pass.account l.pass.account
      l.initial.pass.seat.me.0.own l.pass.seat.me.0.own (unplaced_stage l.stage);
}
