use Rattle.std.proofs.Common.{◌≡◌, ◌≤◌, take}
use Rattle.log_base.specs.Shape.{shape}
use Rattle.node_model.specs.Sound.{payloads_on}
use Rattle.cluster.specs.Clusters.{IsPassOf}
use Rattle.lane_work.specs.Keeping.{IsBetween}
use Rattle.lane_work.proofs.ItemsLaw.{HaveGone}
use Rattle.lane_work.proofs.work.LaneWorkWork.lane.Given as goal

abbrev pub invariant-loop-item : goal.invariant-loop-item
invariant-loop-item g l = record {
  pass : IsPassOf (shape l.self.cluster.config) l.self.cluster.run (payloads_on l.self.cluster.kept) l.self.cluster.cells.table.shared.table_id l.lane l.token.seat;
  number : l.token.account.number ≡ l.lane;
  between : IsBetween (shape l.self.cluster.config) l.self.cluster.run l.lane l.session l.token.seat.me.0.own;
  few : l.session.draws ≤ l.item-index;
  count : l.index ≤ l.item-index;
  gone : HaveGone (shape l.self.cluster.config) l.lane l.self.cluster.run l.token.account l.initial.token.seat.me.0.own l.token.seat.me.0.own l.session
      (take l.item-index l.self.items) l.replies.items;
}
