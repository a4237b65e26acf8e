use Rattle.std.proofs.Common.{ℕ, Ok, sym, ◌∙◌, subst}
use Rattle.log_base.specs.Shape.{shape}
use Rattle.node_model.specs.Sound.{payloads_on}
use Rattle.cluster.specs.Clusters.{IsPassOf}
use Rattle.lane_work.specs.declared.serving.Step.{Step}
use Rattle.lane_work.specs.Keeping.{Steps}
use Rattle.lane_work.specs.Stages.{unplaced_stage}
use Rattle.lane_work.proofs.ServingItems.{may_go_more, some_nodes, under_way_more}
use Rattle.lane_work.proofs.serving.serve.Goals as goal

pub steps-preserved : goal.steps-preserved
steps-preserved g c =
    let cluster = c.args.cluster.now in
    let config = shape cluster.config in
    let t = c.steps in
    let first = unplaced_stage c.args.first in
    let old = c.args.pass.now.account in
    let before = c.args.pass.now.seat.me.0.own in
    let own = t.pass.seat.me.0.own in
    let stage = unplaced_stage t.stage in
    let new = c.take_step.new.pass.account in
    let after = c.take_step.new.pass.seat.me.0.own in
    let number = sym t.pass.number_is ∙ t.invariant.pass.number_is in
    let step = subst (λ (s : Step). Steps config stage t.pass.account new own after (Ok s)) c.in-Goes.is c.in_ok-next.ensures.step in
    let some = some_nodes config cluster.config.in_range in
    record {
      pass = subst (λ (n : ℕ). IsPassOf config cluster.run (payloads_on cluster.kept) cluster.cells.table.shared.table_id n c.take_step.new.pass.seat) number c.in_ok-next.ensures.pass;
      may = may_go_more config first old t.pass.account new before own after stage t.invariant.under_way cluster.run old.number c.in-Goes.next some step t.invariant.may;
      under_way = under_way_more config first old t.pass.account new before own after stage t.invariant.under_way c.in-Goes.next step;
    }
