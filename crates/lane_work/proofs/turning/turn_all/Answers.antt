use Rattle.std.proofs.Common.{ℕ, ◌<◌, sym, ap, ◌∙◌, subst, Ok}
use Rattle.log_base.specs.Shape.{shape}
use Rattle.log_base.specs.declared.cluster_shape.Config.{Config}
use Rattle.node_model.specs.Sound.{payloads_on}
use Rattle.node_table.specs.Numbering.{nodes_of}
use Rattle.cluster.specs.Clusters.{IsPassOf}
use Rattle.lane_work.specs.declared.turning.Went.{Went}
use Rattle.lane_work.specs.Keeping.{Makes}
use Rattle.lane_work.specs.Stages.{IsTurnAt}
use Rattle.lane_work.proofs.Rounds.{turned_more}
use Rattle.lane_work.proofs.turning.turn_all.Goals as goal

pub loop-node-preserved : goal.loop-node-preserved
loop-node-preserved g c =
    let config = shape c.args.cluster.now.config in
    let w = c.in_ok-turn_node.ensures in
    let t = c.loop-node in
    let number = sym t.pass.number_is ∙ t.invariant.pass.number_is in
    let count = c.nodes-node-end.ensures ∙ ap (λ (x : Config). nodes_of (shape x)) c.config.ensures in
    record {
      pass = subst (λ (n : ℕ). IsPassOf config c.args.cluster.now.run (payloads_on c.args.cluster.now.kept) c.args.cluster.now.cells.table.shared.table_id n c.turn_node.new.pass.seat) number w.pass;
      turned = turned_more (nodes_of config) t.node t.pass.account c.turn_node.new.pass.account c.args.pass.now.seat.me.0.own t.pass.seat.me.0.own c.turn_node.new.pass.seat.me.0.own
          (subst (λ (n : ℕ). t.node < n) count c.loop-node-test.true) t.invariant.turned
          (subst (λ (went : Went). Makes (IsTurnAt t.node) t.pass.account c.turn_node.new.pass.account t.pass.seat.me.0.own c.turn_node.new.pass.seat.me.0.own (Ok went)) c.in-Made.is w.went);
    }
