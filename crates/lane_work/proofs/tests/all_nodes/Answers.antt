use Rattle.std.proofs.Common.{◌≡◌, ◌+◌, ℕ, map, ap, sym, subst, arith}
use Rattle.core_step.specs.Standing.{cluster_node}
use Rattle.log_base.specs.Shape.{shape}
use Rattle.node_table.specs.Numbering.{nodes_of}
use Rattle.cluster.specs.Tested.{AreFirstOf}
use Rattle.cluster.proofs.Empty.{nodes_push, none_first}
use Rattle.lane_work.proofs.tests.all_nodes.Goals as goal

pub loop-number-init : goal.loop-number-init
loop-number-init c =
    none_first (shape c.args.config) (map (cluster_node (λ j. j.journal)) c.new-all.result.items) (ap (map (cluster_node (λ j. j.journal))) c.new-all.ensures.items)

pub loop-number-preserved : goal.loop-number-preserved
loop-number-preserved c =
    subst (λ l. AreFirstOf (shape c.args.config) (c.loop-number.number + 1) (map (cluster_node (λ j. j.journal)) l)) (sym c.in_ok-push.ensures.items)
    (nodes_push (cluster_node (λ j. j.journal)) (shape c.args.config) c.loop-number.all.items c.loop-number.number c.in_ok-node.node c.loop-number.invariant c.in_ok-node.ensures)

pub returns : goal.returns
returns c =
    let end : c.loop-number.number ≡ nodes_of (shape c.args.config) = omega (arith, c.loop-number-test.false, c.loop-number.auto.number-end, c.nodes-number-end.ensures) in
    subst (λ (n : ℕ). AreFirstOf (shape c.args.config) n (map (cluster_node (λ j. j.journal)) c.loop-number.all.items)) end c.loop-number.invariant
