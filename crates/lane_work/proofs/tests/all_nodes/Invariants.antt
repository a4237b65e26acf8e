use Rattle.std.proofs.Common.{map}
use Rattle.core_step.specs.Standing.{cluster_node}
use Rattle.log_base.specs.Shape.{shape}
use Rattle.cluster.specs.Tested.{AreFirstOf}
use Rattle.lane_work.proofs.tests.all_nodes.Given as goal

-- the nodes before this one are made
abbrev pub invariant-loop-number : goal.invariant-loop-number
invariant-loop-number l = AreFirstOf (shape l.config) l.number (map (cluster_node (λ j. j.journal)) l.all.items)
