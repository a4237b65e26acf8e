use Rattle.std.proofs.Common.{map}
use Rattle.core_step.specs.Standing.{cluster_node}
use Rattle.log_base.specs.Shape.{shape}
use Rattle.quiet_run.specs.Tested.{AreFirst}
use Rattle.quiet_run.proofs.tests.cluster.Given as goal

-- the nodes before this one are made
abbrev pub invariant-loop-number : goal.invariant-loop-number
invariant-loop-number l = AreFirst (shape l.config) l.number (map (cluster_node (λ j. j.journal)) l.all.items)
