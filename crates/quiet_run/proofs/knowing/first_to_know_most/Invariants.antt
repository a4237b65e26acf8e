use Rattle.std.proofs.Common.{length, map}
use Rattle.core_step.specs.Known.{known_count}
use Rattle.core_step.specs.Standing.{Standing, state_of}
use Rattle.quiet_run.proofs.Mosts.{IsMostBelow}
use Rattle.quiet_run.proofs.knowing.first_to_know_most.Given as goal

abbrev pub invariant-loop-i : goal.invariant-loop-i
invariant-loop-i g l =
    IsMostBelow (map (λ (node : Standing g.row.J.Denot g.row.P.Denot). known_count (state_of g.J.Journal.state node.part)) l.nodes) (length l.nodes) l.i l.most
