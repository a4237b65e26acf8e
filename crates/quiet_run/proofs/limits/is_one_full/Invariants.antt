use Rattle.std.proofs.Common.{◌≡◌, false, take}
use Rattle.std.specs.Prelude.{nat_le}
use Rattle.std.specs.List.{list_any}
use Rattle.core_step.specs.Known.{known_count}
use Rattle.core_step.specs.Standing.{Standing, state_of}
use Rattle.quiet_run.proofs.limits.is_one_full.Given as goal

abbrev pub invariant-loop-node : goal.invariant-loop-node
invariant-loop-node g l = list_any (λ (node : Standing g.row.J.Denot g.row.P.Denot). nat_le 16384 (known_count (state_of g.J.Journal.state node.part))) (take l.node-index l.nodes) ≡ false
