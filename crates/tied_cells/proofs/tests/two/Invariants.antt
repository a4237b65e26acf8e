use Rattle.std.proofs.Common.{◌≡◌, length}
use Rattle.tied_cells.proofs.tests.two.Given as goal

abbrev pub invariant-loop-node : goal.invariant-loop-node
invariant-loop-node l = length l.machines.items ≡ l.node
