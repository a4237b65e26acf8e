use Rattle.std.proofs.Common.{◌≡◌, drop}
use Rattle.aggregator.specs.Hearing.{least_with}
use Rattle.aggregator.proofs.merging.least_of_rest.Given as goal

-- the least so far and the cells left give what the first and all cells give
abbrev pub invariant-loop-cell : goal.invariant-loop-cell
invariant-loop-cell l = least_with l.least (drop l.cell-index l.cells) ≡ least_with l.fn.first l.cells
