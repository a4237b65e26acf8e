use Rattle.std.proofs.Common.{[]}
use Rattle.history_walk.specs.Beginning.{AreLists}
use Rattle.history_walk.proofs.lists.empty_lists.Given as goal

abbrev pub invariant-loop : goal.invariant-loop
invariant-loop l = AreLists l.journals.items (λ disk. []) 0 l.counter
