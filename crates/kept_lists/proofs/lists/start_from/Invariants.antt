use Rattle.kept_lists.specs.Starts.{AreBelow}
use Rattle.kept_lists.proofs.lists.start_from.Given as goal

abbrev pub invariant-loop-index : goal.invariant-loop-index
invariant-loop-index l = AreBelow l.kept l.disk l.index
