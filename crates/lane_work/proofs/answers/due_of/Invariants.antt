use Rattle.std.proofs.Common.{◌≡◌}
use Rattle.std.specs.Vec.Iter.{into_iter_items}
use Rattle.lane_work.specs.Stages.{due_of}
use Rattle.lane_work.proofs.answers.due_of.Given as goal

abbrev pub invariant-loop-duty : goal.invariant-loop-duty
invariant-loop-duty l = due_of (into_iter_items l.duty-iterator) ≡ due_of (into_iter_items l.initial.duty-iterator)
