use Rattle.std.proofs.Common.{◌≡◌, length}
use Rattle.cluster.specs.Tested.{AreEmpty}
use Rattle.lane_work.proofs.tests.journals.Given as goal

-- so many journals are made
abbrev pub invariant-loop-segment : goal.invariant-loop-segment
invariant-loop-segment l = AreEmpty (λ j. j.journal) l.journals.items × (length l.journals.items ≡ l.segment)
