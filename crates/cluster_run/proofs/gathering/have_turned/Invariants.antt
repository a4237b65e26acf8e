use Rattle.std.proofs.Common.{◌≡◌, ◌<◌, ℕ, slice_get, Some, Ok}
use Rattle.cluster_run.proofs.gathering.have_turned.Given as goal

-- those so far came to their ends
abbrev pub invariant-loop-answer : goal.invariant-loop-answer
invariant-loop-answer l = (k : ℕ) (answer : _) → k < l.answer-index → slice_get l.turned k ≡ Some answer → answer ≡ Ok tt
