use Rattle.std.proofs.Common.{◌≡◌}
use Rattle.paxos_model.specs.Learner.{raised_from}
use Rattle.orderer_node.proofs.memory.learning.raise.Given as goal

-- so many lengths were raised
abbrev pub invariant-loop-segment : goal.invariant-loop-segment
invariant-loop-segment l = l.heard ≡ raised_from 0 l.first l.segment l.given l.fn.heard
