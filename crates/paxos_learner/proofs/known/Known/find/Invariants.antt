use Rattle.std.proofs.Common.{◌≤◌}
use Rattle.paxos_learner.proofs.Finding.{NoneBefore}
use Rattle.paxos_learner.proofs.known.Known.find.Given as goal

-- no slot before this one holds the value
abbrev pub invariant-loop-at : goal.invariant-loop-at
invariant-loop-at l = record {
  reached : l.fn.from.0 ≤ l.at;
  none : NoneBefore l.self.known l.value l.fn.from.0 l.at;
}
