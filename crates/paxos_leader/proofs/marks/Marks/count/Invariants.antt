use Rattle.std.proofs.Common.{◌≡◌, ◌≤◌}
use Rattle.paxos_model.specs.Majority.{is_marked, tally}
use Rattle.paxos_leader.proofs.marks.Marks.count.Given as goal

abbrev pub invariant-loop-orderer : goal.invariant-loop-orderer
invariant-loop-orderer l = (l.count ≡ tally (is_marked l.self.0) l.orderer) × (l.count ≤ l.orderer)
