use Rattle.paxos_leader.proofs.Passing.{passed_is_learned}
use Rattle.paxos_leader.proofs.laws.passing_is_learning.Goals as goal

pub returns : goal.returns
returns c = passed_is_learned
