use Rattle.paxos_learner.proofs.Finding.{find_least}
use Rattle.paxos_learner.proofs.laws.find_is_least.Goals as goal

pub returns : goal.returns
returns c = find_least
