use Rattle.sequence_law.proofs.Concluding.{acknowledged}
use Rattle.sequence_law.proofs.Founded.{all_owned}
use Rattle.sequence_law.proofs.laws.acknowledged_once.Goals as goal

pub returns : goal.returns
returns c config run kept events founded legal = acknowledged config run kept founded events legal (all_owned config run kept founded)
