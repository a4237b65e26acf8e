use Rattle.sequence_law.proofs.Concluding.{refused}
use Rattle.sequence_law.proofs.Founded.{all_owned}
use Rattle.sequence_law.proofs.laws.refused_nowhere.Goals as goal

pub returns : goal.returns
returns c config run kept events founded legal = refused config run kept founded events legal (all_owned config run kept founded)
