use Rattle.sequence_law.proofs.Spelled.{sequence_stays as stays}
use Rattle.sequence_law.proofs.laws.sequence_stays.Goals as goal

pub returns : goal.returns
returns c config run kept events more founded legal = stays config run kept founded events more legal
