use Rattle.sequence_law.proofs.Reading.{reads_agree as agree}
use Rattle.sequence_law.proofs.laws.reads_agree.Goals as goal

pub returns : goal.returns
returns c config run kept events founded legal = agree config run kept founded events legal
