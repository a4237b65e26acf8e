use Rattle.sequence_law.proofs.Founded.{all_owned}
use Rattle.sequence_law.proofs.Reading.{pending_unknown}
use Rattle.sequence_law.proofs.laws.pending_is_unknown.Goals as goal

pub returns : goal.returns
returns c config run kept events founded legal = pending_unknown config run kept founded (all_owned config run kept founded) events legal
