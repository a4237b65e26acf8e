use Rattle.sequence_law.proofs.Sounding.{founded_sound}
use Rattle.sequence_law.proofs.laws.founded_lists_are_sound.Goals as goal

pub returns : goal.returns
returns c = founded_sound
