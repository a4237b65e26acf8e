use Rattle.agreement_law.proofs.Runs.{founded_sound}
use Rattle.core_step.proofs.laws.founded_lists_are_sound.Goals as goal

pub returns : goal.returns
returns c = founded_sound
