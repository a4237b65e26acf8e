use Rattle.agreement_law.proofs.Runs.{empty_sound}
use Rattle.core_step.proofs.laws.empty_lists_are_sound.Goals as goal

pub returns : goal.returns
returns c = empty_sound
