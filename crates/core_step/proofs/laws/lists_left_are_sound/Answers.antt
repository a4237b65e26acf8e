use Rattle.agreement_law.proofs.Runs.{left_decided, left_sound}
use Rattle.core_step.proofs.laws.lists_left_are_sound.Goals as goal

pub returns : goal.returns
returns c = record { sound = left_sound; decided = left_decided }
