use Rattle.safety_law.proofs.Corollaries.{letters_are_spelled}
use Rattle.safety_law.proofs.laws.letters_are_spelled.Goals as goal

pub returns : goal.returns
returns c = letters_are_spelled
