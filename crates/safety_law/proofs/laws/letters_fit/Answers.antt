use Rattle.safety_law.proofs.Corollaries.{letters_fit}
use Rattle.safety_law.proofs.laws.letters_fit.Goals as goal

pub returns : goal.returns
returns c = letters_fit
