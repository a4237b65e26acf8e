use Rattle.safety_law.proofs.Corollaries.{lengths_are_held}
use Rattle.safety_law.proofs.laws.lengths_are_held.Goals as goal

pub returns : goal.returns
returns c = lengths_are_held
