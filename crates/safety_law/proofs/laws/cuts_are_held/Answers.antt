use Rattle.safety_law.proofs.Corollaries.{cuts_are_held}
use Rattle.safety_law.proofs.laws.cuts_are_held.Goals as goal

pub returns : goal.returns
returns c = cuts_are_held
