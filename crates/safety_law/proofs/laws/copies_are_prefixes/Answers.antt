use Rattle.safety_law.proofs.Corollaries.{copies_agree}
use Rattle.safety_law.proofs.laws.copies_are_prefixes.Goals as goal

pub returns : goal.returns
returns c = copies_agree
