use Rattle.safety_law.proofs.Corollaries.{replicas_hold}
use Rattle.safety_law.proofs.laws.replicas_hold_what_they_know.Goals as goal

pub returns : goal.returns
returns c = replicas_hold
