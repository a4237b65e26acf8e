use Rattle.agreement_law.proofs.Conclude.{decided_stays}
use Rattle.core_step.proofs.laws.decided_stays.Goals as goal

pub returns : goal.returns
returns c = decided_stays
