use Rattle.agreement_law.proofs.Conclude.{history_holds}
use Rattle.agreement_law.proofs.laws.invariant_holds.Goals as goal

pub returns : goal.returns
returns c = history_holds
