use Rattle.agreement_law.proofs.Conclude.{start_holds}
use Rattle.agreement_law.proofs.laws.start_is_good.Goals as goal

pub returns : goal.returns
returns c = start_holds
