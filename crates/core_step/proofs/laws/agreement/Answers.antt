use Rattle.agreement_law.proofs.Conclude.{agreed_of, history_holds}
use Rattle.core_step.proofs.laws.agreement.Goals as goal

pub returns : goal.returns
returns c = λ shape kept events sound legal. agreed_of shape kept events (history_holds shape kept events sound legal)
