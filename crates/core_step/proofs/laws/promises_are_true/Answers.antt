use Rattle.agreement_law.proofs.Conclude.{promises_of, history_holds}
use Rattle.core_step.proofs.laws.promises_are_true.Goals as goal

pub returns : goal.returns
returns c = λ shape kept events sound legal. promises_of shape kept events (history_holds shape kept events sound legal)
