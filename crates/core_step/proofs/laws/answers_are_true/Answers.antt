use Rattle.agreement_law.proofs.Conclude.{answers_of, history_holds}
use Rattle.core_step.proofs.laws.answers_are_true.Goals as goal

pub returns : goal.returns
returns c = λ shape kept events sound legal. answers_of shape kept events (history_holds shape kept events sound legal)
