use Rattle.agreement_law.proofs.Conclude.{owned_of, history_holds}
use Rattle.core_step.proofs.laws.ballots_are_owned.Goals as goal

pub returns : goal.returns
returns c = λ shape kept events sound legal. owned_of shape kept events (history_holds shape kept events sound legal)
