use Rattle.agreement_law.proofs.Conclude.{no_rival_of, history_holds}
use Rattle.core_step.proofs.laws.no_rival_is_open.Goals as goal

pub returns : goal.returns
returns c = λ shape kept events sound legal. no_rival_of shape kept events (history_holds shape kept events sound legal)
