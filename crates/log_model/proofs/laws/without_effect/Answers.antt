use Rattle.log_model.proofs.NoEffect.{finalise-no_effect, finalise-again, cut-no_effect}
use Rattle.log_model.proofs.laws.without_effect.Goals as goal

pub returns-clause-finalisation : goal.returns-clause-finalisation
returns-clause-finalisation c = finalise-no_effect

pub returns-clause-finalised_already : goal.returns-clause-finalised_already
returns-clause-finalised_already c = finalise-again

pub returns-clause-cut : goal.returns-clause-cut
returns-clause-cut c = cut-no_effect
