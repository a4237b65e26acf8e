use Rattle.std.proofs.Common.{refl}
use Rattle.log_model.specs.Asking.{ask}
use Rattle.log_model.specs.Pairs.{held}
use Rattle.plain_log.proofs.laws.missing_answers.Goals as goal

pub returns : goal.returns
unfolding ask held
returns c = refl
