use Rattle.std.proofs.Common.{refl}
use Rattle.log_base.specs.Wide.{be2, be4, be8}
use Rattle.plain_log.proofs.laws.subscribed_answers.Goals as goal

pub returns : goal.returns
unfolding be2 be4 be8
returns c = refl
