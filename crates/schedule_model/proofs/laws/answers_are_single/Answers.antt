use Rattle.schedule_model.proofs.Singles.{row_reply}
use Rattle.schedule_model.proofs.laws.answers_are_single.Goals as goal

pub returns : goal.returns
returns c = row_reply
