use Rattle.schedule_model.proofs.RunLaws.{replies_all, replies_few}
use Rattle.schedule_model.proofs.laws.each_item_is_answered.Goals as goal

pub returns : goal.returns
returns c = record { few = replies_few; all = replies_all }
