use Rattle.schedule_model.proofs.RunLaws.{event_more, followed_more, next_place}
use Rattle.schedule_model.proofs.laws.one_event_more.Goals as goal

pub returns : goal.returns
returns c = record { place = next_place; after = event_more; followed = followed_more }
