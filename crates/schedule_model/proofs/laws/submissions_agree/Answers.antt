use Rattle.schedule_model.proofs.RunLaws.{event_agrees, turn_of_run}
use Rattle.schedule_model.proofs.laws.submissions_agree.Goals as goal

pub returns : goal.returns
returns c = record { of_run = turn_of_run; one_node = event_agrees }
