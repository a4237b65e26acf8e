use Rattle.schedule_model.proofs.Runs.{addition_driven, addition_replies, opening_followed}
use Rattle.schedule_model.proofs.laws.worked_runs.Goals as goal

pub returns : goal.returns
returns c = record { opening = opening_followed; driven = addition_driven; replies = addition_replies }
