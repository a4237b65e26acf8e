use Rattle.schedule_model.proofs.RunLaws.{letters_sent, turn_delivered}
use Rattle.schedule_model.proofs.laws.letters_were_sent.Goals as goal

pub returns : goal.returns
returns c = record { waiting = letters_sent; delivered = turn_delivered }
