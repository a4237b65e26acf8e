use Rattle.record_frame.proofs.Reasons.{value_at-needs_none}
use Rattle.record_frame.proofs.ValueLaws.{value_takes, value_again, values_apart}
use Rattle.record_frame.proofs.laws.value_spelled.Goals as goal

pub returns : goal.returns
returns c = record { read = value_takes; again = value_again; apart = values_apart; memory = value_at-needs_none }
