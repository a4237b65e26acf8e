use Rattle.record_frame.proofs.EntryLaws.{entry_takes, entry_again, entries_apart}
use Rattle.record_frame.proofs.Reasons.{entry_at-needs_none}
use Rattle.record_frame.proofs.laws.entry_spelled.Goals as goal

pub returns : goal.returns
returns c = record { read = entry_takes; again = entry_again; apart = entries_apart; memory = entry_at-needs_none }
