use Rattle.sequence_law.proofs.OneRefusal.{second_founded, second_sequence}
use Rattle.sequence_law.proofs.example.second_run_begins.Goals as goal

pub returns : goal.returns
returns c = record { founded = second_founded; sequence = second_sequence }
