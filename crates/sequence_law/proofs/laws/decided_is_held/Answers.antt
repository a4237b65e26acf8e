use Rattle.sequence_law.proofs.Spelled.{decided_held}
use Rattle.sequence_law.proofs.laws.decided_is_held.Goals as goal

pub returns : goal.returns
returns c = decided_held
