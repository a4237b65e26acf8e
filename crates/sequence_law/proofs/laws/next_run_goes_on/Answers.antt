use Rattle.sequence_law.proofs.Goes.{goes_on}
use Rattle.sequence_law.proofs.laws.next_run_goes_on.Goals as goal

pub returns : goal.returns
returns c = goes_on
