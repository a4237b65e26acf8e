use Rattle.safety_law.proofs.History.{history_fits}
use Rattle.safety_law.proofs.laws.all_holds.Goals as goal

pub returns : goal.returns
returns c = history_fits
