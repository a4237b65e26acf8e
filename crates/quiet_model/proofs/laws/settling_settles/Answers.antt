use Rattle.quiet_model.proofs.Settling.{settled_by}
use Rattle.quiet_model.proofs.laws.settling_settles.Goals as goal

pub returns : goal.returns
returns c = settled_by
