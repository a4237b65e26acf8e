use Rattle.safety_law.proofs.MachineLaw.{deliveries_fit as law}
use Rattle.safety_law.proofs.laws.deliveries_fit.Goals as goal

pub returns : goal.returns
returns c = law
