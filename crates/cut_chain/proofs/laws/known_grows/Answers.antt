use Rattle.cut_chain.proofs.Growing.{known_grows}
use Rattle.cut_chain.proofs.laws.known_grows.Goals as goal

pub returns : goal.returns
returns c = known_grows
