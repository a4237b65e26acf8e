use Rattle.log_model.proofs.Growth.{chain_of-IsChain}
use Rattle.log_model.proofs.laws.well_formed.Goals as goal

pub returns : goal.returns
returns c = chain_of-IsChain
