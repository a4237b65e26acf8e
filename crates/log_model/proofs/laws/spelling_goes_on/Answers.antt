use Rattle.log_model.proofs.Appending.{chain_of-append, spell-append}
use Rattle.log_model.proofs.laws.spelling_goes_on.Goals as goal

pub returns-clause-chain : goal.returns-clause-chain
returns-clause-chain c = chain_of-append

pub returns-clause-places : goal.returns-clause-places
returns-clause-places c = spell-append
