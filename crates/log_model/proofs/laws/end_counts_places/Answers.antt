use Rattle.log_model.proofs.Appending.{end-chain_of}
use Rattle.log_model.proofs.laws.end_counts_places.Goals as goal

pub returns : goal.returns
returns c = end-chain_of
