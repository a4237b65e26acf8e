use Rattle.quiet_model.proofs.Gathering.{gathered_round}
use Rattle.quiet_model.proofs.laws.orderers_are_told.Goals as goal

pub returns : goal.returns
returns c = λ config agreed lists before after range settled. gathered_round config range agreed lists settled.sizes before after settled
