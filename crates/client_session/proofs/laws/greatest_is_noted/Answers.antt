use Rattle.client_session.proofs.Greatest.{greatest_noted}
use Rattle.client_session.proofs.laws.greatest_is_noted.Goals as goal

pub returns : goal.returns
returns c = greatest_noted
