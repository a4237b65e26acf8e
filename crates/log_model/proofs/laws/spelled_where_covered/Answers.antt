use Rattle.log_model.proofs.Spelled.{spelled_where_covered}
use Rattle.log_model.proofs.laws.spelled_where_covered.Goals as goal

pub returns : goal.returns
returns c = spelled_where_covered
