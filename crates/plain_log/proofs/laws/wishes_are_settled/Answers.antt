use Rattle.plain_log.proofs.Joining.{wish_told, wish_settled}
use Rattle.plain_log.proofs.laws.wishes_are_settled.Goals as goal

pub returns-clause-told : goal.returns-clause-told
returns-clause-told c = wish_told

pub returns-clause-settled : goal.returns-clause-settled
returns-clause-settled c = wish_settled
