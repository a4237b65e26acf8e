use Rattle.history_check.proofs.WrittenLaws.{read_again}
use Rattle.history_check.proofs.laws.written_is_read.Goals as goal

pub returns : goal.returns
returns c history replies front is are few = read_again history replies is front are few
