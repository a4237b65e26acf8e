use Rattle.sequence_law.proofs.Agreeing.{one_list}
use Rattle.sequence_law.proofs.laws.one_decided_list.Goals as goal

pub returns : goal.returns
returns c config run kept events founded legal = one_list config run kept founded events legal
