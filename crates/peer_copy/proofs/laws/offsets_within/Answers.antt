use Rattle.peer_copy.proofs.Spans.{offsets_are_within}
use Rattle.peer_copy.proofs.laws.offsets_within.Goals as goal

pub returns : goal.returns
returns c = offsets_are_within
