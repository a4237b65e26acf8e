use Rattle.peer_copy.proofs.Spans.{opens_the_rest}
use Rattle.peer_copy.proofs.laws.note_opens_the_rest.Goals as goal

pub returns : goal.returns
returns c = opens_the_rest
