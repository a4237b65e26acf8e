use Rattle.stream_law.proofs.Finding.{streams_found}
use Rattle.stream_law.proofs.laws.streams_were_found.Goals as goal

pub returns : goal.returns
returns c config run kept items events legal follow = streams_found config run kept items events legal follow
