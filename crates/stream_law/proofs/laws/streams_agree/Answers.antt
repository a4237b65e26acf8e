use Rattle.stream_law.proofs.Standing.{streams_agree_with}
use Rattle.stream_law.proofs.laws.streams_agree.Goals as goal

pub returns : goal.returns
returns c config run kept items events founded legal follow = streams_agree_with config run kept founded events legal items follow
