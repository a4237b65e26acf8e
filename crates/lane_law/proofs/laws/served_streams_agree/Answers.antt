use Rattle.lane_law.proofs.Served.{served_streams_agree}
use Rattle.lane_law.proofs.laws.served_streams_agree.Goals as goal

pub returns : goal.returns
returns c config run kept items workers events replies founded legal shared = served_streams_agree config run kept items workers events replies legal shared founded
