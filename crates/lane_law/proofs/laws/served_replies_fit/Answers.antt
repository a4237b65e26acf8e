use Rattle.lane_law.proofs.Served.{served_replies_fit}
use Rattle.lane_law.proofs.laws.served_replies_fit.Goals as goal

pub returns : goal.returns
returns c config run kept items workers events replies each legal shared = served_replies_fit config run kept items workers events replies legal shared each
