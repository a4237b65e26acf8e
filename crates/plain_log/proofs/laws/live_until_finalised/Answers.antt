use Rattle.plain_log.proofs.Joining.{live_where_not_finalised, finalised_stays}
use Rattle.plain_log.proofs.laws.live_until_finalised.Goals as goal

pub returns : goal.returns
returns c = record { live = live_where_not_finalised; finalised = finalised_stays }
