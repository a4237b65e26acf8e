use Rattle.agreement_law.proofs.Bridge.{event_holds}
use Rattle.agreement_law.proofs.laws.event_keeps_all.Goals as goal

pub returns : goal.returns
returns c = event_holds
