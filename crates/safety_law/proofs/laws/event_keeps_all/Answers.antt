use Rattle.safety_law.proofs.Step.{step}
use Rattle.safety_law.proofs.laws.event_keeps_all.Goals as goal

pub returns : goal.returns
returns c = λ config state sent node input mark made range fit within good rule. step config range state sent fit node within input mark good made rule
