use Rattle.paxos_model.proofs.Ballots.{ballot_above-own, ballot_above-above, ballot_above-least}
use Rattle.paxos_model.proofs.laws.ballots_are_apart.Goals as goal

pub returns : goal.returns
returns c = record { own = ballot_above-own; above = ballot_above-above; least = ballot_above-least }
