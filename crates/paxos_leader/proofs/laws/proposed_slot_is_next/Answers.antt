use Rattle.paxos_leader.proofs.Passing.{next_after_learning, next_is_proposed}
use Rattle.paxos_leader.proofs.laws.proposed_slot_is_next.Goals as goal

pub returns : goal.returns
returns c = record { next = next_is_proposed; learned = next_after_learning }
