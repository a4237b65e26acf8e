-- The leader that is meant by what the code keeps.
use Rattle.std.specs.Prelude.{List, Option, Some, None}
use Rattle.std.specs.Option.{option_map}
use Rattle.message_frame.specs.declared.messages.Vote.{Vote}
use Rattle.paxos_model.specs.Leader.{Leader, Pending}
use Rattle.paxos_leader.specs.declared.lead.Lead.{Lead}
use Rattle.paxos_leader.specs.declared.lead.Proposal.{Proposal}

abbrev pub pending_of : Proposal → Pending
pending_of proposal = record { slot = proposal.slot.0; value = proposal.value; accepted = proposal.accepted.0 }

-- the leader with these best votes in its window
abbrev pub leader_with : Lead → List (Option Vote) → Leader
leader_with lead best = record {
  ballot = lead.ballot.0;
  window = lead.window.0;
  answered = lead.answered.0;
  best = best;
  pending = option_map pending_of lead.pending;
}

abbrev pub kept_leader : Option Lead → List (Option Vote) → Option Leader
kept_leader None best = None
kept_leader (Some lead) best = Some (leader_with lead best)
