-- The ballots and slots that an orderer holds are in the ranges of the formats.
use Rattle.std.specs.Prelude.{◌≤◌, List, length, Option, Some, None}
use Rattle.message_frame.specs.Spelling.{IsBallot}
use Rattle.paxos_model.specs.Leader.{Leader, Pending, slot_limit}
use Rattle.paxos_model.specs.Votes.{Payload, Promise, Voted}
use Rattle.node_model.specs.Marks.{Running, Stopped}
use Rattle.node_model.specs.OrdererNode.{Mode, Node, Orderer}
use Rattle.agreement_law.specs.Elements.{In}

-- the ballot and the slot of a payload
abbrev pub IsNumbered : Payload → Type 0
IsNumbered (Promise ballot) = IsBallot ballot
IsNumbered (Voted vote) = IsBallot vote.ballot.0 × (vote.slot.0 ≤ 16383)

abbrev pub IsNumberedPut : Option Payload → Type 0
IsNumberedPut None = Unit {0}
IsNumberedPut (Some payload) = IsNumbered payload

abbrev pub AreNumbered : List Payload → Type 0
AreNumbered list = (payload : Payload) → In payload list → IsNumbered payload

abbrev pub IsNumberedPending : Option Pending → Type 0
IsNumberedPending None = Unit {0}
IsNumberedPending (Some pending) = pending.slot ≤ 16383

pub record IsNumberedLeader (leader : Leader) : Type 0 where
  pub ballot : IsBallot leader.ballot
  pub window : leader.window ≤ slot_limit
  pub waits : IsNumberedPending leader.pending

abbrev pub IsNumberedLead : Option Leader → Type 0
IsNumberedLead None = Unit {0}
IsNumberedLead (Some leader) = IsNumberedLeader leader

pub record IsNumberedOrderer (orderer : Orderer) : Type 0 where
  pub known : length orderer.known ≤ slot_limit
  pub leads : IsNumberedLead orderer.leader

abbrev pub IsNumberedMode : Mode → Type 0
IsNumberedMode (Stopped flight known) = IsNumberedPut flight × (length known ≤ slot_limit)
IsNumberedMode (Running orderer) = IsNumberedOrderer orderer

pub record IsNumberedNode (node : Node) : Type 0 where
  pub kept : AreNumbered node.durable
  pub mode : IsNumberedMode node.mode
