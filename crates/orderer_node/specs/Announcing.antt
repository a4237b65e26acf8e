-- What an orderer tells to many nodes, and the letters of it.
use Rattle.std.specs.Prelude.{ℕ, suc, ◌≤◌, List, [], ◌∷◌, ◌++◌, length, Option, Some, None}
use Rattle.std.specs.List.{AllByRecursion}
use Rattle.event_letters.specs.Letters.{message_length}
use Rattle.history_frame.specs.declared.events.Sent.{Sent}
use Rattle.log_base.specs.ClusterShape.{Shape}
use Rattle.log_base.specs.declared.numbers.Ballot.{Ballot}
use Rattle.message_frame.specs.declared.messages.Message.{Message}
use Rattle.message_frame.specs.declared.messages.Message.TheVariants.{Prepare, Accept, Decide}
use Rattle.message_frame.specs.Spelling.{IsMessage}
use Rattle.node_model.specs.Nodes.{letter, to_orderers, to_learners}
use Rattle.record_frame.specs.declared.values.Value.{Value}
use Rattle.paxos_leader.specs.declared.answers.Next.{Next}
use Rattle.paxos_leader.specs.declared.answers.Next.TheVariants.{Propose, Window, Nothing}
use Rattle.node_model.specs.Messages.{decide_message}
use Rattle.orderer_node.specs.declared.announcing.Announcement.{Announcement}
use Rattle.orderer_node.specs.declared.announcing.Announcement.TheVariants.{Prepare as AskPromises, Accept as AskVotes, Decide as TellDecided}
use Rattle.orderer_node.specs.declared.announcing.Decided.{Decided}

-- the message of it
abbrev pub message_of : Announcement → Message
message_of (AskPromises ballot slot) = Prepare ballot slot
message_of (AskVotes ballot slot value) = Accept ballot slot value
message_of (TellDecided slot value) = Decide slot value

-- the letters of it to every orderer, if there is one
abbrev pub announced : Shape → Option Announcement → List Sent
announced config None = []
announced config (Some announcement) = to_orderers config (message_of announcement)

-- what a leader says next
abbrev pub next_said : Ballot → Next → Option Announcement
next_said ballot (Propose slot value) = Some (AskVotes ballot slot value)
next_said ballot (Window slot) = Some (AskPromises ballot slot)
next_said ballot Nothing = None

-- the letters of a decision, and of what the leader says next
abbrev pub decided_letters : Shape → ℕ → ℕ → Option Decided → List Sent
decided_letters config index slot None = []
decided_letters config index slot (Some decided) =
    to_learners config index (decide_message slot decided.value) ++ announced config decided.next

-- it has a spelling
abbrev pub IsSaid : Option Announcement → Type 0
IsSaid None = Unit {0}
IsSaid (Some announcement) = IsMessage (message_of announcement)

-- how many bytes the message of an announcement has at most, and how many a report of votes has
abbrev pub announcement_limit : ℕ
announcement_limit = 143

abbrev pub report_limit : ℕ
report_limit = 9103

-- a letter with a spelling that is not too long
pub record IsSmall (sent : Sent) : Type 0 where
  pub message : IsMessage sent.message
  pub short : message_length sent.message ≤ report_limit

-- so many such letters at most
pub record AreSmall (count : ℕ) (sent : List Sent) : Type 0 where
  pub few : length sent ≤ count
  pub each : AllByRecursion IsSmall sent

-- the letters that tell a node some decided values, of the slots from one on
abbrev pub decides : ℕ → ℕ → List Value → List Sent
decides node slot [] = []
decides node slot (value ∷ values) = letter node (decide_message slot value) ∷ decides node (suc slot) values
