-- What contracts see of an orderer's node: the node of the rules that it is, how an event turns out there, and the memory
-- that an event needs.
use Rattle.std.specs.Prelude.{◌≡◌, ℕ, ◌+◌, ◌*◌, ◌<◌, ◌≤◌, List, [], ◌++◌, drop, length, map, replicate, take, Bool, true, false, if◌then◌else◌, Option, Some, None, IsSome, IfSome}
use Rattle.std.specs.List.{AllByRecursion}
use Rattle.std.specs.Option.{option_map}
use Rattle.reply_frame.specs.declared.replies.Reply.{Nothing}
use Rattle.event_letters.specs.Letters.{EventLetters, HasSpace}
use Rattle.history_frame.specs.declared.events.Sent.{Sent}
use Rattle.history_frame.specs.declared.inputs.Input.{Input}
use Rattle.history_frame.specs.declared.inputs.Input.TheVariants.{Deliver, Tick, Lead, Stop, Restart}
use Rattle.history_frame.specs.declared.inputs.Mark.{Mark}
use Rattle.history_frame.specs.declared.inputs.Mark.TheVariants.{Done, Halted, OpenedWithout, OpenedWith, StayedDown}
use Rattle.log_base.specs.ClusterShape.{Shape}
use Rattle.log_base.specs.Outgoing.{Outgoing}
use Rattle.log_base.specs.Outside.{Rose}
use Rattle.message_frame.specs.declared.messages.Message.TheVariants.{Prepare, Promised, Accept, Accepted, Want}
use Rattle.node_model.specs.Machine.{posted}
use Rattle.node_model.specs.Marks.{Running, Stopped}
use Rattle.node_model.specs.OrdererNode.{Change, Mode, Node, Orderer, with_put}
use Rattle.node_model.specs.OrdererRow.{row}
use Rattle.paxos_acceptor.specs.Accepting.{HasRoom as HasPayloadRoom}
use Rattle.paxos_acceptor.specs.Listed.{list_of}
use Rattle.paxos_model.specs.Payloads.{IsPayload, payload_in}
use Rattle.paxos_model.specs.Votes.{Payload}
use Rattle.record_frame.specs.declared.values.Value.{Value}
use Rattle.segment_journal.specs.Journalled.{Journalled, Turns}
use Rattle.segment_journal.specs.declared.journal.Installed.{Installed}
use Rattle.segment_journal.specs.declared.journal.Installed.TheVariants.{Failed, OneMore, Same}
use Rattle.orderer_node.specs.Announcing.{AreSmall, announcement_limit, report_limit}
use Rattle.orderer_node.specs.Remembering.{HasRoom, Remembered}
use Rattle.orderer_node.specs.declared.node.Standing.{Standing}
use Rattle.orderer_node.specs.declared.node.Standing.TheVariants.{Down, Up}

-- which orderer it is, its journal, whether it runs, what it remembers, and the room for letters and for the votes of a report
pub record Ordering (J : Type 0) : Type 0 where
  pub index : ℕ
  pub journal : J
  pub standing : Standing
  pub memory : Remembered
  pub letters : EventLetters
  pub vote_room : ℕ

-- what is in flight to its list
abbrev pub flight_in : Journalled → Option Payload
flight_in journal = option_map payload_in journal.flight

abbrev pub mode_of : Journalled → Standing → Orderer → Mode
mode_of journal Down orderer = Stopped (flight_in journal) orderer.known
mode_of journal Up orderer = Running orderer

-- the node of the rules that this is
abbrev pub node_of : {J : Type 0} → (J → Journalled) → Ordering J → Node
node_of state ordering = record {
  durable = list_of (state ordering.journal);
  mode = mode_of (state ordering.journal) ordering.standing ordering.memory.orderer;
}

-- no payload is in flight, or one with a spelling
abbrev pub IsFlight : Option (List ℕ) → Type 0
IsFlight None = Unit {0}
IsFlight (Some payload) = IsPayload (payload_in payload)

-- while it runs, its journal does too, and nothing is in flight
abbrev pub RunsAs : Standing → Journalled → Type 0
RunsAs Down journal = Unit {0}
RunsAs Up journal = (journal.halted ≡ false) × (journal.flight ≡ None)

-- What the parts of a node keep true: it is an orderer of the cluster, its list has promises and votes that have a
-- spelling, and between events no letter is kept.
pub record IsOrdering (index : ℕ) (journal : Journalled) (standing : Standing) (memory : Remembered) (letters : EventLetters) : Type 0 where
  pub within : index < memory.config.orderers
  pub list : AllByRecursion IsPayload (list_of journal)
  pub flight : IsFlight journal.flight
  pub runs : RunsAs standing journal
  pub sent : letters.sent ≡ []

-- ---- how a row turns out

-- a put failed: the node is down, with the payload in flight, and puts out nothing
abbrev pub fallen : List Payload → Orderer → Option Payload → Option (Node × List Sent)
fallen list orderer None = None
fallen list orderer (Some put) = Some (record { durable = list; mode = Stopped (Some put) orderer.known }, [])

-- the node after a row, and its letters, by the mark
abbrev pub turned : List Payload → Orderer → Change → Mark → Option (Node × List Sent)
turned list orderer change Done = Some (record { durable = with_put list change.put; mode = Running change.after }, change.outputs)
turned list orderer change Halted = fallen list orderer change.put
turned list orderer change _ = None

-- a row was followed, and its letters are in the outbox
pub record Follows {J : Type 0} (state : J → Journalled) (change : Change) (old new : Ordering J) (mark : Mark) (letters : EventLetters) (before after : Outgoing) : Type 0 where
  pub turns : turned (list_of (state old.journal)) old.memory.orderer change mark ≡ Some (node_of state new, letters.sent)
  pub posts : after.letters ≡ before.letters ++ map posted letters.sent
  pub small : AreSmall 64 letters.sent
  pub silent : change.reply ≡ Nothing
  pub config : new.memory.config ≡ old.memory.config
  pub index : new.index ≡ old.index

-- the row that there is was followed
abbrev pub FollowsSome : {J : Type 0} → (J → Journalled) → Option Change → Ordering J → Ordering J → Mark → EventLetters → Outgoing → Outgoing → Type 0
FollowsSome state None old new mark letters before after = ⊥
FollowsSome state (Some change) old new mark letters before after = Follows state change old new mark letters before after

-- the mark of a row with this put, where the journal tells how its next put turns out
abbrev pub mark_by : Turns → Option Payload → Mark
mark_by turns None = Done
mark_by turns (Some put) = if turns.put_fails then Halted else Done

abbrev pub MarkFollows : Option Turns → Option Payload → Mark → Type 0
MarkFollows None put mark = Unit {0}
MarkFollows (Some turns) put mark = mark ≡ mark_by turns put

-- The count of faults never falls, and rose where the node halted. Where the journal tells how its next put turns out, the
-- mark is the one that follows.
pub record IsCaused {J : Type 0} (faults : J → ℕ) (keeps_synced : J → Bool) (turns : J → Option Turns) (put : Option Payload) (old new : J) (mark : Mark) : Type 0 where
  pub later : faults old ≤ faults new
  pub failed : mark ≡ Halted → Rose (faults old) (faults new)
  pub keeps : keeps_synced new ≡ keeps_synced old
  pub turn : MarkFollows (turns old) put mark

-- what an input puts at a node
abbrev pub put_in : Option Change → Option Payload
put_in None = None
put_in (Some change) = change.put

abbrev pub put_at : Shape → ℕ → Node → Mode → Input → Option Payload
put_at config index node (Stopped flight known) input = None
put_at config index node (Running orderer) input = put_in (row config index node.durable orderer input)

-- an input that has a row
abbrev pub HasRow : Input → Type 0
HasRow Stop = ⊥
HasRow Restart = ⊥
HasRow _ = Unit {0}

-- the mark of a restart, by what was read
abbrev pub opening_mark : Installed → Mark
opening_mark Failed = StayedDown
opening_mark OneMore = OpenedWith
opening_mark Same = OpenedWithout

-- a restart: the mark is by what was read, and no disk failed
pub record IsReopened {J : Type 0} (faults : J → ℕ) (keeps_synced : J → Bool) (reloaded : Option Installed) (old new : J) (mark : Mark) : Type 0 where
  pub marked : option_map opening_mark reloaded ≡ Some mark
  pub no_fault : faults new ≡ faults old
  pub keeps : keeps_synced new ≡ keeps_synced old

-- ---- the memory that an event needs

-- how many letters an event sends at most where these values are known, and how long each is
abbrev pub letter_count : Shape → List Value → Input → ℕ
letter_count config known (Deliver place index (Some (Prepare ballot slot))) = 1
letter_count config known (Deliver place index (Some (Promised ballot slot who votes))) = config.orderers
letter_count config known (Deliver place index (Some (Accept ballot slot value))) = 1
letter_count config known (Deliver place index (Some (Accepted ballot slot who))) = config.replicas * config.shards + config.orderers + config.orderers
letter_count config known (Deliver place index (Some (Want slot node))) = length (take 16 (drop slot.0 known))
letter_count config known Tick = config.orderers
letter_count config known Lead = config.orderers
letter_count config known _ = 0

abbrev pub letter_limit : Input → ℕ
letter_limit (Deliver place index (Some (Prepare ballot slot))) = report_limit
letter_limit _ = announcement_limit

-- the disk was read for a restart: something more is there only where a payload was in flight
pub record IsRead (journal : Journalled) : Type 0 where
  pub came : IsSome journal.reloaded
  pub flight : journal.reloaded ≡ Some OneMore → IsSome journal.flight

-- there is memory for an event with this input, whose letters these are
pub record IsReadyWith {J : Type 0} (state : J → Journalled) (ordering : Ordering J) (letters : EventLetters) (input : Input) (out : Outgoing) : Type 0 where
  pub payload : HasPayloadRoom (state ordering.journal)
  pub memory : HasRoom ordering.memory
  pub votes : 64 ≤ ordering.vote_room
  pub sent : letters.sent ≡ []
  pub space : HasSpace letters out.rooms (replicate (letter_count ordering.memory.config ordering.memory.orderer.known input) (letter_limit input))
  pub read : input ≡ Restart → IsRead (state ordering.journal)

abbrev pub IsReady : {J : Type 0} → (J → Journalled) → Ordering J → Input → Outgoing → Type 0
IsReady state ordering input out = IsReadyWith state ordering ordering.letters input out

-- A reload came to something. Where it failed, the count of faults rose or what was kept did not stay. Where the journal
-- tells how its next reload turns out, it came to that.
pub record IsReadBy (before after : ℕ) (keeps : Bool) (turns : Option Turns) (reloaded : Option Installed) : Type 0 where
  pub came : IsSome reloaded
  pub cause : reloaded ≡ Some Failed → keeps ≡ true → Rose before after
  pub turn : IfSome turns (λ turn. reloaded ≡ Some turn.reload)

abbrev pub is_down : Standing → Bool
is_down Down = true
is_down Up = false
