-- What is made ready before a step, so that the step takes no memory.
use Rattle.std.specs.Prelude.{◌≡◌, ℕ, ◌+◌, ◌*◌, ◌^◌, ◌<◌, ◌≤◌, length, map, List, [], ◌∷◌, ◌++◌, IsSome, Option, Some, None, slice_index}
use Rattle.std.specs.List.{AllByRecursion}
use Rattle.event_letters.specs.Letters.{EventLetters, HasSpace, message_length}
use Rattle.history_frame.specs.declared.events.Sent.{Sent}
use Rattle.history_frame.specs.declared.inputs.Call.{Call}
use Rattle.history_frame.specs.declared.inputs.Call.TheVariants.{Submit, Read}
use Rattle.history_frame.specs.declared.inputs.Input.{Input}
use Rattle.history_frame.specs.declared.inputs.Input.TheVariants.{Deliver, Call as ACall, Tick, Lead, Stop, Restart}
use Rattle.log_base.specs.Outgoing.{Outgoing}
use Rattle.log_model.specs.Reading.{ReadAnswer, Found, read}
use Rattle.log_model.specs.Storage.{list_in}
use Rattle.message_frame.specs.declared.messages.Message.{Message}
use Rattle.message_frame.specs.declared.messages.Message.TheVariants.{Copy, CopyAck, Decide}
use Rattle.message_frame.specs.Spelling.{IsMessage}
use Rattle.node_model.specs.StorageRow.{copies as copies_to, windows}
use Rattle.peer_copy.specs.Copying.{offsets_of, span_of_note}
use Rattle.record_frame.specs.Entries.{entry_spelling}
use Rattle.segment_journal.specs.declared.journal.Installed.{Installed}
use Rattle.segment_journal.specs.declared.journal.Installed.TheVariants.{Failed, OneMore, Same}
use Rattle.shard_replica.specs.declared.lists.LastReload.{LastReload}
use Rattle.shard_replica.specs.declared.lists.LastReload.TheVariants.{Failed as Unread, Read as WasRead}
use Rattle.shard_replica.specs.Lists.{Medium, Segment, but_room, medium_at}
use Rattle.shard_replica.specs.Replica.{Replicated, entry_size}
use Rattle.storage_node.specs.declared.node.Mode.TheVariants.{Running}
use Rattle.storage_node.specs.StorageState.{StorageState, config_of, lists_in, member_in}

-- the greatest sizes of an acknowledgement, of a report and of a want, and of a copy
abbrev pub ack_size : ℕ
ack_size = 6

abbrev pub report_size : ℕ
report_size = 25

abbrev pub want_size : ℕ
want_size = 7

abbrev pub copy_size : ℕ
copy_size = 65556

-- a letter of a storage node: its message is in range, and is not longer than a copy
abbrev pub IsLetter : Sent → Type 0
IsLetter sent = IsMessage sent.message × (message_length sent.message ≤ copy_size)

-- the sizes of letters
abbrev pub sizes_of : List Sent → List ℕ
sizes_of letters = map (λ (sent : Sent). message_length sent.message) letters

-- the copies that a running node sends to peers when a message comes, and at an input
abbrev pub copies_for_message : StorageState → Message → List Sent
copies_for_message node (CopyAck peer held) =
    copies_to (config_of node) (member_in node) (list_in (lists_in node) node.replica.state.own) peer.0
    (offsets_of (span_of_note (slice_index node.replica.state.copying.acked peer.0) held (length (list_in (lists_in node) node.replica.state.own))))
copies_for_message node _ = []

abbrev pub copies_for : StorageState → Input → List Sent
copies_for node (Deliver place index (Some message)) = copies_for_message node message
copies_for node Tick =
    windows (config_of node) (member_in node) (list_in (lists_in node) node.replica.state.own) node.replica.state.copying 0 (config_of node).replicas
copies_for node _ = []

-- the sizes of the other letters: what is copied is acknowledged, and perhaps reported; a tick reports and wants
abbrev pub sizes_for : Input → List ℕ
sizes_for (Deliver place index (Some (Copy segment offset entry))) = ack_size ∷ report_size ∷ []
sizes_for Tick = report_size ∷ want_size ∷ []
sizes_for _ = []

-- there is room for the record that is found, if one is
abbrev pub FitsRecord : ℕ → ReadAnswer → Type 0
FitsRecord room (Found entry) = length entry.bytes ≤ room
FitsRecord room _ = Unit {0}

-- the payload of a copy, and room for it
pub record IsPayloadOf (node : StorageState) (segment : ℕ) (spelling : List ℕ) : Type 0 where
  pub payload : node.payload ≡ spelling
  pub room : length node.payload ≤ (medium_at node.replica.media segment).room

-- room for the payload of a record of so many bytes
pub record HasPayloadRoom (replica : Replicated) (bytes : ℕ) : Type 0 where
  pub spelling : entry_size bytes ≤ replica.spelling
  pub room : entry_size bytes ≤ (medium_at replica.media replica.state.own).room

abbrev pub HasMemoryForMessage : StorageState → Message → Type 0
HasMemoryForMessage node (Copy segment offset entry) = IsPayloadOf node segment.0 (entry_spelling entry)
HasMemoryForMessage node (Decide slot value) = (config_of node).replicas * (config_of node).shards ≤ node.replica.runs
HasMemoryForMessage node _ = Unit {0}

abbrev pub HasMemoryForCall : StorageState → Call → Type 0
HasMemoryForCall node (Submit client number bytes) = HasPayloadRoom node.replica (length bytes)
HasMemoryForCall node (Read client position) = FitsRecord node.record_room (read (member_in node) (lists_in node) node.replica.state.known position.0)
HasMemoryForCall node _ = Unit {0}

-- the other memory that a running node needs for an input; the count of its ticks has room for one more
abbrev pub HasMemoryFor : StorageState → Input → Type 0
HasMemoryFor node (Deliver place index (Some message)) = HasMemoryForMessage node message
HasMemoryFor node (ACall call) = HasMemoryForCall node call
HasMemoryFor node Tick = node.ticks + 1 < 2 ^ 64
HasMemoryFor node _ = Unit {0}

-- a running node and its outbox have all that a step with an input needs
pub record IsPrepared (node : StorageState) (input : Input) (out : Outgoing) : Type 0 where
  pub copies : node.copies ≡ copies_for node input
  pub letters : AllByRecursion IsLetter node.copies
  pub space : HasSpace node.letters out.rooms (sizes_of node.copies ++ sizes_for input)
  pub memory : HasMemoryFor node input

-- a list was read anew, perhaps with the entry in flight at its end
abbrev pub IsRead : Segment → Option Installed → Type 0
IsRead segment None = ⊥
IsRead segment (Some Failed) = ⊥
IsRead segment (Some OneMore) = IsSome segment.flight
IsRead segment (Some Same) = Unit {0}

abbrev pub AreRead : List Segment → List Medium → Type 0
AreRead [] [] = Unit {0}
AreRead [] (medium ∷ media) = ⊥
AreRead (segment ∷ segments) [] = ⊥
AreRead (segment ∷ segments) (medium ∷ media) = IsRead segment medium.reloaded × AreRead segments media

-- the lists were read anew, or one could not be
abbrev pub IsReloaded : Option LastReload → Replicated → Type 0
IsReloaded None replica = ⊥
IsReloaded (Some Unread) replica = Unit {0}
IsReloaded (Some WasRead) replica = AreRead replica.state.segments replica.media

-- A node and its outbox have all that a step with an input needs. A node that is down needs nothing, but to start.
abbrev pub IsReady : StorageState → Input → Outgoing → Type 0
IsReady node Restart out = IsReloaded node.replica.last_reload node.replica
IsReady node Stop out = Unit {0}
IsReady node (Deliver place index message) out = node.mode ≡ Running → IsPrepared node (Deliver place index message) out
IsReady node (ACall call) out = node.mode ≡ Running → IsPrepared node (ACall call) out
IsReady node Tick out = node.mode ≡ Running → IsPrepared node Tick out
IsReady node Lead out = node.mode ≡ Running → IsPrepared node Lead out

-- what letters are made of: the room for letters, the copies made so far, and the spare buffers
pub record Stock : Type 0 where
  pub letters : EventLetters
  pub copies : List Sent
  pub rooms : List ℕ

abbrev pub stock : EventLetters → List Sent → List ℕ → Stock
stock letters copies rooms = record { letters = letters; copies = copies; rooms = rooms }

-- copies were made, with room for each
pub record Makes (made : List Sent) (old new : Stock) : Type 0 where
  pub copies : new.copies ≡ old.copies ++ made
  pub letters : AllByRecursion IsLetter made
  pub space : (sizes : List ℕ) → HasSpace old.letters old.rooms sizes → HasSpace new.letters new.rooms (sizes ++ sizes_of made)

-- making memory leaves the state of a node, and what is told of its journals but for their room
pub record IsSame (old new : StorageState) : Type 0 where
  pub state : new.replica.state ≡ old.replica.state
  pub mode : new.mode ≡ old.mode
  pub ticks : new.ticks ≡ old.ticks
  pub media : map but_room new.replica.media ≡ map but_room old.replica.media
