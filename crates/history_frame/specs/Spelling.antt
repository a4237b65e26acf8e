-- How events and histories are spelled, and which of them have a spelling. The message of a letter that is
-- delivered is not in the bytes: the output that is named tells it.
use Rattle.std.specs.Prelude.{◌≡◌, ℕ, ◌+◌, ◌-◌, ◌≤◌, List, [], ◌∷◌, ◌++◌, length}
use Rattle.std.specs.List.{flat_map, AllByRecursion}
use Rattle.log_base.specs.ClusterShape.{Shape}
use Rattle.log_base.specs.Shape.{shape}
use Rattle.log_base.specs.Wide.{be2, be4, be8}
use Rattle.record_frame.specs.Entries.{entry_spelling, entry_of}
use Rattle.record_frame.specs.Values.{IsValue, value_spelling}
use Rattle.message_frame.specs.Spelling.{IsMessage, message_spelling}
use Rattle.reply_frame.specs.Frames.{frame}
use Rattle.reply_frame.specs.Replies.{IsReply, reply_bytes}
use Rattle.history_frame.specs.declared.inputs.Call.{Call}
use Rattle.history_frame.specs.declared.inputs.Call.TheVariants.{Submit, Ask, Read, Request, Settled}
use Rattle.history_frame.specs.declared.inputs.Input.{Input}
use Rattle.history_frame.specs.declared.inputs.Input.TheVariants.{Deliver, Call as ACall, Tick, Lead, Stop, Restart}
use Rattle.history_frame.specs.declared.inputs.Mark.{Mark}
use Rattle.history_frame.specs.declared.inputs.Mark.TheVariants.{Done, Halted, OpenedWithout, OpenedWith, StayedDown}
use Rattle.history_frame.specs.declared.events.Sent.{Sent}
use Rattle.history_frame.specs.declared.events.Happened.{Happened}
use Rattle.history_frame.specs.declared.events.Event.{Event}
use Rattle.history_frame.specs.declared.events.Kept.{Kept}
use Rattle.history_frame.specs.declared.events.History.{History}

-- ---- what a node takes

-- a call: its kind and its fields; a Submit is spelled as the entry that it is to store
abbrev pub call_spelling : Call → List ℕ
call_spelling (Submit client number bytes) = entry_spelling (entry_of client number bytes)
call_spelling (Ask client number) = 2 ∷ (be2 client.0 ++ be8 number.0)
call_spelling (Read client position) = 3 ∷ (be2 client.0 ++ be8 position.0)
call_spelling (Request client value) = 4 ∷ (be2 client.0 ++ value_spelling value)
call_spelling (Settled client value start) = 5 ∷ (be2 client.0 ++ (value_spelling value ++ be4 start))

-- an input: its kind and its fields, but for the message of a letter
abbrev pub input_spelling : Input → List ℕ
input_spelling (Deliver place index message) = 1 ∷ (be4 place ++ (index ∷ []))
input_spelling (ACall call) = 2 ∷ call_spelling call
input_spelling Tick = 3 ∷ []
input_spelling Lead = 4 ∷ []
input_spelling Stop = 5 ∷ []
input_spelling Restart = 6 ∷ []

-- the record of a call is not too long, and its value is in range
abbrev pub IsCall : Call → Type 0
IsCall (Submit client number bytes) = length bytes ≤ 65535
IsCall (Ask client number) = Unit {0}
IsCall (Read client position) = Unit {0}
IsCall (Request client value) = IsValue value
IsCall (Settled client value start) = IsValue value

abbrev pub IsInput : Input → Type 0
IsInput (Deliver place index message) = Unit {0}
IsInput (ACall call) = IsCall call
IsInput Tick = Unit {0}
IsInput Lead = Unit {0}
IsInput Stop = Unit {0}
IsInput Restart = Unit {0}

-- ---- events

-- the byte of a mark
abbrev pub mark_byte : Mark → ℕ
mark_byte Done = 0
mark_byte Halted = 1
mark_byte OpenedWithout = 2
mark_byte OpenedWith = 3
mark_byte StayedDown = 4

-- an output: its addressee, and the message behind its length
abbrev pub sent_spelling : Sent → List ℕ
sent_spelling sent = be2 sent.to.0 ++ (be4 (length (message_spelling sent.message)) ++ message_spelling sent.message)

-- the message of an output is in range
abbrev pub IsSent : Sent → Type 0
IsSent sent = IsMessage sent.message

-- what happened: the input, the mark, the outputs behind their number, and the reply
abbrev pub happened_spelling : Happened → List ℕ
happened_spelling happened =
    input_spelling happened.input
    ++ (mark_byte happened.mark ∷ (length happened.outputs ∷ (flat_map sent_spelling happened.outputs ++ reply_bytes happened.reply)))

-- how many bytes the frame of an event has, at whatever place and node: its length, its kind, the node, and what happened
abbrev pub event_size : Happened → ℕ
event_size happened = 7 + length (happened_spelling happened)

-- What happened has a spelling: its parts are in range, with at most 255 outputs, and fit a frame, which has at
-- most 2,097,152 bytes behind its length.
pub record IsHappened (happened : Happened) : Type 0 where
  pub input : IsInput happened.input
  pub few : length happened.outputs ≤ 255
  pub outputs : AllByRecursion IsSent happened.outputs
  pub reply : IsReply happened.reply
  pub size : event_size happened ≤ 2097156

-- ---- frames

-- the first frame of a history: the numbers of its config, and its run
abbrev pub head_body : Shape → ℕ → List ℕ
head_body config run = config.replicas ∷ (config.shards ∷ (config.orderers ∷ (config.gatherers ∷ be4 run)))

abbrev pub head_spelling : Shape → ℕ → List ℕ
head_spelling config run = frame 96 (head_body config run)

-- a payload that a disk held before the run, behind the disk's number
abbrev pub kept_body : Kept → List ℕ
kept_body kept = be4 kept.disk ++ kept.payload

abbrev pub kept_spelling : Kept → List ℕ
kept_spelling kept = frame 97 (kept_body kept)

-- an event, but for its place, which is its number among the events
abbrev pub event_body : Event → List ℕ
event_body event = be2 event.node.0 ++ happened_spelling event.happened

abbrev pub event_spelling : Event → List ℕ
event_spelling event = frame 98 (event_body event)

-- the frame of an event up to its outputs
abbrev pub front_spelling : Event → List ℕ
front_spelling event =
    be4 (event_size event.happened - 4)
    ++ (98 ∷ (be2 event.node.0 ++ (input_spelling event.happened.input ++ (mark_byte event.happened.mark ∷ (length event.happened.outputs ∷ [])))))

-- the payload fits its frame
abbrev pub IsKept : Kept → Type 0
IsKept kept = length kept.payload + 5 ≤ 2097152

-- ---- histories

-- the disks never fall, from this one on
abbrev pub DisksRise : ℕ → List Kept → Type 0
DisksRise least [] = Unit {0}
DisksRise least (kept ∷ others) = (least ≤ kept.disk) × DisksRise kept.disk others

-- the events stand at this place and those after it
abbrev pub InPlace : ℕ → List Event → Type 0
InPlace place [] = Unit {0}
InPlace place (event ∷ events) = (event.place ≡ place) × InPlace (place + 1) events

-- what happened in the event has a spelling
abbrev pub IsEvent : Event → Type 0
IsEvent event = IsHappened event.happened

-- A history has a spelling: its run is 1 to 1,000,000, its disks never fall, its events stand at the places from 0
-- on, and each payload and event fits its frame.
pub record IsHistory (history : History) : Type 0 where
  pub some_run : 1 ≤ history.run
  pub run : history.run ≤ 1000000
  pub disks : DisksRise 0 history.kept
  pub kept : AllByRecursion IsKept history.kept
  pub places : InPlace 0 history.events
  pub events : AllByRecursion IsEvent history.events

-- the one spelling of a history: its head, its payloads in order of disk and offset, and its events in order of place
abbrev pub history_spelling : History → List ℕ
history_spelling history =
    head_spelling (shape history.config) history.run
    ++ (flat_map kept_spelling history.kept ++ flat_map event_spelling history.events)
