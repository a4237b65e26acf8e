-- A quiet run of the smallest cluster, worked by hand: it adds a shard, appends a record and reads it. Its nodes are storage node 0,
-- gatherer 1 and orderer 2.
use Rattle.std.specs.Prelude.{ℕ, ◌+◌, List, [], ◌∷◌, ◌++◌, Some, replicate}
use Rattle.log_base.specs.ClusterShape.{Shape}
use Rattle.record_frame.specs.declared.entries.Entry.{Entry}
use Rattle.record_frame.specs.declared.values.Lengths.{Lengths}
use Rattle.record_frame.specs.declared.values.Value.{Value}
use Rattle.record_frame.specs.declared.values.Value.TheVariants.{Add as AddValue, Cut}
use Rattle.command_frame.specs.declared.items.Item.{Item}
use Rattle.command_frame.specs.declared.items.Item.TheVariants.{Add, Append, Read}
use Rattle.reply_frame.specs.declared.replies.Reply.{Reply, At, Found, Nothing, Settled, Stored, Taken}
use Rattle.message_frame.specs.declared.messages.Message.{Message}
use Rattle.message_frame.specs.declared.messages.Message.TheVariants.{Report, Least, Prepare, Promised, Accept, Accepted, Decide, Want}
use Rattle.history_frame.specs.declared.events.Event.{Event}
use Rattle.history_frame.specs.declared.events.Sent.{Sent}
use Rattle.history_frame.specs.declared.inputs.Call.{Call}
use Rattle.history_frame.specs.declared.inputs.Call.TheVariants.{Ask, Read as ReadCall, Request, Settled as SettledCall, Submit}
use Rattle.history_frame.specs.declared.inputs.Input.{Input}
use Rattle.history_frame.specs.declared.inputs.Input.TheVariants.{Deliver, Call as ACall, Tick, Lead, Restart}
use Rattle.history_frame.specs.declared.inputs.Mark.{Mark}
use Rattle.history_frame.specs.declared.inputs.Mark.TheVariants.{Done, OpenedWithout}
use Rattle.event_letters.specs.Letters.{letter}

-- one of each: storage node 0, gatherer 1 and orderer 2
abbrev pub one_of_each : Shape
one_of_each = record { replicas = 1; shards = 1; orderers = 1; gatherers = 1 }

abbrev pub worked_items : List Item
worked_items =
    Add 0 (record { 0 = 0 })
    ∷ Append 0 (record { 0 = 0 }) (record { 0 = 0 }) (97 ∷ [])
    ∷ Read 0 (record { 0 = 0 }) (record { 0 = 0 }) (record { 0 = 0 })
    ∷ []

-- ---- events

abbrev pub event_with : Mark → ℕ → ℕ → Input → List Sent → Reply → Event
event_with mark place node input outputs reply = record {
  place = place;
  node = record { 0 = node };
  happened = record { input = input; mark = mark; outputs = outputs; reply = reply };
}

-- a node restarts over disks that kept nothing
abbrev pub restarted : ℕ → Event
restarted node = event_with OpenedWithout node node Restart [] Nothing

-- a letter is delivered, and puts letters out
abbrev pub delivered : ℕ → ℕ → ℕ → ℕ → Message → List Sent → Event
delivered place node from index message outputs = event_with Done place node (Deliver from index (Some message)) outputs Nothing

-- a node ticks, and puts letters out
abbrev pub ticked : ℕ → ℕ → List Sent → Event
ticked place node outputs = event_with Done place node Tick outputs Nothing

-- a node answers a call
abbrev pub called : ℕ → ℕ → Call → Reply → Event
called place node call reply = event_with Done place node (ACall call) [] reply

-- ---- what is said

abbrev pub added : Value
added = AddValue (record { 0 = 0 })

-- so many entries of the one segment
abbrev pub entries : ℕ → Lengths
entries count = record { count = 1; length = count ∷ replicate 31 0 }

abbrev pub entry : Entry
entry = record { client = record { 0 = 0 }; number = record { 0 = 4294967296 }; bytes = 97 ∷ [] }

abbrev pub report : ℕ → Message
report count = Report (record { 0 = 0 }) (record { 0 = 0 }) (entries count)

abbrev pub least : ℕ → Message
least count = Least (record { 0 = 0 }) (entries count)

abbrev pub accept : ℕ → Value → Message
accept slot value = Accept (record { 0 = 1 }) (record { 0 = slot }) value

abbrev pub accepted : ℕ → Message
accepted slot = Accepted (record { 0 = 1 }) (record { 0 = slot }) 0

abbrev pub decide : ℕ → Value → Message
decide slot value = Decide (record { 0 = slot }) value

abbrev pub want : ℕ → Message
want known = Want (record { 0 = known }) (record { 0 = 0 })

-- ---- the run

-- the nodes restart, and the orderer takes the lead
abbrev pub opened : List Event
opened =
    restarted 0
    ∷ restarted 1
    ∷ restarted 2
    ∷ event_with Done 3 2 Lead (letter 2 (Prepare (record { 0 = 1 }) (record { 0 = 0 })) ∷ []) Nothing
    ∷ delivered 4 2 3 0 (Prepare (record { 0 = 1 }) (record { 0 = 0 })) (letter 2 (Promised (record { 0 = 1 }) (record { 0 = 0 }) 0 []) ∷ [])
    ∷ delivered 5 2 4 0 (Promised (record { 0 = 1 }) (record { 0 = 0 }) 0 []) []
    ∷ []

-- From a place on, the cluster settles, with so many entries and values: the value of the next slot is decided.
abbrev pub settled : ℕ → ℕ → ℕ → Value → List Event
settled place count slot value =
    ticked place 0 (letter 1 (report count) ∷ letter 2 (want slot) ∷ [])
    ∷ delivered (place + 1) 1 place 0 (report count) []
    ∷ delivered (place + 2) 2 place 1 (want slot) []
    ∷ ticked (place + 3) 1 (letter 2 (least count) ∷ [])
    ∷ delivered (place + 4) 2 (place + 3) 0 (least count) []
    ∷ ticked (place + 5) 2 (letter 2 (accept slot value) ∷ [])
    ∷ delivered (place + 6) 2 (place + 5) 0 (accept slot value) (letter 2 (accepted slot) ∷ [])
    ∷ delivered (place + 7) 2 (place + 6) 0 (accepted slot) (letter 0 (decide slot value) ∷ [])
    ∷ delivered (place + 8) 0 (place + 7) 0 (decide slot value) []
    ∷ ticked (place + 9) 0 (letter 1 (report count) ∷ letter 2 (want (slot + 1)) ∷ [])
    ∷ delivered (place + 10) 1 (place + 9) 0 (report count) []
    ∷ delivered (place + 11) 2 (place + 9) 1 (want (slot + 1)) []
    ∷ []

-- the shard is added
abbrev pub addition : List Event
addition =
    called 6 2 (Request (record { 0 = 0 }) added) (Taken 0)
    ∷ settled 7 0 0 added
    ++ called 19 2 (SettledCall (record { 0 = 0 }) added 0) (Settled (record { 0 = 0 })) ∷ []

-- the record is stored, covered, and told its position
abbrev pub append : List Event
append =
    called 20 0 (Submit (record { 0 = 0 }) (record { 0 = 4294967296 }) (97 ∷ [])) (Stored 0)
    ∷ settled 21 1 1 (Cut (entries 1))
    ++ called 33 0 (Ask (record { 0 = 0 }) (record { 0 = 4294967296 })) (At (record { 0 = 0 })) ∷ []

-- it is read
abbrev pub reading : List Event
reading = called 34 0 (ReadCall (record { 0 = 0 }) (record { 0 = 0 })) (Found (record { 0 = 0 }) entry) ∷ []

abbrev pub worked_run : List Event
worked_run = opened ++ addition ++ append ++ reading
