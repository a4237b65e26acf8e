-- A history of one shard with one replica, one gatherer and one orderer, which are nodes 0 to 2. The shard is added, a client
-- appends a record, asks where it stands and reads it.
use Rattle.std.specs.Prelude.{ℕ, ◌^◌, List, [], ◌∷◌, ◌++◌, replicate, Some}
use Rattle.reply_frame.specs.declared.replies.Reply.{Reply, At, Found, Nothing, Settled as SettledAt, Stored, Taken}
use Rattle.history_frame.specs.declared.events.Event.{Event}
use Rattle.history_frame.specs.declared.events.Sent.{Sent}
use Rattle.history_frame.specs.declared.inputs.Call.{Call}
use Rattle.history_frame.specs.declared.inputs.Call.TheVariants.{Ask, Read, Request, Settled, Submit}
use Rattle.history_frame.specs.declared.inputs.Input.{Input}
use Rattle.history_frame.specs.declared.inputs.Input.TheVariants.{Call as ACall, Deliver, Lead, Restart, Tick}
use Rattle.history_frame.specs.declared.inputs.Mark.{Mark}
use Rattle.history_frame.specs.declared.inputs.Mark.TheVariants.{Done, OpenedWithout}
use Rattle.log_base.specs.ClusterShape.{Shape}
use Rattle.message_frame.specs.declared.messages.Message.{Message}
use Rattle.record_frame.specs.declared.entries.Entry.{Entry}
use Rattle.record_frame.specs.declared.values.Lengths.{Lengths}
use Rattle.record_frame.specs.declared.values.Value.{Value}
use Rattle.record_frame.specs.declared.values.Value.TheVariants.{Add, Cut}
use Rattle.record_frame.specs.Entries.{entry_of}
use Rattle.node_model.specs.Messages.{accept_message, accepted_message, decide_message, least_message, prepare_message, promised_message, report_message, want_message}
use Rattle.node_model.specs.Nodes.{letter}

-- one node of each role
abbrev pub one_of_each : Shape
one_of_each = record { replicas = 1; shards = 1; orderers = 1; gatherers = 1 }

-- an event at a node
abbrev pub happens : ℕ → ℕ → Input → Mark → List Sent → Reply → Event
happens place node input mark outputs reply = record {
  place = place;
  node = record { 0 = node };
  happened = record { input = input; mark = mark; outputs = outputs; reply = reply };
}

abbrev pub starts_at : ℕ → ℕ → Event
starts_at place node = happens place node Restart OpenedWithout [] Nothing

abbrev pub ticks_at : ℕ → ℕ → List Sent → Event
ticks_at place node outputs = happens place node Tick Done outputs Nothing

-- the first letter of the event at a place is delivered
abbrev pub takes : ℕ → ℕ → ℕ → Message → List Sent → Event
takes place node sent message outputs = happens place node (Deliver sent 0 (Some message)) Done outputs Nothing

abbrev pub calls : ℕ → ℕ → Call → Reply → Event
calls place node call reply = happens place node (ACall call) Done [] reply

-- the record of client 7, the values, and the lengths with one entry
abbrev pub record_a : Entry
record_a = entry_of (record { 0 = 7 }) (record { 0 = 2 ^ 32 }) (97 ∷ [])

abbrev pub added : Value
added = Add (record { 0 = 0 })

abbrev pub one_held : Lengths
one_held = record { count = 1; length = 1 ∷ replicate 31 0 }

abbrev pub cut : Value
cut = Cut one_held

-- the nodes start, and the orderer begins to lead
abbrev pub opening : List Event
opening =
    starts_at 0 0
    ∷ starts_at 1 1
    ∷ starts_at 2 2
    ∷ happens 3 2 Lead Done (letter 2 (prepare_message 1 0) ∷ []) Nothing
    ∷ takes 4 2 3 (prepare_message 1 0) (letter 2 (promised_message 1 0 0 []) ∷ [])
    ∷ takes 5 2 4 (promised_message 1 0 0 []) []
    ∷ []

-- the shard is added
abbrev pub addition : List Event
addition =
    calls 6 2 (Request (record { 0 = 0 }) added) (Taken 0)
    ∷ ticks_at 7 2 (letter 2 (accept_message 1 0 added) ∷ [])
    ∷ takes 8 2 7 (accept_message 1 0 added) (letter 2 (accepted_message 1 0 0) ∷ [])
    ∷ takes 9 2 8 (accepted_message 1 0 0) (letter 0 (decide_message 0 added) ∷ [])
    ∷ takes 10 0 9 (decide_message 0 added) []
    ∷ []

-- the record is stored, reported and covered by a cut
abbrev pub append : List Event
append =
    calls 11 0 (Submit record_a.client record_a.number record_a.bytes) (Stored 0)
    ∷ ticks_at 12 0 (letter 1 (report_message 0 0 one_held) ∷ letter 2 (want_message 1 0) ∷ [])
    ∷ takes 13 1 12 (report_message 0 0 one_held) []
    ∷ ticks_at 14 1 (letter 2 (least_message 0 one_held) ∷ [])
    ∷ takes 15 2 14 (least_message 0 one_held) []
    ∷ ticks_at 16 2 (letter 2 (accept_message 1 1 cut) ∷ [])
    ∷ takes 17 2 16 (accept_message 1 1 cut) (letter 2 (accepted_message 1 1 0) ∷ [])
    ∷ takes 18 2 17 (accepted_message 1 1 0) (letter 0 (decide_message 1 cut) ∷ [])
    ∷ takes 19 0 18 (decide_message 1 cut) []
    ∷ []

-- what the client and others are told
abbrev pub answers : List Event
answers =
    calls 20 0 (Ask record_a.client record_a.number) (At (record { 0 = 0 }))
    ∷ calls 21 0 (Read (record { 0 = 7 }) (record { 0 = 0 })) (Found (record { 0 = 0 }) record_a)
    ∷ calls 22 2 (Settled (record { 0 = 0 }) added 0) (SettledAt (record { 0 = 0 }))
    ∷ []

abbrev pub one_append : List Event
one_append = opening ++ addition ++ append ++ answers
