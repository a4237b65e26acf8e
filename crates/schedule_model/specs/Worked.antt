-- Worked runs: the opening of a cluster of eight nodes, and a whole run of the smallest cluster, which adds a shard. Its nodes are
-- storage node 0, gatherer 1 and orderer 2.
use Rattle.std.specs.Prelude.{ℕ, List, [], ◌∷◌, Some, map, replicate}
use Rattle.log_base.specs.ClusterShape.{Shape}
use Rattle.record_frame.specs.declared.values.Lengths.{Lengths}
use Rattle.record_frame.specs.declared.values.Value.{Value}
use Rattle.record_frame.specs.declared.values.Value.TheVariants.{Add as AddValue}
use Rattle.command_frame.specs.declared.items.Item.{Item}
use Rattle.command_frame.specs.declared.items.Item.TheVariants.{Add}
use Rattle.reply_frame.specs.declared.replies.Reply.{Reply, Nothing, Taken, Settled}
use Rattle.message_frame.specs.declared.messages.Message.{Message}
use Rattle.message_frame.specs.declared.messages.Message.TheVariants.{Report, Least, Prepare, Promised, Accept, Accepted, Decide, Want}
use Rattle.history_frame.specs.declared.events.Event.{Event}
use Rattle.history_frame.specs.declared.events.Sent.{Sent}
use Rattle.history_frame.specs.declared.inputs.Call.TheVariants.{Request, Settled as SettledCall}
use Rattle.history_frame.specs.declared.inputs.Input.{Input}
use Rattle.history_frame.specs.declared.inputs.Input.TheVariants.{Deliver, Call as ACall, Tick, Lead, Restart}
use Rattle.history_frame.specs.declared.inputs.Mark.TheVariants.{Done}
use Rattle.event_letters.specs.Letters.{letter}
use Rattle.schedule_model.specs.declared.turns.Turn.{Turn}

-- an event that puts letters out and gives a reply
abbrev pub event_of : ℕ → ℕ → Input → List Sent → Reply → Event
event_of place node input outputs reply = record {
  place = place;
  node = record { 0 = node };
  happened = record { input = input; mark = Done; outputs = outputs; reply = reply };
}

-- a letter is delivered, and puts letters out
abbrev pub delivered : ℕ → ℕ → ℕ → ℕ → Message → List Sent → Event
delivered place node from index message outputs = event_of place node (Deliver from index (Some message)) outputs Nothing

-- ---- the opening of two shards of two replicas, with one gatherer and three orderers

abbrev pub two_by_two : Shape
two_by_two = record { replicas = 2; shards = 2; orderers = 3; gatherers = 1 }

-- the turn of a node that restarts
abbrev pub restart : ℕ → Turn
restart node = record { node = record { 0 = node }; input = Restart }

-- silent events at these nodes, for their turns
abbrev pub silent : List Turn → List Event
silent turns = map (λ (turn : Turn). event_of 0 turn.node.0 turn.input [] Nothing) turns

-- every node restarts, and orderer 0, which is node 5, is to lead
abbrev pub opening_turns : List Turn
opening_turns =
    restart 0 ∷ restart 1 ∷ restart 2 ∷ restart 3 ∷ restart 4 ∷ restart 5 ∷ restart 6 ∷ restart 7
    ∷ record { node = record { 0 = 5 }; input = Lead }
    ∷ []

-- ---- the smallest cluster adds a shard

abbrev pub smallest : Shape
smallest = record { replicas = 1; shards = 1; orderers = 1; gatherers = 1 }

abbrev pub addition : List Item
addition = Add 0 (record { 0 = 0 }) ∷ []

abbrev pub added : Value
added = AddValue (record { 0 = 0 })

-- no entry of the one segment
abbrev pub no_entries : Lengths
no_entries = record { count = 1; length = replicate 32 0 }

abbrev pub report : Message
report = Report (record { 0 = 0 }) (record { 0 = 0 }) no_entries

abbrev pub least : Message
least = Least (record { 0 = 0 }) no_entries

abbrev pub prepare : Message
prepare = Prepare (record { 0 = 1 }) (record { 0 = 0 })

abbrev pub promised : Message
promised = Promised (record { 0 = 1 }) (record { 0 = 0 }) 0 []

abbrev pub accept : Message
accept = Accept (record { 0 = 1 }) (record { 0 = 0 }) added

abbrev pub accepted : Message
accepted = Accepted (record { 0 = 1 }) (record { 0 = 0 }) 0

abbrev pub decide : Message
decide = Decide (record { 0 = 0 }) added

abbrev pub want : ℕ → Message
want known = Want (record { 0 = known }) (record { 0 = 0 })

-- the nodes restart, and the orderer takes the lead
abbrev pub opened : List Event
opened =
    event_of 0 0 Restart [] Nothing
    ∷ event_of 1 1 Restart [] Nothing
    ∷ event_of 2 2 Restart [] Nothing
    ∷ event_of 3 2 Lead (letter 2 prepare ∷ []) Nothing
    ∷ delivered 4 2 3 0 prepare (letter 2 promised ∷ [])
    ∷ delivered 5 2 4 0 promised []
    ∷ []

-- the request is taken, and the first three rounds of ticks decide it
abbrev pub decided : List Event
decided =
    event_of 6 2 (ACall (Request (record { 0 = 0 }) added)) [] (Taken 0)
    ∷ event_of 7 0 Tick (letter 1 report ∷ letter 2 (want 0) ∷ []) Nothing
    ∷ delivered 8 1 7 0 report []
    ∷ delivered 9 2 7 1 (want 0) []
    ∷ event_of 10 1 Tick (letter 2 least ∷ []) Nothing
    ∷ delivered 11 2 10 0 least []
    ∷ event_of 12 2 Tick (letter 2 accept ∷ []) Nothing
    ∷ delivered 13 2 12 0 accept (letter 2 accepted ∷ [])
    ∷ delivered 14 2 13 0 accepted (letter 0 decide ∷ [])
    ∷ delivered 15 0 14 0 decide []
    ∷ []

-- the storage node ticks again, and the orderer is asked for the slot
abbrev pub confirmed : List Event
confirmed =
    event_of 16 0 Tick (letter 1 report ∷ letter 2 (want 1) ∷ []) Nothing
    ∷ delivered 17 1 16 0 report []
    ∷ delivered 18 2 16 1 (want 1) []
    ∷ event_of 19 2 (ACall (SettledCall (record { 0 = 0 }) added 0)) [] (Settled (record { 0 = 0 }))
    ∷ []
