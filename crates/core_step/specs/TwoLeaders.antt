-- A history of three orderers, 0 to 2, which are nodes 2 to 4. Orderer 0 leads with ballot 3 and asks for a vote of
-- the addition of shard 0 in slot 0. Orderer 1 casts it and crashes before it answers; when it starts again its vote
-- is there. Then orderer 2 leads with ballot 5, hears of that vote and proposes its value, which is decided.
use Rattle.std.specs.Prelude.{ℕ, List, [], ◌∷◌, ◌++◌, Some}
use Rattle.reply_frame.specs.declared.replies.Reply.{Nothing, Taken}
use Rattle.history_frame.specs.declared.events.Event.{Event}
use Rattle.history_frame.specs.declared.events.Sent.{Sent}
use Rattle.history_frame.specs.declared.inputs.Call.TheVariants.{Request}
use Rattle.history_frame.specs.declared.inputs.Input.{Input}
use Rattle.history_frame.specs.declared.inputs.Input.TheVariants.{Deliver, Call as ACall, Lead, Restart}
use Rattle.history_frame.specs.declared.inputs.Mark.{Mark}
use Rattle.history_frame.specs.declared.inputs.Mark.TheVariants.{Done, Halted, OpenedWithout, OpenedWith}
use Rattle.log_base.specs.ClusterShape.{Shape}
use Rattle.message_frame.specs.declared.messages.Message.{Message}
use Rattle.record_frame.specs.declared.values.Value.{Value}
use Rattle.record_frame.specs.declared.values.Value.TheVariants.{Add}
use Rattle.paxos_model.specs.Votes.{vote_of}
use Rattle.node_model.specs.Messages.{accept_message, accepted_message, decide_message, prepare_message, promised_message}
use Rattle.node_model.specs.Nodes.{letter}

-- one storage node, one gatherer, three orderers
abbrev pub three_orderers : Shape
three_orderers = record { replicas = 1; shards = 1; orderers = 3; gatherers = 1 }

-- the value that is asked for
abbrev pub wanted : Value
wanted = Add (record { 0 = 0 })

-- an event at a node
abbrev pub event_at : ℕ → ℕ → Input → Mark → List Sent → Event
event_at place node input mark outputs = record {
  place = place;
  node = record { 0 = node };
  happened = record { input = input; mark = mark; outputs = outputs; reply = Nothing };
}

-- the same message to all orderers
abbrev pub to_three : Message → List Sent
to_three message = letter 2 message ∷ letter 3 message ∷ letter 4 message ∷ []

-- a wish is taken
abbrev pub request_at : ℕ → ℕ → Event
request_at place node = record {
  place = place;
  node = record { 0 = node };
  happened = record { input = ACall (Request (record { 0 = 0 }) wanted); mark = Done; outputs = []; reply = Taken 0 };
}

abbrev pub starts : List Event
starts =
    event_at 0 2 Restart OpenedWithout []
    ∷ event_at 1 3 Restart OpenedWithout []
    ∷ event_at 2 4 Restart OpenedWithout []
    ∷ []

abbrev pub first_leader : List Event
first_leader =
    event_at 3 2 Lead Done (to_three (prepare_message 3 0))
    ∷ request_at 4 2
    ∷ event_at 5 2 (Deliver 3 0 (Some (prepare_message 3 0))) Done (letter 2 (promised_message 3 0 0 []) ∷ [])
    ∷ event_at 6 3 (Deliver 3 1 (Some (prepare_message 3 0))) Done (letter 2 (promised_message 3 0 1 []) ∷ [])
    ∷ event_at 7 2 (Deliver 5 0 (Some (promised_message 3 0 0 []))) Done []
    ∷ event_at 8 2 (Deliver 6 0 (Some (promised_message 3 0 1 []))) Done (to_three (accept_message 3 0 wanted))
    ∷ []

abbrev pub crash : List Event
crash =
    event_at 9 3 (Deliver 8 1 (Some (accept_message 3 0 wanted))) Halted []
    ∷ event_at 10 3 Restart OpenedWith []
    ∷ []

abbrev pub second_leader : List Event
second_leader =
    event_at 11 4 Lead Done (to_three (prepare_message 5 0))
    ∷ event_at 12 3 (Deliver 11 1 (Some (prepare_message 5 0))) Done (letter 4 (promised_message 5 0 1 (vote_of 3 0 wanted ∷ [])) ∷ [])
    ∷ event_at 13 4 (Deliver 11 2 (Some (prepare_message 5 0))) Done (letter 4 (promised_message 5 0 2 []) ∷ [])
    ∷ event_at 14 4 (Deliver 12 0 (Some (promised_message 5 0 1 (vote_of 3 0 wanted ∷ [])))) Done []
    ∷ event_at 15 4 (Deliver 13 0 (Some (promised_message 5 0 2 []))) Done (to_three (accept_message 5 0 wanted))
    ∷ []

abbrev pub decision : List Event
decision =
    event_at 16 3 (Deliver 15 1 (Some (accept_message 5 0 wanted))) Done (letter 4 (accepted_message 5 0 1) ∷ [])
    ∷ event_at 17 4 (Deliver 15 2 (Some (accept_message 5 0 wanted))) Done (letter 4 (accepted_message 5 0 2) ∷ [])
    ∷ event_at 18 4 (Deliver 16 0 (Some (accepted_message 5 0 1))) Done []
    ∷ event_at 19 4 (Deliver 17 0 (Some (accepted_message 5 0 2))) Done
    (letter 0 (decide_message 0 wanted) ∷ letter 2 (decide_message 0 wanted) ∷ letter 3 (decide_message 0 wanted) ∷ [])
    ∷ []

abbrev pub two_leaders : List Event
two_leaders = starts ++ first_leader ++ crash ++ second_leader ++ decision
