-- The schedule of a run: which node takes which input next, and what follows from what it did.
use Rattle.std.specs.Prelude.{ℕ, ◌+◌, ◌-◌, List, [], ◌∷◌, ◌++◌, Bool, true, false, ◌==◌, nat_le, length, remove, slice_get, slice_index, slice_set, replicate, if◌then◌else◌, Option, Some, None}
use Rattle.log_base.specs.ClusterShape.{Shape}
use Rattle.log_base.specs.declared.numbers.NodeId.{NodeId}
use Rattle.node_table.specs.Numbering.{storage_node}
use Rattle.command_frame.specs.declared.items.Item.{Item}
use Rattle.command_frame.specs.declared.items.Item.TheVariants.{Append, Subscribe, Fault as FaultItem}
use Rattle.fault_script.specs.declared.fault.Fault.TheVariants as fault
use Rattle.reply_frame.specs.declared.replies.Reply.{Reply, Nothing}
use Rattle.subscriber.specs.Following.{Following, after_offer, following_from}
use Rattle.history_frame.specs.declared.events.Sent.{Sent}
use Rattle.history_frame.specs.declared.inputs.Input.{Input}
use Rattle.history_frame.specs.declared.inputs.Input.TheVariants.{Deliver, Call as ACall}
use Rattle.schedule_model.specs.declared.duties.Awaited.{Awaited}
use Rattle.schedule_model.specs.declared.duties.Duty.{Duty}
use Rattle.schedule_model.specs.declared.duties.Duty.TheVariants.{Give, DeliverAll, DeliverOne, MakeCall}
use Rattle.schedule_model.specs.declared.duties.Afterwards.{Afterwards}
use Rattle.schedule_model.specs.declared.duties.Afterwards.TheVariants.{TakenOut, LeftIn}
use Rattle.schedule_model.specs.declared.duties.Planned.{Planned}
use Rattle.schedule_model.specs.declared.duties.PutOff.{PutOff}
use Rattle.schedule_model.specs.declared.duties.Question.{Question}
use Rattle.schedule_model.specs.declared.courses.Course.{Course}
use Rattle.schedule_model.specs.declared.courses.Course.TheVariants.{Replies, GoesOn, Takes, Completes, Ends, Answers, PutsOff, Replaces}
use Rattle.schedule_model.specs.declared.turns.Turn.{Turn}
use Rattle.schedule_model.specs.Duties.{opening, signal_input}
use Rattle.schedule_model.specs.Courses.{Scene, beginning, course_in}
use Rattle.schedule_model.specs.Holding.{begun_hold, questions_of}
use Rattle.schedule_model.specs.Streams.{nothing_taken, stream_of}

-- A letter that waits: the output with this index of the event at this place.
pub record Waiting : Type 0 where
  pub place : ℕ
  pub index : ℕ
  pub sent : Sent

-- The schedule: the items that have not begun, what is due before the next of them begins, the letters in the queue, in order of
-- posting, the answer that is awaited, if one is, how many events there were, how many numbers each lane has drawn, the primary of
-- its last append, if it has one, and its record, what the subscription under way has taken, the questions that are put off, while
-- items are held, what disks are told before the next turn, and the replies to the items that are done.
pub record Scheduled : Type 0 where
  pub config : Shape
  pub run : ℕ
  pub items : List Item
  pub duties : List Duty
  pub queue : List Waiting
  pub awaited : Option Awaited
  pub place : ℕ
  pub draws : List ℕ
  pub primaries : List (Option NodeId)
  pub records : List (List ℕ)
  pub stream : Following
  pub hold : Option (List PutOff)
  pub plans : List Planned
  pub replies : List Reply

-- the letters once one was delivered
abbrev pub after_delivery : Afterwards → List Waiting → ℕ → List Waiting
after_delivery TakenOut queue letter = remove queue letter
after_delivery LeftIn queue letter = queue

-- at first the opening is due, and none of the 64 lanes has drawn a number
abbrev pub at_first : Shape → ℕ → List Item → Scheduled
at_first config run items = record {
  config = config;
  run = run;
  items = items;
  duties = opening config;
  queue = [];
  awaited = None;
  place = 0;
  draws = replicate 64 0;
  primaries = replicate 64 None;
  records = replicate 64 [];
  stream = nothing_taken;
  hold = None;
  plans = [];
  replies = [];
}

-- ---- how an item goes

-- a question is put off, for the item in this place, while items are held
abbrev pub put_off_with : Option (List PutOff) → ℕ → Question → Option (List PutOff)
put_off_with None item asked = None
put_off_with (Some put_off) item asked = Some (put_off ++ record { item = item; question = asked } ∷ [])

-- An item is answered, or duties come before all others, or both; a subscription takes an entry and goes on, or its stream is the
-- reply; a question is put off, or the answer to one that was takes the place of the item's reply.
abbrev pub taken : Scheduled → Course → Scheduled
taken s (Replies reply) = record s { replies = s.replies ++ reply ∷ [] }
taken s (GoesOn duties) = record s { duties = duties ++ s.duties }
taken s (Takes position entry next) = record s { duties = next ∷ s.duties; stream = after_offer s.stream position.0 entry }
taken s (Completes position entry) =
    record s { replies = s.replies ++ stream_of (after_offer s.stream position.0 entry) Nothing ∷ []; stream = nothing_taken }
taken s (Ends last) = record s { replies = s.replies ++ stream_of s.stream last ∷ []; stream = nothing_taken }
taken s (Answers reply duties) = record s { replies = s.replies ++ reply ∷ []; duties = duties ++ s.duties }
taken s (PutsOff reply asked) = record s { replies = s.replies ++ reply ∷ []; hold = put_off_with s.hold (length s.replies) asked }
taken s (Replaces item reply) = record s { replies = slice_set s.replies item reply }

-- the lane of an append draws a number
abbrev pub drawn : Item → List ℕ → List ℕ
drawn (Append lane shard replica bytes) draws = slice_set draws lane (slice_index draws lane + 1)
drawn item draws = draws

-- the primary of an append is its lane's last
abbrev pub primaries_after : Shape → Item → List (Option NodeId) → List (Option NodeId)
primaries_after config (Append lane shard replica bytes) primaries = slice_set primaries lane (Some (record { 0 = storage_node config shard.0 replica.0 }))
primaries_after config item primaries = primaries

-- the record of an append is its lane's last
abbrev pub records_after : Item → List (List ℕ) → List (List ℕ)
records_after (Append lane shard replica bytes) records = slice_set records lane bytes
records_after item records = records

-- a hold begins, or ends
abbrev pub hold_after : Item → Option (List PutOff) → Option (List PutOff)
hold_after (FaultItem lane fault.Hold) hold = begun_hold hold
hold_after (FaultItem lane fault.Settle) hold = None
hold_after item hold = hold

-- a letter is taken out undelivered, if there is one with this number
abbrev pub queue_after : Item → List Waiting → List Waiting
queue_after (FaultItem lane (fault.Drop letter)) queue = remove queue letter
queue_after item queue = queue

-- each disk of a node is told to stop after some writes, or to lose what was not synced
abbrev pub plans_after : Item → List Planned → List Planned
plans_after (FaultItem lane (fault.StopAfter node after keep)) plans =
    plans ++ record { node = node; plan = record { after = after; keep = keep; lose = false } } ∷ []
plans_after (FaultItem lane (fault.Lose node after)) plans =
    plans ++ record { node = node; plan = record { after = after; keep = 0; lose = true } } ∷ []
plans_after item plans = plans

-- a subscription takes the entries of the positions from its first on
abbrev pub stream_before : Item → Following → Following
stream_before (Subscribe lane shard replica from count) stream = following_from from.0
stream_before item stream = stream

-- an item is taken out, and these are left
abbrev pub entered : Scheduled → Item → List Item → Scheduled
entered s item items = record s {
  items = items;
  draws = drawn item s.draws;
  primaries = primaries_after s.config item s.primaries;
  records = records_after item s.records;
  stream = stream_before item s.stream;
  hold = hold_after item s.hold;
  queue = queue_after item s.queue;
  plans = plans_after item s.plans;
}

-- what a line of the fault script may need to know
abbrev pub scene_of : Scheduled → Scene
scene_of s = record { questions = questions_of s.hold; waiting = length s.queue; records = s.records }

-- how an item begins
abbrev pub begins : Scheduled → Item → Course
begins s item = beginning s.config s.run s.draws s.primaries (scene_of s) item

-- it begins, and these are left
abbrev pub begun : Scheduled → Item → List Item → Scheduled
begun s item items = taken (entered s item items) (begins s item)

-- the next item, if there is one, begins
abbrev pub begun_next : Scheduled → List Item → Scheduled
begun_next s [] = s
begun_next s (item ∷ items) = begun s item items

-- ---- what comes next

-- a duty is done where each node was given its signal, or no letter waits, or none with its number
abbrev pub is_done : List Waiting → Duty → Bool
is_done queue (Give signal first count) = count == 0
is_done queue DeliverAll = length queue == 0
is_done queue (DeliverOne letter afterwards) = nat_le (length queue) letter
is_done queue (MakeCall node call awaited) = false

-- whether there is a first duty and it is done
abbrev pub is_first_done : List Waiting → List Duty → Bool
is_first_done queue [] = false
is_first_done queue (duty ∷ duties) = is_done queue duty

-- the duties from the first on that is not done
abbrev pub due : List Waiting → List Duty → List Duty
due queue [] = []
due queue (duty ∷ duties) = if is_done queue duty then due queue duties else duty ∷ duties

-- the duties that are done are passed over
abbrev pub passed : Scheduled → Scheduled
passed s = record s { duties = due s.queue s.duties }

-- whether nothing is due
abbrev pub is_idle : Scheduled → Bool
is_idle s = length s.duties == 0

-- While nothing is due, the next of the items begins.
abbrev pub ready_with : Scheduled → List Item → Scheduled
ready_with s [] = passed s
ready_with s (item ∷ items) = if is_idle (passed s) then ready_with (begun (passed s) item items) items else passed s

-- the schedule with something due, or over
abbrev pub ready : Scheduled → Scheduled
ready s = ready_with s s.items

-- a turn of a node, and the schedule once it is given
pub record Step : Type 0 where
  pub turn : Turn
  pub rest : Scheduled

abbrev pub step : ℕ → Input → Scheduled → Step
step node input rest = record { turn = record { node = record { 0 = node }; input = input }; rest = rest }

-- a letter is delivered to its addressee
abbrev pub delivered : Waiting → Turn
delivered letter = record { node = letter.sent.to; input = Deliver letter.place letter.index (Some letter.sent.message) }

-- the first letter is delivered
abbrev pub delivery : Scheduled → List Waiting → Option Step
delivery s [] = None
delivery s (letter ∷ queue) = Some (record { turn = delivered letter; rest = record s { queue = queue } })

-- a letter is delivered, where there is one with this number
abbrev pub delivery_of : Scheduled → List Duty → ℕ → Afterwards → Option Waiting → Option Step
delivery_of s duties number afterwards None = None
delivery_of s duties number afterwards (Some letter) =
    Some (record { turn = delivered letter; rest = record s { duties = duties; queue = after_delivery afterwards s.queue number } })

-- The turn that the first duty calls for: a signal to its next node, the first letter or another one, or a call.
abbrev pub first_step : Scheduled → List Duty → Option Step
first_step s [] = None
first_step s (Give signal first count ∷ duties) =
    Some (step first.0 (signal_input signal) (record s { duties = Give signal (record { 0 = first.0 + 1 }) (count - 1) ∷ duties }))
first_step s (DeliverAll ∷ duties) = delivery s s.queue
first_step s (DeliverOne letter afterwards ∷ duties) = delivery_of s duties letter afterwards (slice_get s.queue letter)
first_step s (MakeCall node call awaited ∷ duties) =
    Some (step node.0 (ACall call) (record s { duties = duties; awaited = Some awaited }))

-- what comes next; nothing, where the run is over
abbrev pub next_step : Scheduled → Option Step
next_step s = first_step (ready s) (ready s).duties

-- the turn of a step
abbrev pub turn_in : Option Step → Option Turn
turn_in None = None
turn_in (Some step) = Some step.turn

-- the schedule once a step's turn is given
abbrev pub rest_in : Scheduled → Option Step → Scheduled
rest_in s None = s
rest_in s (Some step) = step.rest

-- the turn that comes next
abbrev pub next_turn : Scheduled → Option Turn
next_turn s = turn_in (next_step s)

-- what disks are told before that turn, or at the end of the run
abbrev pub next_plans : Scheduled → List Planned
next_plans s = (ready s).plans

-- and nothing more is told then
abbrev pub handed : Scheduled → Scheduled
handed s = record s { plans = [] }

-- the schedule once that turn is given
abbrev pub given : Scheduled → Scheduled
given s = handed (rest_in (ready s) (next_step s))

-- ---- what follows

-- the outputs of the event at a place, from an index on, as letters
abbrev pub letters_from : ℕ → ℕ → List Sent → List Waiting
letters_from place index [] = []
letters_from place index (sent ∷ outputs) = record { place = place; index = index; sent = sent } ∷ letters_from place (index + 1) outputs

-- the outputs of the event join the queue at its end, in order
abbrev pub joined : Scheduled → List Sent → Scheduled
joined s outputs = record s { queue = s.queue ++ letters_from s.place 0 outputs; place = s.place + 1 }

-- the reply of the event is the awaited answer, if one was awaited
abbrev pub answered : Scheduled → Option Awaited → Reply → Scheduled
answered s None reply = s
answered s (Some awaited) reply = taken (record s { awaited = None }) (course_in s.config s.hold awaited reply)

-- a node took its turn, put these outputs out and gave this reply
abbrev pub noted : Scheduled → List Sent → Reply → Scheduled
noted s outputs reply = answered (joined s outputs) s.awaited reply
