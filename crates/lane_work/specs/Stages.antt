-- How an item of a lane goes: the calls that it makes, the turns between them, and its reply.
use Rattle.std.specs.Prelude.{◌≡◌, ℕ, ◌+◌, ◌&&◌, Bool, true, false, List, [], ◌∷◌, nat_lt, if◌then◌else◌, Option, Some, None}
use Rattle.client_session.specs.Sessions.{Drawing, after_draw}
use Rattle.client_session.specs.declared.pair.Pair.{Pair}
use Rattle.command_frame.specs.Streams.{unplaced}
use Rattle.command_frame.specs.declared.items.Item.{Item}
use Rattle.command_frame.specs.declared.items.Item.TheVariants.{Append, Read, Subscribe, Trim, Add, Finalise, Ask, Fault}
use Rattle.history_frame.specs.declared.events.Happened.{Happened}
use Rattle.history_frame.specs.declared.inputs.Input.{Input}
use Rattle.history_frame.specs.declared.inputs.Input.TheVariants.{Deliver, Call as ACall, Tick, Lead, Stop, Restart}
use Rattle.log_base.specs.ClusterShape.{Shape}
use Rattle.log_base.specs.declared.numbers.NodeId.{NodeId}
use Rattle.node_table.specs.Numbering.{nodes_of, storage_node}
use Rattle.record_frame.specs.declared.values.Value.TheVariants.{Add as AddValue, Finalise as FinaliseValue, Trim as TrimValue}
use Rattle.reply_frame.specs.declared.replies.Reply.{Reply, Nothing, NothingKept, PendingAsk, PendingRead, PendingWish, Spent}
use Rattle.schedule_model.specs.Courses.{client_of, course_of, enquiry, following, reading_at, request}
use Rattle.serial_schedule.specs.Lanes.{submitted}
use Rattle.schedule_model.specs.Streams.{nothing_taken, stream_of, subscription_at}
use Rattle.schedule_model.specs.declared.courses.Course.{Course}
use Rattle.schedule_model.specs.declared.courses.Course.TheVariants.{Replies, GoesOn, Takes, Completes, Ends, Answers, PutsOff, Replaces}
use Rattle.schedule_model.specs.declared.duties.Awaited.TheVariants.{Reading}
use Rattle.schedule_model.specs.declared.duties.Duty.{Duty}
use Rattle.schedule_model.specs.declared.duties.Duty.TheVariants.{Give, DeliverAll, DeliverOne, MakeCall}
use Rattle.subscriber.specs.Following.{Following, after_offer, following_from}
use Rattle.tied_cells.specs.declared.account.Account.{Account}
use Rattle.tied_cells.specs.declared.board.Own.{Own}
use Rattle.tied_cells.specs.Turns.{IsSpent}
use Rattle.lane_work.specs.declared.stages.Asking.{Asking}
use Rattle.lane_work.specs.declared.stages.Due.{Due}
use Rattle.lane_work.specs.declared.stages.Stage.{Stage}
use Rattle.lane_work.specs.declared.stages.Stage.TheVariants.{Asks, Turns, Replied}

-- ---- calls

-- The call among duties, if there is one. A lane leaves the settling to the workers, and to its own turns.
abbrev pub due_of : List Duty → Option Due
due_of [] = None
due_of (Give signal first count ∷ duties) = due_of duties
due_of (DeliverAll ∷ duties) = due_of duties
due_of (DeliverOne letter afterwards ∷ duties) = due_of duties
due_of (MakeCall node call awaited ∷ duties) = Some (record { node = node; call = call; awaited = awaited })

-- an item that was asked again so often goes on with this call
abbrev pub asks : Following → ℕ → Option Due → Stage
asks taken again None = Replied Nothing
asks taken again (Some due) = Asks (record { due = due; again = again; taken = taken })

-- it begins with the call of this duty
abbrev pub asks_first : Following → Duty → Stage
asks_first taken duty = asks taken 0 (due_of (duty ∷ []))

-- ---- beginnings

-- the primary of the lane's last append is asked where it stands; without one nothing is kept
abbrev pub asks_last : Option Pair → Stage
asks_last None = Replied NothingKept
asks_last (Some pair) = asks_first nothing_taken (enquiry pair.node pair.client pair.number)

-- How an item begins. An append is submitted to its primary, under the pair that its lane draws next. A trim, an addition and a
-- finalisation are requested of orderer 0.
abbrev pub begun : Shape → Drawing → Item → Stage
begun config session (Append lane shard replica bytes) =
    asks_first nothing_taken (submitted session (record { 0 = storage_node config shard.0 replica.0 }) bytes)
begun config session (Read lane shard replica position) =
    asks_first nothing_taken (reading_at config shard.0 replica (client_of lane) position (Reading replica (client_of lane) position))
begun config session (Subscribe lane shard replica from count) =
    asks_first (following_from from.0) (following config (subscription_at shard replica (client_of lane) from count))
begun config session (Trim lane position) = asks_first nothing_taken (request config 0 (client_of lane) (TrimValue position))
begun config session (Add lane shard) = asks_first nothing_taken (request config 0 (client_of lane) (AddValue shard))
begun config session (Finalise lane shard) = asks_first nothing_taken (request config 0 (client_of lane) (FinaliseValue shard))
begun config session (Ask lane) = asks_last session.last
begun config session (Fault lane fault) = Replied Nothing

-- the lane's session after an item: an append draws a pair
abbrev pub after_item : Shape → Drawing → Item → Drawing
after_item config session (Append lane shard replica bytes) = after_draw session (storage_node config shard.0 replica.0)
after_item config session _ = session

-- ---- answers

-- a reply that may be another one later
abbrev pub is_pending : Reply → Bool
is_pending (PendingAsk covered) = true
is_pending (PendingRead end) = true
is_pending (PendingWish known) = true
is_pending _ = false

-- This would be the item's reply. Where it is of a pending kind, every node is turned and the same call is made again, at most 256
-- times an item.
abbrev pub replied : Asking → Reply → Stage
replied asking reply =
    if is_pending reply && nat_lt asking.again 256 then Turns (record { 0 = 0 }) (record asking { again = asking.again + 1 }) else Replied reply

-- The item goes on. No call of a lane leads to the last three courses: they are those of lines of the fault script.
abbrev pub gone : Asking → Course → Stage
gone asking (Replies reply) = replied asking reply
gone asking (GoesOn duties) = asks asking.taken asking.again (due_of duties)
gone asking (Takes position entry next) = asks (after_offer asking.taken position.0 entry) asking.again (due_of (next ∷ []))
gone asking (Completes position entry) = Replied (stream_of (after_offer asking.taken position.0 entry) Nothing)
gone asking (Ends last) = Replied (stream_of asking.taken last)
gone asking (Answers reply duties) = replied asking reply
gone asking (PutsOff reply asked) = replied asking reply
gone asking (Replaces item reply) = replied asking reply

-- the call that was due is answered
abbrev pub after_answer : Shape → Asking → Reply → Stage
after_answer config asking reply = gone asking (course_of config asking.due.awaited reply)

-- A node was turned: the next one is, or the call is due again.
abbrev pub after_turn : Shape → NodeId → Asking → Stage
after_turn config node asking =
    if nat_lt (node.0 + 1) (nodes_of config) then Turns (record { 0 = node.0 + 1 }) asking else Asks asking

-- ---- events

-- a turn's input: the node starts, takes a letter, or time passes
abbrev pub IsTurned : Input → Type 0
IsTurned (Deliver place index message) = Unit {0}
IsTurned (ACall call) = ⊥
IsTurned Tick = Unit {0}
IsTurned Lead = ⊥
IsTurned Stop = ⊥
IsTurned Restart = Unit {0}

-- an event is a turn at this node
abbrev pub IsTurnAt : ℕ → Own Happened → Type 0
IsTurnAt node event = (event.node ≡ node) × IsTurned event.happened.input

-- an event is the one that is due: the call at its node, or the turn of the node that is next
abbrev pub IsDue : Stage → Own Happened → Type 0
IsDue (Asks asking) event = (event.node ≡ asking.due.node.0) × (event.happened.input ≡ ACall asking.due.call)
IsDue (Turns next asking) event = IsTurnAt next.0 event
IsDue (Replied reply) event = ⊥

abbrev pub after_event : Shape → Stage → Own Happened → Stage
after_event config (Asks asking) event = after_answer config asking event.happened.reply
after_event config (Turns next asking) event = after_turn config next asking
after_event config (Replied reply) event = Replied reply

abbrev pub after_events : Shape → Stage → List (Own Happened) → Stage
after_events config stage [] = stage
after_events config stage (event ∷ events) = after_events config (after_event config stage event) events

-- each event is the one that is due after those before it
abbrev pub AreDue : Shape → Stage → List (Own Happened) → Type 0
AreDue config stage [] = Unit {0}
AreDue config stage (event ∷ events) = IsDue stage event × AreDue config (after_event config stage event) events

-- ---- ends

-- An event was due and the pass was spent: it makes no event later, and the reply tells how many places it used.
pub record IsCut (account : Account) (later : List (Own Happened)) (reply : Reply) : Type 0 where
  pub spent : IsSpent account
  pub told : reply ≡ Spent account.used
  pub none_later : later ≡ []

-- the reply of an item that stands here, where its pass makes these events later and ends with this account
abbrev pub IsReplyAt : Account → List (Own Happened) → Stage → Reply → Type 0
IsReplyAt account later (Asks asking) reply = IsCut account later reply
IsReplyAt account later (Turns next asking) reply = IsCut account later reply
IsReplyAt account later (Replied told) reply = unplaced reply ≡ told

-- a stage without the place in memory of a stream's last answer
abbrev pub unplaced_stage : Stage → Stage
unplaced_stage (Asks asking) = Asks asking
unplaced_stage (Turns next asking) = Turns next asking
unplaced_stage (Replied reply) = Replied (unplaced reply)
