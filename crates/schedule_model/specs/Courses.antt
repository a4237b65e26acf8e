-- How an item goes: what is due when it begins, and what an answer means for it.
use Rattle.std.specs.Prelude.{ℕ, ◌+◌, ◌-◌, Bool, true, false, List, [], ◌∷◌, ◌++◌, map, nat_lt, if◌then◌else◌, slice_index, slice_index_or, Option, Some, None}
use Rattle.log_base.specs.ClusterShape.{Shape}
use Rattle.log_base.specs.Draws.{number_of_draw}
use Rattle.log_base.specs.declared.numbers.Client.{Client}
use Rattle.log_base.specs.declared.numbers.NodeId.{NodeId}
use Rattle.log_base.specs.declared.numbers.Number.{Number}
use Rattle.log_base.specs.declared.numbers.Position.{Position}
use Rattle.log_base.specs.declared.numbers.Replica.{Replica}
use Rattle.record_frame.specs.declared.values.Value.{Value}
use Rattle.record_frame.specs.declared.values.Value.TheVariants.{Add as AddValue, Finalise as FinaliseValue, Trim as TrimValue}
use Rattle.command_frame.specs.declared.items.Item.{Item}
use Rattle.command_frame.specs.declared.items.Item.TheVariants.{Append, Read, Subscribe, Trim, Add, Finalise, Ask as AskItem, Fault as FaultItem}
use Rattle.fault_script.specs.declared.fault.Fault.{Fault}
use Rattle.fault_script.specs.declared.fault.Fault.TheVariants as fault
use Rattle.record_frame.specs.declared.entries.Entry.{Entry}
use Rattle.reply_frame.specs.declared.replies.Reply.{Reply, Nothing, Stored, Found, PendingAsk, PendingRead, PendingWish, Down, Elsewhere, Taken, NotLeading, NoLeader, NoLetter, NothingKept, Done}
use Rattle.history_frame.specs.declared.inputs.Call.TheVariants.{Submit, Ask, Read as ReadCall, Request, Settled}
use Rattle.node_table.specs.Numbering.{orderer_node, storage_node}
use Rattle.schedule_model.specs.declared.duties.Awaited.{Awaited}
use Rattle.schedule_model.specs.declared.duties.Awaited.TheVariants.{Storing, Requesting, Reading, Streaming, StreamingOn, Last, Held, Again}
use Rattle.schedule_model.specs.declared.duties.Afterwards.TheVariants.{TakenOut, LeftIn}
use Rattle.schedule_model.specs.declared.duties.PutOff.{PutOff}
use Rattle.schedule_model.specs.declared.duties.Question.{Question}
use Rattle.schedule_model.specs.declared.duties.Question.TheVariants as question
use Rattle.schedule_model.specs.declared.duties.Signal.{Signal}
use Rattle.schedule_model.specs.declared.duties.Signal.TheVariants as signal
use Rattle.schedule_model.specs.declared.duties.Subscription.{Subscription}
use Rattle.schedule_model.specs.declared.duties.Duty.{Duty}
use Rattle.schedule_model.specs.declared.duties.Duty.TheVariants.{DeliverOne, MakeCall}
use Rattle.schedule_model.specs.declared.courses.Course.{Course}
use Rattle.schedule_model.specs.declared.courses.Course.TheVariants.{Replies, GoesOn, Takes, Completes, Ends, Answers, PutsOff, Replaces}
use Rattle.schedule_model.specs.Duties.{give, settling}
use Rattle.schedule_model.specs.Streams.{is_taken, moved_on, subscription_at, wants_more}

-- ---- calls

-- the client of a lane
abbrev pub client_of : ℕ → Client
client_of lane = record { 0 = lane }

-- an append is submitted to its primary
abbrev pub submission : NodeId → Client → Number → List ℕ → Duty
submission primary client number bytes = MakeCall primary (Submit client number bytes) (Storing primary client number)

-- the primary is asked where the append stands
abbrev pub enquiry : NodeId → Client → Number → Duty
enquiry primary client number = MakeCall primary (Ask client number) Last

-- a value is requested of an orderer
abbrev pub request : Shape → ℕ → Client → Value → Duty
request config orderer client value =
    MakeCall (record { 0 = orderer_node config orderer }) (Request client value) (Requesting orderer client value)

-- that orderer is asked whether the value is settled in a slot from this one on
abbrev pub confirmation : Shape → ℕ → Client → Value → ℕ → Duty
confirmation config orderer client value slot =
    MakeCall (record { 0 = orderer_node config orderer }) (Settled client value slot) Last

-- what a held item asks last: its primary where the append stands, or its orderer whether the value is settled
abbrev pub asked_last : Shape → Question → Awaited → Duty
asked_last config (question.Append primary client number) awaited = MakeCall primary (Ask client number) awaited
asked_last config (question.Wish orderer client value from) awaited =
    MakeCall (record { 0 = orderer_node config orderer }) (Settled client value from) awaited

-- a replica of a shard is asked for the entry at a position
abbrev pub reading_at : Shape → ℕ → Replica → Client → Position → Awaited → Duty
reading_at config shard replica client position awaited =
    MakeCall (record { 0 = storage_node config shard replica.0 }) (ReadCall client position) awaited

-- a subscription asks the replica that it names for its position
abbrev pub following : Shape → Subscription → Duty
following config s = reading_at config s.shard.0 s.replica s.client s.position (Streaming s)

-- and, where it is told to, the replica of the same number in another shard
abbrev pub following_on : Shape → ℕ → Subscription → Duty
following_on config shard s = reading_at config shard s.replica s.client s.position (StreamingOn s)

-- ---- answers

-- A value is requested of this orderer, if there is one.
abbrev pub requested : Shape → ℕ → Client → Value → Course
requested config orderer client value =
    if nat_lt orderer config.orderers then GoesOn (request config orderer client value ∷ []) else Replies NoLeader

-- An entry that is found is taken, and the next position is asked for, or the count is reached. An entry that is not taken is left
-- out, and the stream ends without an answer.
abbrev pub with_entry : Shape → Subscription → Entry → Course
with_entry config s entry = if wants_more s then Takes s.position entry (following config (moved_on s entry)) else Completes s.position entry

abbrev pub found : Shape → Subscription → Entry → Course
found config s entry = if is_taken s entry then with_entry config s entry else Ends Nothing

-- an answer that says that nothing is known yet, or that the node is down
abbrev pub is_put_off : Reply → Bool
is_put_off (PendingAsk covered) = true
is_put_off (PendingRead end) = true
is_put_off (PendingWish known) = true
is_put_off Down = true
is_put_off reply = false

-- What an answer means. A stored append is asked for once the cluster has settled. A request goes on to the next orderer where
-- this one does not lead or is down; a request that is taken is asked for at the same orderer once the cluster has settled. A
-- read goes on to the replica of the same number in the shard that is told to have the position, and only once. A subscription does
-- for each of its positions what a read does, until its count is reached or an answer is not the entry: that answer ends its stream.
-- All else is the reply. Where a held item is told that nothing is known yet, or finds its node down, its question is put off. One
-- that is asked again replaces its reply.
abbrev pub course_of : Shape → Awaited → Reply → Course
course_of config (Storing primary client number) (Stored offset) = GoesOn (settling config ++ enquiry primary client number ∷ [])
course_of config (Requesting orderer client value) NotLeading = requested config (orderer + 1) client value
course_of config (Requesting orderer client value) Down = requested config (orderer + 1) client value
course_of config (Requesting orderer client value) (Taken slot) = GoesOn (settling config ++ confirmation config orderer client value slot ∷ [])
course_of config (Reading replica client position) (Elsewhere shard) =
    if nat_lt shard.0 config.shards then GoesOn (reading_at config shard.0 replica client position Last ∷ []) else Replies (Elsewhere shard)
course_of config (Streaming s) (Found position entry) = found config s entry
course_of config (Streaming s) (Elsewhere shard) =
    if nat_lt shard.0 config.shards then GoesOn (following_on config shard.0 s ∷ []) else Ends (Elsewhere shard)
course_of config (Streaming s) reply = Ends reply
course_of config (StreamingOn s) (Found position entry) = found config s entry
course_of config (StreamingOn s) reply = Ends reply
course_of config (Held asked) reply = if is_put_off reply then PutsOff reply asked else Replies reply
course_of config (Again item) reply = Replaces item reply
course_of config _ reply = Replies reply

-- what a held item asks last, with its answer awaited
abbrev pub asked_held : Shape → Question → Course
asked_held config asked = GoesOn (asked_last config asked (Held asked) ∷ [])

-- What an answer means while items are held: nothing settles by itself. A stored append, and a request that is taken, are asked for
-- at once.
abbrev pub held_course_of : Shape → Awaited → Reply → Course
held_course_of config (Storing primary client number) (Stored offset) = asked_held config (question.Append primary client number)
held_course_of config (Requesting orderer client value) (Taken slot) = asked_held config (question.Wish orderer client value slot)
held_course_of config awaited reply = course_of config awaited reply

-- what an answer means, whether items are held or not
abbrev pub course_in : Shape → Option (List PutOff) → Awaited → Reply → Course
course_in config None awaited reply = course_of config awaited reply
course_in config (Some put_off) awaited reply = held_course_of config awaited reply

-- ---- beginnings

-- the number that a lane draws next
abbrev pub next_number : ℕ → List ℕ → ℕ → Number
next_number run draws lane = record { 0 = number_of_draw run (slice_index draws lane) }

-- the number that a lane drew last
abbrev pub last_number : ℕ → List ℕ → ℕ → Number
last_number run draws lane = record { 0 = number_of_draw run (slice_index draws lane - 1) }

-- the primary of a lane's last append is asked where it stands; without one nothing is kept
abbrev pub asked : Client → Number → Option NodeId → Course
asked client number None = Replies NothingKept
asked client number (Some primary) = GoesOn (enquiry primary client number ∷ [])

-- ---- lines of the fault script

-- What a line may need to know of the run: the questions that are put off, how many letters wait, and the record of each lane's last
-- append.
pub record Scene : Type 0 where
  pub questions : List PutOff
  pub waiting : ℕ
  pub records : List (List ℕ)

-- a node is given a signal
abbrev pub signalled : Signal → ℕ → Course
signalled signal node = Answers Done (give signal node 1 ∷ [])

-- a letter of the queue is wanted: there is one, or nothing happens
abbrev pub with_letter : ℕ → ℕ → Course → Course
with_letter waiting letter course = if nat_lt letter waiting then course else Replies (NoLetter waiting)

-- a question that was put off is asked again, and its answer takes the place of the item's reply
abbrev pub asked_anew : Shape → PutOff → Duty
asked_anew config late = asked_last config late.question (Again late.item)

-- so are all of them, in the order of their items
abbrev pub asked_again : Shape → List PutOff → List Duty
asked_again config questions = map (asked_anew config) questions

-- the record of a lane's last append is submitted to its primary again; without one nothing is kept
abbrev pub resubmitted : Client → Number → List ℕ → Option NodeId → Course
resubmitted client number bytes None = Replies NothingKept
resubmitted client number bytes (Some primary) = GoesOn (submission primary client number bytes ∷ [])

-- What a line does, where this is how its lane's last append is sent again: it gives a node a signal, has a letter delivered, or sends
-- the append. The end of a hold settles, and asks its questions again. The other lines are told Done at once: a hold begins, a letter
-- is taken out, and disks are told of a failure to come.
abbrev pub line_course : Shape → Scene → Course → Fault → Course
line_course config scene again fault.Hold = Replies Done
line_course config scene again fault.Settle = Answers Done (settling config ++ asked_again config scene.questions)
line_course config scene again (fault.Tick node) = signalled signal.Tick node.0
line_course config scene again (fault.Deliver letter) = with_letter scene.waiting letter (Answers Done (DeliverOne letter TakenOut ∷ []))
line_course config scene again (fault.Drop letter) = with_letter scene.waiting letter (Replies Done)
line_course config scene again (fault.Again letter) = with_letter scene.waiting letter (Answers Done (DeliverOne letter LeftIn ∷ []))
line_course config scene again (fault.Stop node) = signalled signal.Stop node.0
line_course config scene again (fault.StopAfter node after keep) = Replies Done
line_course config scene again (fault.Lose node after) = Replies Done
line_course config scene again (fault.Restart node) = signalled signal.Restart node.0
line_course config scene again (fault.Lead orderer) = signalled signal.Lead (orderer_node config orderer)
line_course config scene again fault.Resubmit = again

-- ---- beginnings of items

-- How an item begins. An append is submitted to its primary, under the number that its lane draws next. A trim, an addition and a
-- finalisation are requested of orderer 0.
abbrev pub beginning : Shape → ℕ → List ℕ → List (Option NodeId) → Scene → Item → Course
beginning config run draws primaries scene (Append lane shard replica bytes) =
    GoesOn (submission (record { 0 = storage_node config shard.0 replica.0 }) (client_of lane) (next_number run draws lane) bytes ∷ [])
beginning config run draws primaries scene (Read lane shard replica position) =
    GoesOn (reading_at config shard.0 replica (client_of lane) position (Reading replica (client_of lane) position) ∷ [])
beginning config run draws primaries scene (Subscribe lane shard replica from count) =
    GoesOn (following config (subscription_at shard replica (client_of lane) from count) ∷ [])
beginning config run draws primaries scene (Trim lane position) = GoesOn (request config 0 (client_of lane) (TrimValue position) ∷ [])
beginning config run draws primaries scene (Add lane shard) = GoesOn (request config 0 (client_of lane) (AddValue shard) ∷ [])
beginning config run draws primaries scene (Finalise lane shard) = GoesOn (request config 0 (client_of lane) (FinaliseValue shard) ∷ [])
beginning config run draws primaries scene (AskItem lane) = asked (client_of lane) (last_number run draws lane) (slice_index_or primaries lane None)
beginning config run draws primaries scene (FaultItem lane fault) =
    line_course config scene
    (resubmitted (client_of lane) (last_number run draws lane) (slice_index_or scene.records lane []) (slice_index_or primaries lane None)) fault
