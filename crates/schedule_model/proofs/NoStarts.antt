-- After the opening nothing but a line of the fault script starts a node.
use Rattle.std.proofs.Common.{◌≡◌, ◌+◌, ◌-◌, ℕ, Bool, true, false, cond, nat_lt, List, [], ◌∷◌, get_or, Option, Some, None, map}
use Rattle.std.specs.List.{AllByRecursion}
use Rattle.log_base.specs.ClusterShape.{Shape}
use Rattle.log_base.specs.declared.numbers.Client.{Client}
use Rattle.log_base.specs.declared.numbers.NodeId.{NodeId}
use Rattle.log_base.specs.declared.numbers.Number.{Number}
use Rattle.log_base.specs.declared.numbers.Position.{Position}
use Rattle.log_base.specs.declared.numbers.Replica.{Replica}
use Rattle.log_base.specs.declared.numbers.Shard.{Shard}
use Rattle.record_frame.specs.declared.values.Value.{Value}
use Rattle.fault_script.specs.declared.fault.Fault.{Fault}
use Rattle.fault_script.specs.declared.fault.Fault.TheVariants as fault
use Rattle.command_frame.specs.declared.items.Item.{Item}
use Rattle.command_frame.specs.declared.items.Item.TheVariants.{Append, Read, Subscribe, Trim, Add, Finalise, Ask as AskItem, Fault as FaultItem}
use Rattle.record_frame.specs.declared.entries.Entry.{Entry}
use Rattle.reply_frame.specs.declared.replies.Reply.{Reply, Nothing, Stored, Found, Down, Elsewhere, Taken, NotLeading, NoLeader, NoLetter, Done}
use Rattle.history_frame.specs.declared.inputs.Input.TheVariants.{Deliver}
use Rattle.schedule_model.specs.declared.courses.Course.{Course}
use Rattle.schedule_model.specs.declared.courses.Course.TheVariants.{Replies, GoesOn, Takes, Completes, Ends, Answers, PutsOff, Replaces}
use Rattle.schedule_model.specs.declared.duties.Awaited.{Awaited}
use Rattle.schedule_model.specs.declared.duties.Awaited.TheVariants.{Storing, Requesting, Reading, Streaming, StreamingOn, Last, Held, Again}
use Rattle.schedule_model.specs.declared.duties.Subscription.{Subscription}
use Rattle.schedule_model.specs.declared.duties.Afterwards.TheVariants.{TakenOut, LeftIn}
use Rattle.schedule_model.specs.declared.duties.Duty.{Duty}
use Rattle.schedule_model.specs.declared.duties.PutOff.{PutOff}
use Rattle.schedule_model.specs.declared.duties.Question.{Question}
use Rattle.schedule_model.specs.declared.duties.Question.TheVariants as question
use Rattle.schedule_model.specs.declared.duties.Duty.TheVariants.{Give, DeliverAll, DeliverOne, MakeCall}
use Rattle.schedule_model.specs.declared.duties.Signal.TheVariants.{Restart, Lead, Tick, Stop}
use Rattle.schedule_model.specs.Courses.{Scene, asked, asked_again, asked_anew, asked_last, beginning, client_of, course_in, course_of, following, following_on, held_course_of, is_put_off, last_number, line_course, reading_at, request, resubmitted, with_entry}
use Rattle.schedule_model.specs.Streams.{is_taken, moved_on, wants_more}
use Rattle.schedule_model.specs.Duties.{settling}
use Rattle.schedule_model.specs.Noting.{course_or_none, duties_with}
use Rattle.schedule_model.specs.Scheduling.{taken}
use Rattle.schedule_model.specs.Starts.{IsNoRestart}
use Rattle.schedule_model.proofs.Kept.{each-append}

-- a duty that starts no node
abbrev pub IsNoStart : Duty → Type 0
IsNoStart (Give Restart first count) = count ≡ 0
IsNoStart (Give Lead first count) = Unit {0}
IsNoStart (Give Tick first count) = Unit {0}
IsNoStart (Give Stop first count) = Unit {0}
IsNoStart DeliverAll = Unit {0}
IsNoStart (DeliverOne letter afterwards) = Unit {0}
IsNoStart (MakeCall node call awaited) = Unit {0}

abbrev pub AreNoStarts : List Duty → Type 0
AreNoStarts duties = AllByRecursion IsNoStart duties

abbrev pub IsNoStartCourse : Course → Type 0
IsNoStartCourse (Replies reply) = Unit {0}
IsNoStartCourse (GoesOn duties) = AreNoStarts duties
IsNoStartCourse (Takes position entry next) = IsNoStart next
IsNoStartCourse (Completes position entry) = Unit {0}
IsNoStartCourse (Ends last) = Unit {0}
IsNoStartCourse (Answers reply duties) = AreNoStarts duties
IsNoStartCourse (PutsOff reply asked) = Unit {0}
IsNoStartCourse (Replaces item reply) = Unit {0}

pub requested-starts : (config : Shape) (orderer : ℕ) (client : Client) (value : Value) (more : Bool)
    → IsNoStartCourse (cond more (GoesOn (request config orderer client value ∷ [])) (Replies NoLeader))
requested-starts config orderer client value true = (tt, tt)
requested-starts config orderer client value false = tt

pub read-starts : (config : Shape) (shard : Shard) (replica : Replica) (client : Client) (position : Position) (more : Bool)
    → IsNoStartCourse (cond more (GoesOn (reading_at config shard.0 replica client position Last ∷ [])) (Replies (Elsewhere shard)))
read-starts config shard replica client position true = (tt, tt)
read-starts config shard replica client position false = tt

pub with_entry-starts : (config : Shape) (s : Subscription) (entry : Entry) (more : Bool)
    → IsNoStartCourse (cond more (Takes s.position entry (following config (moved_on s entry))) (Completes s.position entry))
with_entry-starts config s entry true = tt
with_entry-starts config s entry false = tt

pub found-starts : (config : Shape) (s : Subscription) (entry : Entry) (taken : Bool) → IsNoStartCourse (cond taken (with_entry config s entry) (Ends Nothing))
found-starts config s entry true = with_entry-starts config s entry (wants_more s)
found-starts config s entry false = tt

pub told-starts : (config : Shape) (shard : Shard) (s : Subscription) (more : Bool)
    → IsNoStartCourse (cond more (GoesOn (following_on config shard.0 s ∷ [])) (Ends (Elsewhere shard)))
told-starts config shard s true = (tt, tt)
told-starts config shard s false = tt

pub put_off-starts : (asked : Question) (reply : Reply) (late : Bool) → IsNoStartCourse (cond late (PutsOff reply asked) (Replies reply))
put_off-starts asked reply true = tt
put_off-starts asked reply false = tt

pub course-starts : (config : Shape) (awaited : Awaited) (reply : Reply) → IsNoStartCourse (course_of config awaited reply)
course-starts config (Storing primary client number) (Stored offset) = (tt, (tt, (tt, (tt, (tt, (tt, (tt, (tt, (tt, tt)))))))))
course-starts config (Requesting orderer client value) NotLeading = requested-starts config (orderer + 1) client value (nat_lt (orderer + 1) config.orderers)
course-starts config (Requesting orderer client value) Down = requested-starts config (orderer + 1) client value (nat_lt (orderer + 1) config.orderers)
course-starts config (Requesting orderer client value) (Taken slot) = (tt, (tt, (tt, (tt, (tt, (tt, (tt, (tt, (tt, tt)))))))))
course-starts config (Reading replica client position) (Elsewhere shard) = read-starts config shard replica client position (nat_lt shard.0 config.shards)
course-starts config (Streaming s) (Found position entry) = found-starts config s entry (is_taken s entry)
course-starts config (Streaming s) (Elsewhere shard) = told-starts config shard s (nat_lt shard.0 config.shards)
course-starts config (StreamingOn s) (Found position entry) = found-starts config s entry (is_taken s entry)
course-starts config (Storing primary client number) reply = tt
course-starts config (Requesting orderer client value) reply = tt
course-starts config (Reading replica client position) reply = tt
course-starts config (Streaming s) reply = tt
course-starts config (StreamingOn s) reply = tt
course-starts config Last reply = tt
course-starts config (Held asked) reply = put_off-starts asked reply (is_put_off reply)
course-starts config (Again item) reply = tt

pub held-starts : (config : Shape) (awaited : Awaited) (reply : Reply) → IsNoStartCourse (held_course_of config awaited reply)
held-starts config (Storing primary client number) (Stored offset) = (tt, tt)
held-starts config (Requesting orderer client value) (Taken slot) = (tt, tt)
held-starts config (Storing primary client number) reply = course-starts config (Storing primary client number) reply
held-starts config (Requesting orderer client value) reply = course-starts config (Requesting orderer client value) reply
held-starts config (Reading replica client position) reply = course-starts config (Reading replica client position) reply
held-starts config (Streaming s) reply = course-starts config (Streaming s) reply
held-starts config (StreamingOn s) reply = course-starts config (StreamingOn s) reply
held-starts config Last reply = tt
held-starts config (Held asked) reply = course-starts config (Held asked) reply
held-starts config (Again item) reply = tt

pub in-starts : (config : Shape) (hold : Option (List PutOff)) (awaited : Awaited) (reply : Reply) → IsNoStartCourse (course_in config hold awaited reply)
in-starts config None awaited reply = course-starts config awaited reply
in-starts config (Some put_off) awaited reply = held-starts config awaited reply

pub with-starts : (course : Course) (duties : List Duty) → IsNoStartCourse course → AreNoStarts duties → AreNoStarts (duties_with (Some course) duties)
with-starts (Replies reply) duties h rest = rest
with-starts (GoesOn first) duties h rest = each-append IsNoStart first duties h rest
with-starts (Takes position entry next) duties h rest = (h, rest)
with-starts (Completes position entry) duties h rest = rest
with-starts (Ends last) duties h rest = rest
with-starts (Answers reply first) duties h rest = each-append IsNoStart first duties h rest
with-starts (PutsOff reply asked) duties h rest = rest
with-starts (Replaces item reply) duties h rest = rest

pub answer-starts : (config : Shape) (hold : Option (List PutOff)) (awaited : Option Awaited) (reply : Reply) (duties : List Duty) → AreNoStarts duties
    → AreNoStarts (duties_with (course_or_none config hold awaited reply) duties)
answer-starts config hold None reply duties rest = rest
answer-starts config hold (Some awaited) reply duties rest =
    with-starts (course_in config hold awaited reply) duties (in-starts config hold awaited reply) rest

pub asked-starts : (client : Client) (number : Number) (primary : Option NodeId) → IsNoStartCourse (asked client number primary)
asked-starts client number None = tt
asked-starts client number (Some primary) = (tt, tt)

-- a line of the fault script that is no restart
pub anew-starts : (config : Shape) (late : PutOff) (asked : Question) → IsNoStart (asked_last config asked (Again late.item))
anew-starts config late (question.Append primary client number) = tt
anew-starts config late (question.Wish orderer client value from) = tt

pub all-anew-starts : (config : Shape) (put_off : List PutOff) → AreNoStarts (map (asked_anew config) put_off)
all-anew-starts config [] = tt
all-anew-starts config (late ∷ put_off) = (anew-starts config late late.question, all-anew-starts config put_off)

pub settling-starts : (config : Shape) → AreNoStarts (settling config)
settling-starts config = (tt, (tt, (tt, (tt, (tt, (tt, (tt, (tt, tt))))))))

pub resubmitted-starts : (client : Client) (number : Number) (bytes : List ℕ) (primary : Option NodeId) → IsNoStartCourse (resubmitted client number bytes primary)
resubmitted-starts client number bytes None = tt
resubmitted-starts client number bytes (Some primary) = (tt, tt)

pub with_letter-starts : (course : Course) (waiting : ℕ) (there : Bool) → IsNoStartCourse course → IsNoStartCourse (cond there course (Replies (NoLetter waiting)))
with_letter-starts course waiting true h = h
with_letter-starts course waiting false h = tt

pub line-starts : (config : Shape) (scene : Scene) (again : Course) (lane : ℕ) (f : Fault) → IsNoRestart (FaultItem lane f) → IsNoStartCourse again
    → IsNoStartCourse (line_course config scene again f)
line-starts config scene again lane fault.Hold is h = tt
line-starts config scene again lane fault.Settle is h = each-append IsNoStart (settling config) (asked_again config scene.questions) (settling-starts config) (all-anew-starts config scene.questions)
line-starts config scene again lane (fault.Tick node) is h = (tt, tt)
line-starts config scene again lane (fault.Deliver letter) is h = with_letter-starts (Answers Done (DeliverOne letter TakenOut ∷ [])) scene.waiting (nat_lt letter scene.waiting) (tt, tt)
line-starts config scene again lane (fault.Drop letter) is h = with_letter-starts (Replies Done) scene.waiting (nat_lt letter scene.waiting) tt
line-starts config scene again lane (fault.Again letter) is h = with_letter-starts (Answers Done (DeliverOne letter LeftIn ∷ [])) scene.waiting (nat_lt letter scene.waiting) (tt, tt)
line-starts config scene again lane (fault.Stop node) is h = (tt, tt)
line-starts config scene again lane (fault.StopAfter node after keep) is h = tt
line-starts config scene again lane (fault.Lose node after) is h = tt
line-starts config scene again lane (fault.Restart node) is h = absurd is
line-starts config scene again lane (fault.Lead orderer) is h = (tt, tt)
line-starts config scene again lane fault.Resubmit is h = h

pub beginning-starts : (config : Shape) (run : ℕ) (draws : List ℕ) (primaries : List (Option NodeId)) (scene : Scene) (item : Item) → IsNoRestart item
    → IsNoStartCourse (beginning config run draws primaries scene item)
beginning-starts config run draws primaries scene (Append lane shard replica bytes) is = (tt, tt)
beginning-starts config run draws primaries scene (Read lane shard replica position) is = (tt, tt)
beginning-starts config run draws primaries scene (Subscribe lane shard replica from count) is = (tt, tt)
beginning-starts config run draws primaries scene (Trim lane position) is = (tt, tt)
beginning-starts config run draws primaries scene (Add lane shard) is = (tt, tt)
beginning-starts config run draws primaries scene (Finalise lane shard) is = (tt, tt)
beginning-starts config run draws primaries scene (AskItem lane) is = asked-starts (client_of lane) (last_number run draws lane) (get_or primaries lane None)
beginning-starts config run draws primaries scene (FaultItem lane f) is =
    line-starts config scene (resubmitted (client_of lane) (last_number run draws lane) (get_or scene.records lane []) (get_or primaries lane None)) lane f is
    (resubmitted-starts (client_of lane) (last_number run draws lane) (get_or scene.records lane []) (get_or primaries lane None))
