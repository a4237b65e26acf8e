-- Each item is answered once.
use Rattle.std.proofs.Common.{◌≡◌, ℕ, ◌+◌, ◌≤◌, Bool, true, false, cond, nat_lt, ◌==◌, List, [], ◌∷◌, ◌++◌, length, get_or, Option, Some, None, refl, ap, sym, subst, ◌∙◌, length-append, map, nat_le, slice_get, zero, suc, zero-add, arith}
use Rattle.std.proofs.lemmas.Bool.Decides.{nat_tests}
use Rattle.std.proofs.lemmas.List.{length-set}
use Rattle.log_base.specs.ClusterShape.{Shape}
use Rattle.log_base.specs.declared.numbers.Client.{Client}
use Rattle.log_base.specs.declared.numbers.NodeId.{NodeId}
use Rattle.log_base.specs.declared.numbers.Number.{Number}
use Rattle.log_base.specs.declared.numbers.Position.{Position}
use Rattle.log_base.specs.declared.numbers.Replica.{Replica}
use Rattle.log_base.specs.declared.numbers.Shard.{Shard}
use Rattle.record_frame.specs.declared.values.Value.{Value}
use Rattle.fault_script.specs.declared.fault.Fault.{Fault}
use Rattle.fault_script.specs.declared.fault.Fault.TheVariants as fault
use Rattle.command_frame.specs.declared.items.Item.{Item}
use Rattle.command_frame.specs.declared.items.Item.TheVariants.{Append, Read, Subscribe, Trim, Add, Finalise, Ask as AskItem, Fault as FaultItem}
use Rattle.record_frame.specs.declared.entries.Entry.{Entry}
use Rattle.subscriber.specs.Following.{Following, after_offer}
use Rattle.reply_frame.specs.declared.replies.Reply.{Reply, Nothing, Stored, Found, Down, Elsewhere, Taken, NotLeading, NoLeader, NoLetter, Done}
use Rattle.history_frame.specs.declared.events.Event.{Event}
use Rattle.history_frame.specs.declared.events.Sent.{Sent}
use Rattle.schedule_model.specs.declared.courses.Course.{Course}
use Rattle.schedule_model.specs.declared.courses.Course.TheVariants.{Replies, GoesOn, Takes, Completes, Ends, Answers, PutsOff, Replaces}
use Rattle.schedule_model.specs.declared.duties.Awaited.{Awaited}
use Rattle.schedule_model.specs.declared.duties.Awaited.TheVariants.{Storing, Requesting, Reading, Streaming, StreamingOn, Last, Held, Again}
use Rattle.schedule_model.specs.declared.duties.Subscription.{Subscription}
use Rattle.schedule_model.specs.declared.duties.Afterwards.{Afterwards}
use Rattle.schedule_model.specs.declared.duties.Afterwards.TheVariants.{TakenOut, LeftIn}
use Rattle.schedule_model.specs.declared.duties.Duty.{Duty}
use Rattle.schedule_model.specs.declared.duties.PutOff.{PutOff}
use Rattle.schedule_model.specs.declared.duties.Question.{Question}
use Rattle.schedule_model.specs.declared.duties.Question.TheVariants as question
use Rattle.schedule_model.specs.declared.duties.Duty.TheVariants.{Give, DeliverAll, DeliverOne, MakeCall}
use Rattle.schedule_model.specs.Courses.{Scene, asked, asked_again, asked_anew, asked_last, beginning, client_of, course_in, course_of, following, following_on, held_course_of, is_put_off, last_number, line_course, reading_at, request, resubmitted, with_entry}
use Rattle.schedule_model.specs.Duties.{settling}
use Rattle.schedule_model.specs.Streams.{is_taken, moved_on, stream_of, wants_more}
use Rattle.schedule_model.specs.Driven.{after_event, after_events}
use Rattle.schedule_model.specs.Noting.{course_or_none, duties_with, replies_with}
use Rattle.schedule_model.specs.Scheduling.{Scheduled, Waiting, at_first, begins, begun, delivery, delivery_of, due, entered, first_step, given, is_done, is_first_done, is_idle, next_turn, noted, passed, ready, ready_with, rest_in, scene_of, taken, turn_in}
use Rattle.schedule_model.proofs.Along.{along, ready-keeps}
use Rattle.schedule_model.proofs.Kept.{noted-parts}
use Rattle.schedule_model.proofs.Ready.{begun-items}

-- how many items an answer is a step of: one that is asked again has its reply
abbrev pub step_in : Awaited → ℕ
step_in (Storing primary client number) = 1
step_in (Requesting orderer client value) = 1
step_in (Reading replica client position) = 1
step_in (Streaming s) = 1
step_in (StreamingOn s) = 1
step_in Last = 1
step_in (Held asked) = 1
step_in (Again item) = 0

-- how many calls are due that are steps of items
abbrev pub call_in : Duty → ℕ
call_in (Give signal first count) = 0
call_in DeliverAll = 0
call_in (DeliverOne letter afterwards) = 0
call_in (MakeCall node call awaited) = step_in awaited

abbrev pub calls_in : List Duty → ℕ
calls_in [] = 0
calls_in (duty ∷ duties) = call_in duty + calls_in duties

-- how many answers are awaited
abbrev pub awaited_in : Option Awaited → ℕ
awaited_in None = 0
awaited_in (Some awaited) = step_in awaited

-- Each item has not begun, or has a call that is due or whose answer is awaited, or its reply.
abbrev pub counted : Scheduled → ℕ
counted s = length s.replies + length s.items + calls_in s.duties + awaited_in s.awaited

-- so it is between events, when no answer is awaited
pub record IsCounted (count : ℕ) (s : Scheduled) : Type 0 where
  pub all : counted s ≡ count
  pub none : s.awaited ≡ None

-- ---- what is passed over

chosen-calls : (queue : List Waiting) (duty : Duty) (duties : List Duty) (done : Bool) → is_done queue duty ≡ done → calls_in (due queue duties) ≡ calls_in duties
    → calls_in (cond done (due queue duties) (duty ∷ duties)) ≡ call_in duty + calls_in duties
chosen-calls queue (Give signal first count) duties true h rest = omega arith
chosen-calls queue DeliverAll duties true h rest = omega arith
chosen-calls queue (DeliverOne letter afterwards) duties true h rest = omega arith
chosen-calls queue (MakeCall node call awaited) duties true h rest = cc
chosen-calls queue duty duties false h rest = refl

pub due-calls : (queue : List Waiting) (duties : List Duty) → calls_in (due queue duties) ≡ calls_in duties
due-calls queue [] = refl
due-calls queue (duty ∷ duties) = chosen-calls queue duty duties (is_done queue duty) refl (due-calls queue duties)

passed-counted : (count : ℕ) (s : Scheduled) → IsCounted count s → IsCounted count (passed s)
passed-counted count s h = record { all = let same = due-calls s.queue s.duties in let all : counted s ≡ count = h.all in omega arith; none = h.none }

-- ---- how an item goes

-- an answer ends the item or makes one call due
abbrev pub course_count : Course → ℕ
course_count (Replies reply) = 1
course_count (GoesOn duties) = calls_in duties
course_count (Takes position entry next) = call_in next
course_count (Completes position entry) = 1
course_count (Ends last) = 1
course_count (Answers reply duties) = 1 + calls_in duties
course_count (PutsOff reply asked) = 1
course_count (Replaces item reply) = 0

requested-count : (config : Shape) (orderer : ℕ) (client : Client) (value : Value) (more : Bool)
    → course_count (cond more (GoesOn (request config orderer client value ∷ [])) (Replies NoLeader)) ≡ 1
requested-count config orderer client value true = refl
requested-count config orderer client value false = refl

read-count : (config : Shape) (shard : Shard) (replica : Replica) (client : Client) (position : Position) (more : Bool)
    → course_count (cond more (GoesOn (reading_at config shard.0 replica client position Last ∷ [])) (Replies (Elsewhere shard))) ≡ 1
read-count config shard replica client position true = refl
read-count config shard replica client position false = refl

with_entry-count : (config : Shape) (s : Subscription) (entry : Entry) (more : Bool)
    → course_count (cond more (Takes s.position entry (following config (moved_on s entry))) (Completes s.position entry)) ≡ 1
with_entry-count config s entry true = refl
with_entry-count config s entry false = refl

found-count : (config : Shape) (s : Subscription) (entry : Entry) (taken : Bool) → course_count (cond taken (with_entry config s entry) (Ends Nothing)) ≡ 1
found-count config s entry true = with_entry-count config s entry (wants_more s)
found-count config s entry false = refl

told-count : (config : Shape) (shard : Shard) (s : Subscription) (more : Bool)
    → course_count (cond more (GoesOn (following_on config shard.0 s ∷ [])) (Ends (Elsewhere shard))) ≡ 1
told-count config shard s true = refl
told-count config shard s false = refl

put_off-count : (asked : Question) (reply : Reply) (late : Bool) → course_count (cond late (PutsOff reply asked) (Replies reply)) ≡ 1
put_off-count asked reply true = refl
put_off-count asked reply false = refl

course_of-count : (config : Shape) (awaited : Awaited) (reply : Reply) → course_count (course_of config awaited reply) ≡ step_in awaited
course_of-count config (Storing primary client number) (Stored offset) = refl
course_of-count config (Requesting orderer client value) NotLeading = requested-count config (orderer + 1) client value (nat_lt (orderer + 1) config.orderers)
course_of-count config (Requesting orderer client value) Down = requested-count config (orderer + 1) client value (nat_lt (orderer + 1) config.orderers)
course_of-count config (Requesting orderer client value) (Taken slot) = refl
course_of-count config (Reading replica client position) (Elsewhere shard) = read-count config shard replica client position (nat_lt shard.0 config.shards)
course_of-count config (Streaming s) (Found position entry) = found-count config s entry (is_taken s entry)
course_of-count config (Streaming s) (Elsewhere shard) = told-count config shard s (nat_lt shard.0 config.shards)
course_of-count config (StreamingOn s) (Found position entry) = found-count config s entry (is_taken s entry)
course_of-count config (Storing primary client number) reply = refl
course_of-count config (Requesting orderer client value) reply = refl
course_of-count config (Reading replica client position) reply = refl
course_of-count config (Streaming s) reply = refl
course_of-count config (StreamingOn s) reply = refl
course_of-count config Last reply = refl
course_of-count config (Held asked) reply = put_off-count asked reply (is_put_off reply)
course_of-count config (Again item) reply = refl

held_course-count : (config : Shape) (awaited : Awaited) (reply : Reply) → course_count (held_course_of config awaited reply) ≡ step_in awaited
held_course-count config (Storing primary client number) (Stored offset) = refl
held_course-count config (Requesting orderer client value) (Taken slot) = refl
held_course-count config (Storing primary client number) reply = course_of-count config (Storing primary client number) reply
held_course-count config (Requesting orderer client value) reply = course_of-count config (Requesting orderer client value) reply
held_course-count config (Reading replica client position) reply = course_of-count config (Reading replica client position) reply
held_course-count config (Streaming s) reply = course_of-count config (Streaming s) reply
held_course-count config (StreamingOn s) reply = course_of-count config (StreamingOn s) reply
held_course-count config Last reply = refl
held_course-count config (Held asked) reply = course_of-count config (Held asked) reply
held_course-count config (Again item) reply = refl

pub course_in-count : (config : Shape) (hold : Option (List PutOff)) (awaited : Awaited) (reply : Reply)
    → course_count (course_in config hold awaited reply) ≡ step_in awaited
course_in-count config None awaited reply = course_of-count config awaited reply
course_in-count config (Some put_off) awaited reply = held_course-count config awaited reply

pub calls_in-append : (some more : List Duty) → calls_in (some ++ more) ≡ calls_in some + calls_in more
calls_in-append [] more = sym (zero-add (calls_in more))
calls_in-append (duty ∷ some) more = let rest = calls_in-append some more in omega arith

with-count : (course : Course) (stream : Following) (duties : List Duty) (replies : List Reply)
    → length (replies_with (Some course) stream replies) + calls_in (duties_with (Some course) duties) ≡ length replies + calls_in duties + course_count course
with-count (Replies reply) stream duties replies = let more : length (replies ++ reply ∷ []) ≡ length replies + 1 = length-append replies (reply ∷ []) in omega arith
with-count (GoesOn first) stream duties replies = let more = calls_in-append first duties in omega arith
with-count (Takes position entry next) stream duties replies = omega arith
with-count (Completes position entry) stream duties replies =
    let more : length (replies ++ stream_of (after_offer stream position.0 entry) Nothing ∷ []) ≡ length replies + 1 = length-append replies (stream_of (after_offer stream position.0 entry) Nothing ∷ []) in
    omega arith
with-count (Answers reply first) stream duties replies =
    let more = calls_in-append first duties in
    let longer : length (replies ++ reply ∷ []) ≡ length replies + 1 = length-append replies (reply ∷ []) in
    omega arith
with-count (PutsOff reply asked) stream duties replies = let more : length (replies ++ reply ∷ []) ≡ length replies + 1 = length-append replies (reply ∷ []) in omega arith
with-count (Replaces item reply) stream duties replies = let same = length-set replies item reply in omega arith
with-count (Ends last) stream duties replies = let more : length (replies ++ stream_of stream last ∷ []) ≡ length replies + 1 = length-append replies (stream_of stream last ∷ []) in omega arith

followed-count : (config : Shape) (hold : Option (List PutOff)) (awaited : Option Awaited) (reply : Reply) (stream : Following) (duties : List Duty) (replies : List Reply)
    → length (replies_with (course_or_none config hold awaited reply) stream replies) + calls_in (duties_with (course_or_none config hold awaited reply) duties)
    ≡ length replies + calls_in duties + awaited_in awaited
followed-count config hold None reply stream duties replies = omega arith
followed-count config hold (Some awaited) reply stream duties replies =
    with-count (course_in config hold awaited reply) stream duties replies ∙ ap (λ (n : ℕ). length replies + calls_in duties + n) (course_in-count config hold awaited reply)

-- ---- up to the next turn

asked-count : (client : Client) (number : Number) (primary : Option NodeId) → course_count (asked client number primary) ≡ 1
asked-count client number None = refl
asked-count client number (Some primary) = refl

-- a line of the fault script is done at once, or sends an append again
with_letter-count : (course : Course) (waiting : ℕ) (there : Bool) → course_count course ≡ 1
    → course_count (cond there course (Replies (NoLetter waiting))) ≡ 1
with_letter-count course waiting true one = one
with_letter-count course waiting false one = refl

asked_last-none : (config : Shape) (late : PutOff) (asked : Question) → call_in (asked_last config asked (Again late.item)) ≡ 0
asked_last-none config late (question.Append primary client number) = refl
asked_last-none config late (question.Wish orderer client value from) = refl

anew-none : (config : Shape) (put_off : List PutOff) → calls_in (map (asked_anew config) put_off) ≡ 0
anew-none config [] = refl
anew-none config (late ∷ put_off) =
    let first = asked_last-none config late late.question in let rest = anew-none config put_off in omega arith

settle-count : (config : Shape) (put_off : List PutOff) → course_count (Answers Done (settling config ++ asked_again config put_off)) ≡ 1
settle-count config put_off =
    let both = calls_in-append (settling config) (asked_again config put_off) in let none = anew-none config put_off in omega arith

resubmitted-count : (client : Client) (number : Number) (bytes : List ℕ) (primary : Option NodeId) → course_count (resubmitted client number bytes primary) ≡ 1
resubmitted-count client number bytes None = refl
resubmitted-count client number bytes (Some primary) = refl

line-count : (config : Shape) (scene : Scene) (again : Course) (f : Fault) → course_count again ≡ 1 → course_count (line_course config scene again f) ≡ 1
line-count config scene again fault.Hold one = refl
line-count config scene again fault.Settle one = settle-count config scene.questions
line-count config scene again (fault.Tick node) one = refl
line-count config scene again (fault.Deliver letter) one = with_letter-count (Answers Done (DeliverOne letter TakenOut ∷ [])) scene.waiting (nat_lt letter scene.waiting) refl
line-count config scene again (fault.Drop letter) one = with_letter-count (Replies Done) scene.waiting (nat_lt letter scene.waiting) refl
line-count config scene again (fault.Again letter) one = with_letter-count (Answers Done (DeliverOne letter LeftIn ∷ [])) scene.waiting (nat_lt letter scene.waiting) refl
line-count config scene again (fault.Stop node) one = refl
line-count config scene again (fault.StopAfter node after keep) one = refl
line-count config scene again (fault.Lose node after) one = refl
line-count config scene again (fault.Restart node) one = refl
line-count config scene again (fault.Lead orderer) one = refl
line-count config scene again fault.Resubmit one = one

pub beginning-count : (config : Shape) (run : ℕ) (draws : List ℕ) (primaries : List (Option NodeId)) (scene : Scene) (item : Item)
    → course_count (beginning config run draws primaries scene item) ≡ 1
beginning-count config run draws primaries scene (Append lane shard replica bytes) = refl
beginning-count config run draws primaries scene (Read lane shard replica position) = refl
beginning-count config run draws primaries scene (Subscribe lane shard replica from count) = refl
beginning-count config run draws primaries scene (Trim lane position) = refl
beginning-count config run draws primaries scene (Add lane shard) = refl
beginning-count config run draws primaries scene (Finalise lane shard) = refl
beginning-count config run draws primaries scene (AskItem lane) = asked-count (client_of lane) (last_number run draws lane) (get_or primaries lane None)
beginning-count config run draws primaries scene (FaultItem lane f) =
    line-count config scene (resubmitted (client_of lane) (last_number run draws lane) (get_or scene.records lane []) (get_or primaries lane None)) f
    (resubmitted-count (client_of lane) (last_number run draws lane) (get_or scene.records lane []) (get_or primaries lane None))

taken-counted : (count : ℕ) (s : Scheduled) (course : Course) → counted s + course_count course ≡ count → s.awaited ≡ None → IsCounted count (taken s course)
taken-counted count s (Replies reply) all none =
    record { all = let more : length (s.replies ++ reply ∷ []) ≡ length s.replies + 1 = length-append s.replies (reply ∷ []) in omega arith; none = none }
taken-counted count s (Takes position entry next) all none = record { all = omega arith; none = none }
taken-counted count s (Completes position entry) all none =
    let last : Reply = stream_of (after_offer s.stream position.0 entry) Nothing in
    record { all = let more : length (s.replies ++ last ∷ []) ≡ length s.replies + 1 = length-append s.replies (last ∷ []) in omega arith; none = none }
taken-counted count s (Ends answer) all none =
    let last : Reply = stream_of s.stream answer in
    record { all = let more : length (s.replies ++ last ∷ []) ≡ length s.replies + 1 = length-append s.replies (last ∷ []) in omega arith; none = none }
taken-counted count s (Answers reply duties) all none =
    record {
      all = let longer : length (s.replies ++ reply ∷ []) ≡ length s.replies + 1 = length-append s.replies (reply ∷ []) in let more = calls_in-append duties s.duties in omega arith;
      none = none;
    }
taken-counted count s (PutsOff reply asked) all none =
    record { all = let more : length (s.replies ++ reply ∷ []) ≡ length s.replies + 1 = length-append s.replies (reply ∷ []) in omega arith; none = none }
taken-counted count s (Replaces item reply) all none = record { all = let same = length-set s.replies item reply in omega arith; none = none }
taken-counted count s (GoesOn duties) all none = record { all = let more = calls_in-append duties s.duties in omega arith; none = none }

begun-counted : (count : ℕ) (s : Scheduled) (item : Item) (items : List Item) → s.items ≡ item ∷ items → IsCounted count s → IsCounted count (begun s item items)
begun-counted count s item items left h =
    let one : course_count (begins s item) ≡ 1 = beginning-count s.config s.run s.draws s.primaries (scene_of s) item in
    let fewer = ap (λ (some : List Item). length some) left in
    let all : counted s ≡ count = h.all in
    taken-counted count (entered s item items) (begins s item) (omega arith) h.none

pub ready-counted : (count : ℕ) (s : Scheduled) → IsCounted count s → IsCounted count (ready s)
ready-counted count s h =
    ready-keeps (IsCounted count) (passed-counted count) (λ x item items left idle p. begun-counted count x item items left p) s h

-- ---- an event

delivery-counted : (s : Scheduled) (queue : List Waiting) → counted (rest_in s (delivery s queue)) ≡ counted s
delivery-counted s [] = refl
delivery-counted s (letter ∷ queue) = refl

picked-counted : (s : Scheduled) (duties : List Duty) (number : ℕ) (afterwards : Afterwards) (letter : Option Waiting)
    → s.duties ≡ DeliverOne number afterwards ∷ duties → counted (rest_in s (delivery_of s duties number afterwards letter)) ≡ counted s
picked-counted s duties number afterwards None e = refl
picked-counted s duties number afterwards (Some letter) e = let same = ap calls_in e in omega arith

first-counted : (s : Scheduled) (duties : List Duty) → s.duties ≡ duties → s.awaited ≡ None → counted (rest_in s (first_step s duties)) ≡ counted s
first-counted s [] e none = refl
first-counted s (Give signal first count ∷ duties) e none = let same = ap calls_in e in omega arith
first-counted s (DeliverAll ∷ duties) e none = delivery-counted s s.queue
first-counted s (DeliverOne letter afterwards ∷ duties) e none = picked-counted s duties letter afterwards (slice_get s.queue letter) e
first-counted s (MakeCall node call awaited ∷ duties) e none = let same = ap calls_in e in let quiet = ap awaited_in none in omega arith

noted-counted : (count : ℕ) (s : Scheduled) (outputs : List Sent) (reply : Reply) → counted s ≡ count → IsCounted count (noted s outputs reply)
noted-counted count s outputs reply all =
    subst (IsCounted count) (sym (noted-parts s outputs reply))
    (record { all = let same = followed-count s.config s.hold s.awaited reply s.stream s.duties s.replies in omega arith; none = refl })

event-counted : (count : ℕ) (before : List Event) (s : Scheduled) (event : Event) → IsCounted count s → IsCounted count (after_event s event)
event-counted count before s event h =
    let now = ready-counted count s h in
    noted-counted count (given s) event.happened.outputs event.happened.reply (first-counted (ready s) (ready s).duties refl now.none ∙ now.all)

pub events-counted : (count : ℕ) (s : Scheduled) (events : List Event) → IsCounted count s → IsCounted count (after_events s events)
events-counted count s events h = along (λ some x. IsCounted count x) (event-counted count) [] s events h

-- ---- the end

chosen-stops : (queue : List Waiting) (duty : Duty) (duties : List Duty) (done : Bool) → is_done queue duty ≡ done → is_first_done queue (due queue duties) ≡ false
    → is_first_done queue (cond done (due queue duties) (duty ∷ duties)) ≡ false
chosen-stops queue duty duties true h rest = rest
chosen-stops queue duty duties false h rest = h

pub due-first : (queue : List Waiting) (duties : List Duty) → is_first_done queue (due queue duties) ≡ false
due-first queue [] = refl
due-first queue (duty ∷ duties) = chosen-stops queue duty duties (is_done queue duty) refl (due-first queue duties)

-- where all is ready, the first duty is not done
abbrev pub IsUndone : Scheduled → Type 0
IsUndone s = is_first_done s.queue s.duties ≡ false

undone-chosen : (s : Scheduled) (item : Item) (items : List Item) (idle : Bool) → IsUndone (ready_with (begun (passed s) item items) items)
    → IsUndone (cond idle (ready_with (begun (passed s) item items) items) (passed s))
undone-chosen s item items true h = h
undone-chosen s item items false h = due-first s.queue s.duties

ready_with-undone : (s : Scheduled) (items : List Item) → IsUndone (ready_with s items)
ready_with-undone s [] = due-first s.queue s.duties
ready_with-undone s (item ∷ items) = undone-chosen s item items (is_idle (passed s)) (ready_with-undone (begun (passed s) item items) items)

pub ready-undone : (s : Scheduled) → IsUndone (ready s)
ready-undone s = ready_with-undone s s.items

-- where nothing is due then, no item is left
abbrev pub IsLast : Scheduled → Type 0
IsLast s = s.duties ≡ [] → s.items ≡ []

last-chosen : (s : Scheduled) (item : Item) (items : List Item) (idle : Bool) → is_idle (passed s) ≡ idle → IsLast (ready_with (begun (passed s) item items) items)
    → IsLast (cond idle (ready_with (begun (passed s) item items) items) (passed s))
last-chosen s item items true h rest = rest
last-chosen s item items false h rest = λ none. let idle : is_idle (passed s) ≡ true = ap (λ (duties : List Duty). length duties == 0) none in cc

ready_with-last : (s : Scheduled) (items : List Item) → s.items ≡ items → IsLast (ready_with s items)
ready_with-last s [] left = λ none. left
ready_with-last s (item ∷ items) left =
    last-chosen s item items (is_idle (passed s)) refl (ready_with-last (begun (passed s) item items) items (begun-items (passed s) item items))

ready-last : (s : Scheduled) → IsLast (ready s)
ready-last s = ready_with-last s s.items refl

-- where no turn comes, nothing is due
delivery-over : (s : Scheduled) (duties : List Duty) (queue : List Waiting) → is_first_done queue (DeliverAll ∷ duties) ≡ false
    → turn_in (delivery s queue) ≡ None → DeliverAll ∷ duties ≡ []
delivery-over s duties [] undone over = cc
delivery-over s duties (letter ∷ queue) undone over = cc

-- a letter with a number below the length is there
got : (queue : List Waiting) (number : ℕ) → nat_le (length queue) number ≡ false → slice_get queue number ≡ None → ⊥
got [] number undone none = let all : nat_le 0 number ≡ true = grind (arith, nat_tests) in absurd (cc)
got (letter ∷ queue) zero undone none = absurd (cc)
got (letter ∷ queue) (suc number) undone none = got queue number (fewer (length queue) number undone) none
  where
    fewer : (n m : ℕ) → nat_le (suc n) (suc m) ≡ false → nat_le n m ≡ false
    fewer n m h = grind (arith, nat_tests)

picked-over : (s : Scheduled) (duties all : List Duty) (number : ℕ) (afterwards : Afterwards) (letter : Option Waiting) → slice_get s.queue number ≡ letter
    → nat_le (length s.queue) number ≡ false → turn_in (delivery_of s duties number afterwards letter) ≡ None → all ≡ []
picked-over s duties all number afterwards None there undone over = absurd (got s.queue number undone there)
picked-over s duties all number afterwards (Some letter) there undone over = cc

first-over : (s : Scheduled) (duties : List Duty) → is_first_done s.queue duties ≡ false → turn_in (first_step s duties) ≡ None → duties ≡ []
first-over s [] undone over = refl
first-over s (Give signal first count ∷ duties) undone over = cc
first-over s (DeliverAll ∷ duties) undone over = delivery-over s duties s.queue undone over
first-over s (DeliverOne letter afterwards ∷ duties) undone over =
    picked-over s duties (DeliverOne letter afterwards ∷ duties) letter afterwards (slice_get s.queue letter) refl undone over
first-over s (MakeCall node call awaited ∷ duties) undone over = cc

pub over-counted : (count : ℕ) (s : Scheduled) → IsCounted count s → next_turn s ≡ None → length (ready s).replies ≡ count
over-counted count s h over =
    let now = ready-counted count s h in
    let all : counted (ready s) ≡ count = now.all in
    let idle : (ready s).duties ≡ [] = first-over (ready s) (ready s).duties (ready-undone s) over in
    let last : (ready s).items ≡ [] = ready-last s idle in
    let calls = ap calls_in idle in
    let items = ap (λ (some : List Item). length some) last in
    let quiet = ap awaited_in now.none in
    omega arith

pub replies-counted : (count : ℕ) (s : Scheduled) → IsCounted count s → length (ready s).replies ≤ count
replies-counted count s h = let now = ready-counted count s h in let all : counted (ready s) ≡ count = now.all in omega arith

pub first-counted-is : (config : Shape) (run : ℕ) (items : List Item) → IsCounted (length items) (at_first config run items)
first-counted-is config run items = record { all = omega arith; none = refl }
