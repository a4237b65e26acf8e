-- What is submitted next has its lane's last pair. What was submitted under that pair went to the lane's primary, with its record.
use Rattle.std.proofs.Common.{◌≡◌, ℕ, ◌+◌, ◌-◌, ◌/◌, ◌^◌, ◌<◌, ◌≤◌, Bool, true, false, cond, nat_lt, ◌==◌, List, [], ◌∷◌, ◌++◌, length, get_or, slice_get, Option, Some, None, refl, ap, sym, subst, ◌∙◌, arith}
use Rattle.std.specs.List.{AllByRecursion}
use Rattle.std.proofs.lemmas.Grind.{common_steps}
use Rattle.std.proofs.lemmas.List.{get_or-set_same}
use Rattle.std.proofs.lemmas.Nat.{div-mul-add}
use Rattle.log_base.specs.ClusterShape.{Shape}
use Rattle.log_base.specs.Draws.{number_of_draw}
use Rattle.log_base.specs.declared.numbers.Client.{Client}
use Rattle.log_base.specs.declared.numbers.NodeId.{NodeId}
use Rattle.log_base.specs.declared.numbers.Number.{Number}
use Rattle.log_base.specs.declared.numbers.Position.{Position}
use Rattle.log_base.specs.declared.numbers.Replica.{Replica}
use Rattle.log_base.specs.declared.numbers.Shard.{Shard}
use Rattle.record_frame.specs.declared.values.Value.{Value}
use Rattle.record_frame.specs.Entries.{entry_of}
use Rattle.command_frame.specs.declared.items.Item.{Item}
use Rattle.command_frame.specs.declared.items.Item.TheVariants.{Append, Ask as AskItem, Fault as FaultItem}
use Rattle.command_frame.specs.Items.{IsItem}
use Rattle.record_frame.specs.declared.entries.Entry.{Entry}
use Rattle.reply_frame.specs.declared.replies.Reply.{Reply, Nothing, Stored, Found, Down, Elsewhere, Taken, NotLeading, NoLeader}
use Rattle.history_frame.specs.declared.events.Event.{Event}
use Rattle.history_frame.specs.declared.events.Sent.{Sent}
use Rattle.history_frame.specs.declared.inputs.Call.{Call}
use Rattle.history_frame.specs.declared.inputs.Call.TheVariants.{Submit, Ask, Read as ReadCall, Request, Settled}
use Rattle.history_frame.specs.declared.inputs.Input.TheVariants.{Call as ACall}
use Rattle.node_table.specs.Numbering.{storage_node}
use Rattle.node_model.specs.Legal.{AgreesWith, IsOfRun, submitted}
use Rattle.schedule_model.specs.declared.courses.Course.{Course}
use Rattle.schedule_model.specs.declared.courses.Course.TheVariants.{Replies, GoesOn, Takes, Completes, Ends, Answers, PutsOff, Replaces}
use Rattle.schedule_model.specs.declared.duties.Awaited.{Awaited}
use Rattle.schedule_model.specs.declared.duties.Awaited.TheVariants.{Storing, Requesting, Reading, Streaming, StreamingOn, Last, Held, Again}
use Rattle.schedule_model.specs.declared.duties.Subscription.{Subscription}
use Rattle.schedule_model.specs.declared.duties.Afterwards.{Afterwards}
use Rattle.schedule_model.specs.declared.duties.Duty.{Duty}
use Rattle.schedule_model.specs.declared.duties.PutOff.{PutOff}
use Rattle.schedule_model.specs.declared.duties.Question.{Question}
use Rattle.schedule_model.specs.declared.duties.Duty.TheVariants.{Give, DeliverAll, DeliverOne, MakeCall}
use Rattle.schedule_model.specs.declared.duties.Signal.{Signal}
use Rattle.schedule_model.specs.declared.duties.Signal.TheVariants.{Restart, Lead, Tick, Stop}
use Rattle.schedule_model.specs.declared.turns.Turn.{Turn}
use Rattle.schedule_model.specs.Courses.{asked, client_of, confirmation, course_in, course_of, enquiry, following, following_on, held_course_of, is_put_off, last_number, line_course, reading_at, request, resubmitted, with_entry}
use Rattle.schedule_model.specs.Streams.{is_taken, moved_on, wants_more}
use Rattle.schedule_model.specs.Driven.{Follow, after_event, after_events, turn_of}
use Rattle.schedule_model.specs.Duties.{settling, signal_input}
use Rattle.schedule_model.specs.Noting.{course_or_none, duties_with}
use Rattle.schedule_model.specs.Scheduling.{Scheduled, Waiting, at_first, begun, delivered, delivery, delivery_of, due, entered, first_step, given, is_done, is_idle, next_turn, noted, passed, ready, rest_in, scene_of, taken, turn_in}
use Rattle.schedule_model.proofs.Along.{followed-along, ready-keeps, some_is}
use Rattle.schedule_model.proofs.Kept.{each-append, each-due, none-kept, noted-parts}
use Rattle.schedule_model.proofs.Permitted.{AllPermitted}
use Rattle.schedule_model.proofs.BeginningsPermitted.{begun-permitted}
use Rattle.schedule_model.proofs.Permitting.{event-permitted, passed-permitted, ready-permitted}
use Rattle.schedule_model.proofs.LastAppends.{AreUsed, IsDrawn, IsFirstLast, IsLast, IsLastCall, IsLastCourse, IsLastDuty, IsNoSubmission, IsPlain, Lasts, asked-last, drawn-longer, lasts_drawn, lasts_of, line-last, resubmitted-last, settling-plain, used-longer}

-- ---- duties that submit nothing, and one that submits a new pair

-- between events no duty submits
pub record IsBetween (before : List Event) (s : Scheduled) : Type 0 where
  pub earlier : AllByRecursion (IsDrawn (lasts_of s)) before
  pub used : AreUsed (lasts_of s)
  pub plain : AllByRecursion IsPlain s.duties
  pub permitted : AllPermitted s

pub record IsReadied (before : List Event) (s : Scheduled) : Type 0 where
  pub earlier : AllByRecursion (IsDrawn (lasts_of s)) before
  pub used : AreUsed (lasts_of s)
  pub first : IsFirstLast (lasts_of s) s.duties
  pub permitted : AllPermitted s

-- ---- up to the next turn

each-map : {X : Type 0} (P Q : X → Type 0) → ((x : X) → P x → Q x) → (xs : List X) → AllByRecursion P xs → AllByRecursion Q xs
each-map P Q f [] h = tt
each-map P Q f (x ∷ xs) h = (f x h.0, each-map P Q f xs h.1)

plain-call : (lasts : Lasts) (node : NodeId) (call : Call) → IsNoSubmission call → IsLastCall lasts node call
plain-call lasts node (Submit client number bytes) h = absurd h
plain-call lasts node (Ask client number) h = tt
plain-call lasts node (ReadCall client position) h = tt
plain-call lasts node (Request client value) h = tt
plain-call lasts node (Settled client value start) h = tt

plain-duty : (lasts : Lasts) (duty : Duty) → IsPlain duty → IsLastDuty lasts duty
plain-duty lasts (Give signal first count) h = tt
plain-duty lasts DeliverAll h = tt
plain-duty lasts (DeliverOne letter afterwards) h = tt
plain-duty lasts (MakeCall node call awaited) h = plain-call lasts node call h

plain-first : (lasts : Lasts) (duties : List Duty) → AllByRecursion IsPlain duties → IsFirstLast lasts duties
plain-first lasts [] h = tt
plain-first lasts (duty ∷ duties) h = (plain-duty lasts duty h.0, h.1)

first-append : (lasts : Lasts) (duties more : List Duty) → IsFirstLast lasts duties → AllByRecursion IsPlain more → IsFirstLast lasts (duties ++ more)
first-append lasts [] more h plain = plain-first lasts more plain
first-append lasts (duty ∷ duties) more h plain = (h.0, each-append IsPlain duties more h.1 plain)

due-chosen : (lasts : Lasts) (queue : List Waiting) (duty : Duty) (duties : List Duty) (done : Bool)
    → IsLastDuty lasts duty → AllByRecursion IsPlain duties → IsFirstLast lasts (cond done (due queue duties) (duty ∷ duties))
due-chosen lasts queue duty duties true first rest = plain-first lasts (due queue duties) (each-due IsPlain queue duties rest)
due-chosen lasts queue duty duties false first rest = (first, rest)

due-last : (lasts : Lasts) (queue : List Waiting) (duties : List Duty) → IsFirstLast lasts duties → IsFirstLast lasts (due queue duties)
due-last lasts queue [] h = tt
due-last lasts queue (duty ∷ duties) h = due-chosen lasts queue duty duties (is_done queue duty) h.0 h.1

passed-readied : (before : List Event) (s : Scheduled) → IsReadied before s → IsReadied before (passed s)
passed-readied before s h = record {
  earlier = h.earlier;
  used = h.used;
  first = due-last (lasts_of s) s.queue s.duties h.first;
  permitted = passed-permitted s h.permitted;
}

idle-plain : (duties : List Duty) → (length duties == 0) ≡ true → AllByRecursion IsPlain duties
idle-plain [] h = tt
idle-plain (duty ∷ duties) h = absurd (grind (arith, common_steps))

-- ---- a lane draws

-- ---- how an item begins

taken-readied : (before : List Event) (s : Scheduled) (course : Course) → AllByRecursion (IsDrawn (lasts_of s)) before → AreUsed (lasts_of s)
    → AllByRecursion IsPlain s.duties → IsLastCourse (lasts_of s) course → AllPermitted (taken s course) → IsReadied before (taken s course)
taken-readied before s (Replies reply) earlier used plain last permitted =
    record { earlier = earlier; used = used; first = plain-first (lasts_of s) s.duties plain; permitted = permitted }
taken-readied before s (GoesOn duties) earlier used plain last permitted =
    record { earlier = earlier; used = used; first = first-append (lasts_of s) duties s.duties last plain; permitted = permitted }
taken-readied before s (Takes position entry next) earlier used plain last permitted = absurd last
taken-readied before s (Completes position entry) earlier used plain last permitted = absurd last
taken-readied before s (Ends answer) earlier used plain last permitted = absurd last
taken-readied before s (Answers reply duties) earlier used plain last permitted = record {
  earlier = earlier;
  used = used;
  first = plain-first (lasts_of s) (duties ++ s.duties) (each-append IsPlain duties s.duties last plain);
  permitted = permitted;
}
taken-readied before s (PutsOff reply asked) earlier used plain last permitted = absurd last
taken-readied before s (Replaces item reply) earlier used plain last permitted = absurd last

-- ---- up to the next turn

begun-readied : (before : List Event) (s : Scheduled) (item : Item) (items : List Item) → s.items ≡ item ∷ items → is_idle s ≡ true → IsReadied before s
    → IsReadied before (begun s item items)
begun-readied before s (Append lane shard replica bytes) items left idle h =
    let all = subst (AllByRecursion (IsItem s.config)) left h.permitted.items in
    let lasts = lasts_of s in
    let node : NodeId = record { 0 = storage_node s.config shard.0 replica.0 } in
    let within : lane < length s.draws = subst (λ (n : ℕ). lane < n) (sym h.permitted.lanes) all.0.0 in
    record {
      earlier = each-map (IsDrawn lasts) (IsDrawn (lasts_drawn lasts lane node bytes))
          (λ event old other e. drawn-longer lasts lane node bytes event.node other within (old other e)) before h.earlier;
      used = used-longer lasts lane node bytes within h.used;
      first = (
        record {
          draw = get_or s.draws lane 0;
          is_drawn = refl;
          newest = sym (get_or-set_same s.draws lane (get_or s.draws lane 0 + 1) 0 within);
          primary = get_or-set_same s.primaries lane (Some node) None (subst (λ (n : ℕ). lane < n) (sym h.permitted.kept) all.0.0);
          bytes_are = get_or-set_same s.records lane bytes [] (subst (λ (n : ℕ). lane < n) (sym h.permitted.recorded) all.0.0);
        },
        idle-plain s.duties idle,
      );
      permitted = begun-permitted s (Append lane shard replica bytes) items left h.permitted;
    }
begun-readied before s (AskItem lane) items left idle h =
    taken-readied before (entered s (AskItem lane) items) (asked (client_of lane) (last_number s.run s.draws lane) (get_or s.primaries lane None))
    h.earlier h.used (idle-plain s.duties idle)
    (asked-last (lasts_of s) (client_of lane) (last_number s.run s.draws lane) (get_or s.primaries lane None))
    (begun-permitted s (AskItem lane) items left h.permitted)
begun-readied before s (FaultItem lane f) items left idle h =
    let again = resubmitted (client_of lane) (last_number s.run s.draws lane) (get_or s.records lane []) (get_or s.primaries lane None) in
    taken-readied before (entered s (FaultItem lane f) items) (line_course s.config (scene_of s) again f)
    h.earlier h.used (idle-plain s.duties idle)
    (line-last (lasts_of s) s.config (scene_of s) again f (resubmitted-last (lasts_of s) lane (get_or s.primaries lane None) refl h.used))
    (begun-permitted s (FaultItem lane f) items left h.permitted)
begun-readied before s item items left idle h = record {
  earlier = h.earlier;
  used = h.used;
  first = (tt, idle-plain s.duties idle);
  permitted = begun-permitted s item items left h.permitted;
}

pub ready-readied : (before : List Event) (s : Scheduled) → IsBetween before s → IsReadied before (ready s)
ready-readied before s h =
    ready-keeps (IsReadied before) (passed-readied before) (begun-readied before) s
    (record { earlier = h.earlier; used = h.used; first = plain-first (lasts_of s) s.duties h.plain; permitted = h.permitted })

-- ---- the next turn

-- a turn submits nothing, or a lane's last append
abbrev pub Submits : Lasts → Turn → Type 0
Submits lasts turn = (entry : Entry) → submitted turn.input ≡ Some entry → IsLast lasts turn.node entry.client entry.number entry.bytes

no_input : (signal : Signal) (entry : Entry) → submitted (signal_input signal) ≡ Some entry → ⊥
no_input Restart entry e = cc
no_input Lead entry e = cc
no_input Tick entry e = cc
no_input Stop entry e = cc

call-last : (lasts : Lasts) (node : NodeId) (call : Call) (entry : Entry) → IsLastCall lasts node call
    → submitted (ACall call) ≡ Some entry → IsLast lasts node entry.client entry.number entry.bytes
call-last lasts node (Submit client number bytes) entry h e =
    let same : entry_of client number bytes ≡ entry = cc in
    subst (λ (x : Entry). IsLast lasts node x.client x.number x.bytes) same h
call-last lasts node (Ask client number) entry h e = cc
call-last lasts node (ReadCall client position) entry h e = cc
call-last lasts node (Request client value) entry h e = cc
call-last lasts node (Settled client value start) entry h e = cc

letter-submits : (lasts : Lasts) (letter : Waiting) → Submits lasts (delivered letter)
letter-submits lasts letter = λ entry e. absurd (cc)

delivery-submits : (s : Scheduled) (queue : List Waiting) (turn : Turn) → turn_in (delivery s queue) ≡ Some turn → Submits (lasts_of s) turn
delivery-submits s [] turn e = absurd (cc)
delivery-submits s (letter ∷ queue) turn e = subst (Submits (lasts_of s)) (some_is e) (letter-submits (lasts_of s) letter)

picked-submits : (s : Scheduled) (duties : List Duty) (number : ℕ) (afterwards : Afterwards) (letter : Option Waiting) (turn : Turn)
    → turn_in (delivery_of s duties number afterwards letter) ≡ Some turn → Submits (lasts_of s) turn
picked-submits s duties number afterwards None turn e = absurd (cc)
picked-submits s duties number afterwards (Some letter) turn e = subst (Submits (lasts_of s)) (some_is e) (letter-submits (lasts_of s) letter)

first-submits : (s : Scheduled) (duties : List Duty) (turn : Turn) → IsFirstLast (lasts_of s) duties
    → turn_in (first_step s duties) ≡ Some turn → Submits (lasts_of s) turn
first-submits s [] turn h e = absurd (cc)
first-submits s (Give signal first count ∷ duties) turn h e =
    subst (Submits (lasts_of s)) (some_is e) (λ entry is. absurd (no_input signal entry is))
first-submits s (DeliverAll ∷ duties) turn h e = delivery-submits s s.queue turn e
first-submits s (DeliverOne letter afterwards ∷ duties) turn h e = picked-submits s duties letter afterwards (slice_get s.queue letter) turn e
first-submits s (MakeCall node call awaited ∷ duties) turn h e =
    subst (Submits (lasts_of s)) (some_is e) (λ entry is. call-last (lasts_of s) node call entry h.0 is)

pub next-submits : (before : List Event) (s : Scheduled) (turn : Turn) → IsBetween before s → next_turn s ≡ Some turn → Submits (lasts_of (ready s)) turn
next-submits before s turn h e = first-submits (ready s) (ready s).duties turn (ready-readied before s h).first e

-- ---- an event

delivery-lasts : (s : Scheduled) (queue : List Waiting) → lasts_of (rest_in s (delivery s queue)) ≡ lasts_of s
delivery-lasts s [] = refl
delivery-lasts s (letter ∷ queue) = refl

delivery-duties : (s : Scheduled) (queue : List Waiting) → (rest_in s (delivery s queue)).duties ≡ s.duties
delivery-duties s [] = refl
delivery-duties s (letter ∷ queue) = refl

picked-lasts : (s : Scheduled) (duties : List Duty) (number : ℕ) (afterwards : Afterwards) (letter : Option Waiting)
    → lasts_of (rest_in s (delivery_of s duties number afterwards letter)) ≡ lasts_of s
picked-lasts s duties number afterwards None = refl
picked-lasts s duties number afterwards (Some letter) = refl

first-lasts : (s : Scheduled) (duties : List Duty) → lasts_of (rest_in s (first_step s duties)) ≡ lasts_of s
first-lasts s [] = refl
first-lasts s (Give signal first count ∷ duties) = refl
first-lasts s (DeliverAll ∷ duties) = delivery-lasts s s.queue
first-lasts s (DeliverOne letter afterwards ∷ duties) = picked-lasts s duties letter afterwards (slice_get s.queue letter)
first-lasts s (MakeCall node call awaited ∷ duties) = refl

picked-plain : (s : Scheduled) (duties : List Duty) (number : ℕ) (afterwards : Afterwards) (letter : Option Waiting) → AllByRecursion IsPlain duties
    → AllByRecursion IsPlain s.duties → AllByRecursion IsPlain (rest_in s (delivery_of s duties number afterwards letter)).duties
picked-plain s duties number afterwards None h all = all
picked-plain s duties number afterwards (Some letter) h all = h

first-plain : (s : Scheduled) (duties : List Duty) → s.duties ≡ duties → IsFirstLast (lasts_of s) duties
    → AllByRecursion IsPlain (rest_in s (first_step s duties)).duties
first-plain s [] e h = subst (AllByRecursion IsPlain) (sym e) tt
first-plain s (Give signal first count ∷ duties) e h = (tt, h.1)
first-plain s (DeliverAll ∷ duties) e h = subst (AllByRecursion IsPlain) (sym (delivery-duties s s.queue ∙ e)) (tt, h.1)
first-plain s (DeliverOne letter afterwards ∷ duties) e h =
    picked-plain s duties letter afterwards (slice_get s.queue letter) h.1 (subst (AllByRecursion IsPlain) (sym e) (tt, h.1))
first-plain s (MakeCall node call awaited ∷ duties) e h = h.1

-- no answer makes a submission due
abbrev pub IsPlainCourse : Course → Type 0
IsPlainCourse (Replies reply) = Unit {0}
IsPlainCourse (GoesOn duties) = AllByRecursion IsPlain duties
IsPlainCourse (Takes position entry next) = IsPlain next
IsPlainCourse (Completes position entry) = Unit {0}
IsPlainCourse (Ends last) = Unit {0}
IsPlainCourse (Answers reply duties) = AllByRecursion IsPlain duties
IsPlainCourse (PutsOff reply asked) = Unit {0}
IsPlainCourse (Replaces item reply) = Unit {0}

put_off-plain : (asked : Question) (reply : Reply) (late : Bool) → IsPlainCourse (cond late (PutsOff reply asked) (Replies reply))
put_off-plain asked reply true = tt
put_off-plain asked reply false = tt

requested-plain : (config : Shape) (orderer : ℕ) (client : Client) (value : Value) (more : Bool)
    → IsPlainCourse (cond more (GoesOn (request config orderer client value ∷ [])) (Replies NoLeader))
requested-plain config orderer client value true = (tt, tt)
requested-plain config orderer client value false = tt

read-plain : (config : Shape) (shard : Shard) (replica : Replica) (client : Client) (position : Position) (more : Bool)
    → IsPlainCourse (cond more (GoesOn (reading_at config shard.0 replica client position Last ∷ [])) (Replies (Elsewhere shard)))
read-plain config shard replica client position true = (tt, tt)
read-plain config shard replica client position false = tt

with_entry-plain : (config : Shape) (s : Subscription) (entry : Entry) (more : Bool)
    → IsPlainCourse (cond more (Takes s.position entry (following config (moved_on s entry))) (Completes s.position entry))
with_entry-plain config s entry true = tt
with_entry-plain config s entry false = tt

found-plain : (config : Shape) (s : Subscription) (entry : Entry) (taken : Bool) → IsPlainCourse (cond taken (with_entry config s entry) (Ends Nothing))
found-plain config s entry true = with_entry-plain config s entry (wants_more s)
found-plain config s entry false = tt

told-plain : (config : Shape) (shard : Shard) (s : Subscription) (more : Bool)
    → IsPlainCourse (cond more (GoesOn (following_on config shard.0 s ∷ [])) (Ends (Elsewhere shard)))
told-plain config shard s true = (tt, tt)
told-plain config shard s false = tt

pub course-plain : (config : Shape) (awaited : Awaited) (reply : Reply) → IsPlainCourse (course_of config awaited reply)
course-plain config (Storing primary client number) (Stored offset) =
    each-append IsPlain (settling config) (enquiry primary client number ∷ []) (settling-plain config) (tt, tt)
course-plain config (Requesting orderer client value) NotLeading = requested-plain config (orderer + 1) client value (nat_lt (orderer + 1) config.orderers)
course-plain config (Requesting orderer client value) Down = requested-plain config (orderer + 1) client value (nat_lt (orderer + 1) config.orderers)
course-plain config (Requesting orderer client value) (Taken slot) =
    each-append IsPlain (settling config) (confirmation config orderer client value slot ∷ []) (settling-plain config) (tt, tt)
course-plain config (Reading replica client position) (Elsewhere shard) = read-plain config shard replica client position (nat_lt shard.0 config.shards)
course-plain config (Streaming s) (Found position entry) = found-plain config s entry (is_taken s entry)
course-plain config (Streaming s) (Elsewhere shard) = told-plain config shard s (nat_lt shard.0 config.shards)
course-plain config (StreamingOn s) (Found position entry) = found-plain config s entry (is_taken s entry)
course-plain config (Storing primary client number) reply = tt
course-plain config (Requesting orderer client value) reply = tt
course-plain config (Reading replica client position) reply = tt
course-plain config (Streaming s) reply = tt
course-plain config (StreamingOn s) reply = tt
course-plain config Last reply = tt
course-plain config (Held asked) reply = put_off-plain asked reply (is_put_off reply)
course-plain config (Again item) reply = tt

held-plain : (config : Shape) (awaited : Awaited) (reply : Reply) → IsPlainCourse (held_course_of config awaited reply)
held-plain config (Storing primary client number) (Stored offset) = (tt, tt)
held-plain config (Requesting orderer client value) (Taken slot) = (tt, tt)
held-plain config (Storing primary client number) reply = course-plain config (Storing primary client number) reply
held-plain config (Requesting orderer client value) reply = course-plain config (Requesting orderer client value) reply
held-plain config (Reading replica client position) reply = course-plain config (Reading replica client position) reply
held-plain config (Streaming s) reply = course-plain config (Streaming s) reply
held-plain config (StreamingOn s) reply = course-plain config (StreamingOn s) reply
held-plain config Last reply = tt
held-plain config (Held asked) reply = course-plain config (Held asked) reply
held-plain config (Again item) reply = tt

in-plain : (config : Shape) (hold : Option (List PutOff)) (awaited : Awaited) (reply : Reply) → IsPlainCourse (course_in config hold awaited reply)
in-plain config None awaited reply = course-plain config awaited reply
in-plain config (Some put_off) awaited reply = held-plain config awaited reply

with-plain : (course : Course) (duties : List Duty) → IsPlainCourse course → AllByRecursion IsPlain duties → AllByRecursion IsPlain (duties_with (Some course) duties)
with-plain (Replies reply) duties h rest = rest
with-plain (GoesOn first) duties h rest = each-append IsPlain first duties h rest
with-plain (Takes position entry next) duties h rest = (h, rest)
with-plain (Completes position entry) duties h rest = rest
with-plain (Ends last) duties h rest = rest
with-plain (Answers reply first) duties h rest = each-append IsPlain first duties h rest
with-plain (PutsOff reply asked) duties h rest = rest
with-plain (Replaces item reply) duties h rest = rest

followed-plain : (config : Shape) (hold : Option (List PutOff)) (awaited : Option Awaited) (reply : Reply) (duties : List Duty) → AllByRecursion IsPlain duties
    → AllByRecursion IsPlain (duties_with (course_or_none config hold awaited reply) duties)
followed-plain config hold None reply duties rest = rest
followed-plain config hold (Some awaited) reply duties rest =
    with-plain (course_in config hold awaited reply) duties (in-plain config hold awaited reply) rest

noted-between : (before : List Event) (s : Scheduled) (outputs : List Sent) (reply : Reply) → AllByRecursion (IsDrawn (lasts_of s)) before
    → AreUsed (lasts_of s) → AllByRecursion IsPlain s.duties → AllPermitted (noted s outputs reply) → IsBetween before (noted s outputs reply)
noted-between before s outputs reply earlier used plain permitted =
    subst (λ (x : Scheduled). AllPermitted x → IsBetween before x) (sym (noted-parts s outputs reply))
    (λ all. record { earlier = earlier; used = used; plain = followed-plain s.config s.hold s.awaited reply s.duties plain; permitted = all })
    permitted

event-between : (before : List Event) (s : Scheduled) (event : Event) → IsBetween before s → next_turn s ≡ Some (turn_of event)
    → IsBetween (before ++ event ∷ []) (after_event s event)
event-between before s event h next =
    let now : IsReadied before (ready s) = ready-readied before s h in
    let here : IsDrawn (lasts_of (ready s)) event =
    (λ other e.
    let last = next-submits before s (turn_of event) h next other e in
    let newest : last.draw + 1 ≡ get_or (ready s).draws other.client.0 0 = last.newest in
    record { draw = last.draw; is_drawn = last.is_drawn; within = omega arith; last = λ same. (last.primary, last.bytes_are) }) in
    let lasts_are : lasts_of (given s) ≡ lasts_of (ready s) = first-lasts (ready s) (ready s).duties in
    let all : AllByRecursion (IsDrawn (lasts_of (ready s))) (before ++ event ∷ []) =
    each-append (IsDrawn (lasts_of (ready s))) before (event ∷ []) now.earlier (here, tt) in
    noted-between (before ++ event ∷ []) (given s) event.happened.outputs event.happened.reply
    (subst (λ (lasts : Lasts). AllByRecursion (IsDrawn lasts) (before ++ event ∷ [])) (sym lasts_are) all)
    (subst AreUsed (sym lasts_are) now.used)
    (first-plain (ready s) (ready s).duties refl now.first)
    (event-permitted before s event h.permitted)

pub events-between : (s : Scheduled) (events : List Event) → IsBetween [] s → Follow s events → IsBetween events (after_events s events)
events-between s events h follow = followed-along IsBetween event-between [] s events h follow

pub first-between : (config : Shape) (run : ℕ) (items : List Item) → AllPermitted (at_first config run items) → IsBetween [] (at_first config run items)
first-between config run items permitted = record {
  earlier = tt;
  used = λ lane primary there. let none = none-kept 64 lane in absurd (cc);
  plain = (tt, (tt, (tt, tt)));
  permitted = permitted;
}

-- ---- what the next event submits

number-run : (run draw : ℕ) → draw < 65536 → number_of_draw run draw / 2 ^ 32 ≡ run
number-run run draw few = div-mul-add run (2 ^ 32) draw (omega arith)

pub next-of-run : (before : List Event) (s : Scheduled) (turn : Turn) → IsBetween before s → next_turn s ≡ Some turn → IsOfRun (ready s).run turn.input
next-of-run before s turn h next = λ entry e.
    let last = next-submits before s turn h next entry e in
    let room : get_or (ready s).draws entry.client.0 0 + length (ready s).items ≤ 65536 = (ready-permitted s h.permitted).room entry.client.0 in
    let newest : last.draw + 1 ≡ get_or (ready s).draws entry.client.0 0 = last.newest in
    ap (λ (n : ℕ). n / 2 ^ 32) last.is_drawn ∙ number-run (ready s).run last.draw (omega arith)

agrees-one : (lasts : Lasts) (event earlier : Event) → Submits lasts (turn_of event) → IsDrawn lasts earlier → AgreesWith event earlier
agrees-one lasts event earlier next drawn = λ one other e f clients numbers.
    let last = next one e in
    let old = drawn other f in
    let first : one.number.0 ≡ number_of_draw lasts.run last.draw = last.is_drawn in
    let second : other.number.0 ≡ number_of_draw lasts.run old.draw = old.is_drawn in
    let same : one.number.0 ≡ other.number.0 = ap (λ (n : Number). n.0) numbers in
    let draws : old.draw ≡ last.draw = omega (arith, first, second, same) in
    let newest : last.draw + 1 ≡ get_or lasts.draws other.client.0 0 =
    last.newest ∙ ap (λ (c : Client). get_or lasts.draws c.0 0) clients in
    let both = old.last (ap (λ (n : ℕ). n + 1) draws ∙ newest) in
    let nodes : Some event.node ≡ Some earlier.node =
    sym last.primary ∙ ap (λ (c : Client). get_or lasts.primaries c.0 None) clients ∙ both.0 in
    (cc, sym last.bytes_are ∙ ap (λ (c : Client). get_or lasts.records c.0 []) clients ∙ both.1)

pub next-agrees : (before : List Event) (s : Scheduled) (event : Event) → IsBetween before s → next_turn s ≡ Some (turn_of event)
    → AllByRecursion (AgreesWith event) before
next-agrees before s event h next =
    each-map (IsDrawn (lasts_of (ready s))) (AgreesWith event)
    (λ earlier drawn. agrees-one (lasts_of (ready s)) event earlier (next-submits before s (turn_of event) h next) drawn)
    before (ready-readied before s h).earlier
