-- What an answer makes due is the cluster's, and what it makes is sound.
use Rattle.std.proofs.Common.{◌≡◌, ℕ, ◌+◌, Bool, true, false, cond, nat_lt, List, [], ◌∷◌, ◌++◌, length, Option, Some, None, refl, ap, sym, subst, ◌<◌, ◌^◌, ◌∙◌, arith}
use Rattle.std.specs.List.{AllByRecursion}
use Rattle.std.proofs.lemmas.Bool.{and_parts}
use borrow.Author.Tests.{ltb-true}
use Rattle.log_base.specs.ClusterShape.{InRange, Shape}
use Rattle.log_base.specs.declared.numbers.Client.{Client}
use Rattle.log_base.specs.declared.numbers.Position.{Position}
use Rattle.log_base.specs.declared.numbers.Replica.{Replica}
use Rattle.log_base.specs.declared.numbers.Shard.{Shard}
use Rattle.record_frame.specs.declared.values.Value.{Value}
use Rattle.record_frame.specs.declared.entries.Entry.{Entry}
use Rattle.reply_frame.specs.declared.replies.Reply.{Reply, Nothing, Stored, Found, Down, Elsewhere, Taken, NotLeading, NoLeader}
use Rattle.subscriber.specs.Following.{Following}
use Rattle.history_frame.specs.declared.events.Sent.{Sent}
use Rattle.schedule_model.specs.declared.courses.Course.{Course}
use Rattle.schedule_model.specs.declared.courses.Course.TheVariants.{Replies, GoesOn, Takes, Completes, Ends, Answers, PutsOff, Replaces}
use Rattle.schedule_model.specs.declared.duties.Awaited.{Awaited}
use Rattle.schedule_model.specs.declared.duties.Awaited.TheVariants.{Storing, Requesting, Reading, Streaming, StreamingOn, Last, Held, Again}
use Rattle.schedule_model.specs.declared.duties.Subscription.{Subscription}
use Rattle.schedule_model.specs.declared.duties.Duty.{Duty}
use Rattle.schedule_model.specs.declared.duties.PutOff.{PutOff}
use Rattle.schedule_model.specs.declared.duties.Question.{Question}
use Rattle.schedule_model.specs.Courses.{confirmation, course_in, course_of, enquiry, following, following_on, held_course_of, is_put_off, reading_at, request, with_entry}
use Rattle.schedule_model.specs.Duties.{opening, settling}
use Rattle.item_course.specs.Asking.{IsAwaited, IsPutOff, IsQuestion}
use Rattle.serial_schedule.specs.Keeping.{IsAwaitedOr, IsCourse, IsDuty, IsHold, IsMade}
use Rattle.schedule_model.specs.Streams.{is_taken, IsSingle, IsSubscription, moved_on, wants_more}
use Rattle.schedule_model.specs.Noting.{course_or_none, duties_with, hold_with, replies_with, stream_with}
use Rattle.schedule_model.specs.Scheduling.{Scheduled, Waiting, letters_from, noted, put_off_with}
use Rattle.schedule_model.proofs.Kept.{each-append, noted-parts}

pub opening-kept : (config : Shape) → InRange config → AllByRecursion (IsDuty config) (opening config)
opening-kept config range = (omega arith, (omega arith, (tt, tt)))

pub settling-kept : (config : Shape) → AllByRecursion (IsDuty config) (settling config)
settling-kept config = (omega arith, (tt, (omega arith, (tt, (omega arith, (tt, (omega arith, (tt, tt))))))))

-- ---- what an answer makes due is the cluster's

requested-is : (config : Shape) (orderer : ℕ) (client : Client) (value : Value) (more : Bool) → nat_lt orderer config.orderers ≡ more
    → IsCourse config (cond more (GoesOn (request config orderer client value ∷ [])) (Replies NoLeader))
requested-is config orderer client value true h = (ltb-true orderer config.orderers h, tt)
requested-is config orderer client value false h = tt

read-is : (config : Shape) (shard : Shard) (replica : Replica) (client : Client) (position : Position) (more : Bool)
    → IsCourse config (cond more (GoesOn (reading_at config shard.0 replica client position Last ∷ [])) (Replies (Elsewhere shard)))
read-is config shard replica client position true = (tt, tt)
read-is config shard replica client position false = tt

with_entry-is : (config : Shape) (s : Subscription) (entry : Entry) (more : Bool) → IsSubscription config s
    → IsCourse config (cond more (Takes s.position entry (following config (moved_on s entry))) (Completes s.position entry))
with_entry-is config s entry true h = h
with_entry-is config s entry false h = tt

found-is : (config : Shape) (s : Subscription) (entry : Entry) (taken : Bool) → IsSubscription config s
    → IsCourse config (cond taken (with_entry config s entry) (Ends Nothing))
found-is config s entry true h = with_entry-is config s entry (wants_more s) h
found-is config s entry false h = tt

told-is : (config : Shape) (shard : Shard) (s : Subscription) (more : Bool) → IsSubscription config s
    → IsCourse config (cond more (GoesOn (following_on config shard.0 s ∷ [])) (Ends (Elsewhere shard)))
told-is config shard s true h = (h, tt)
told-is config shard s false h = tt

put_off-is : (config : Shape) (asked : Question) (reply : Reply) (late : Bool) → IsQuestion config asked
    → IsCourse config (cond late (PutsOff reply asked) (Replies reply))
put_off-is config asked reply true h = h
put_off-is config asked reply false h = tt

course-is : (config : Shape) (awaited : Awaited) (reply : Reply) → IsAwaited config awaited → IsCourse config (course_of config awaited reply)
course-is config (Storing primary client number) (Stored offset) h = each-append (IsDuty config) (settling config) (enquiry primary client number ∷ []) (settling-kept config) (tt, tt)
course-is config (Requesting orderer client value) NotLeading h = requested-is config (orderer + 1) client value (nat_lt (orderer + 1) config.orderers) refl
course-is config (Requesting orderer client value) Down h = requested-is config (orderer + 1) client value (nat_lt (orderer + 1) config.orderers) refl
course-is config (Requesting orderer client value) (Taken slot) h =
    each-append (IsDuty config) (settling config) (confirmation config orderer client value slot ∷ []) (settling-kept config) (tt, tt)
course-is config (Reading replica client position) (Elsewhere shard) h = read-is config shard replica client position (nat_lt shard.0 config.shards)
course-is config (Streaming s) (Found position entry) h = found-is config s entry (is_taken s entry) h
course-is config (Streaming s) (Elsewhere shard) h = told-is config shard s (nat_lt shard.0 config.shards) h
course-is config (StreamingOn s) (Found position entry) h = found-is config s entry (is_taken s entry) h
course-is config (Storing primary client number) reply h = tt
course-is config (Requesting orderer client value) reply h = tt
course-is config (Reading replica client position) reply h = tt
course-is config (Streaming s) reply h = tt
course-is config (StreamingOn s) reply h = tt
course-is config Last reply h = tt
course-is config (Held asked) reply h = put_off-is config asked reply (is_put_off reply) h
course-is config (Again item) reply h = tt

held-is : (config : Shape) (awaited : Awaited) (reply : Reply) → IsAwaited config awaited → IsCourse config (held_course_of config awaited reply)
held-is config (Storing primary client number) (Stored offset) h = (tt, tt)
held-is config (Requesting orderer client value) (Taken slot) h = (h, tt)
held-is config (Storing primary client number) reply h = course-is config (Storing primary client number) reply h
held-is config (Requesting orderer client value) reply h = course-is config (Requesting orderer client value) reply h
held-is config (Reading replica client position) reply h = course-is config (Reading replica client position) reply h
held-is config (Streaming s) reply h = course-is config (Streaming s) reply h
held-is config (StreamingOn s) reply h = course-is config (StreamingOn s) reply h
held-is config Last reply h = tt
held-is config (Held asked) reply h = course-is config (Held asked) reply h
held-is config (Again item) reply h = tt

answer-is : (config : Shape) (hold : Option (List PutOff)) (awaited : Awaited) (reply : Reply) → IsAwaited config awaited
    → IsCourse config (course_in config hold awaited reply)
answer-is config None awaited reply h = course-is config awaited reply h
answer-is config (Some put_off) awaited reply h = held-is config awaited reply h

-- ---- what an answer makes is sound

with_entry-made : (config : Shape) (s : Subscription) (entry : Entry) (more : Bool) → s.position.0 < 2 ^ 31
    → IsMade (cond more (Takes s.position entry (following config (moved_on s entry))) (Completes s.position entry))
with_entry-made config s entry true h = h
with_entry-made config s entry false h = h

found-made : (config : Shape) (s : Subscription) (entry : Entry) (taken : Bool) → is_taken s entry ≡ taken
    → IsMade (cond taken (with_entry config s entry) (Ends Nothing))
found-made config s entry true h =
    let both = and_parts (nat_lt s.position.0 (2 ^ 31)) _ h in
    with_entry-made config s entry (wants_more s) (ltb-true s.position.0 (2 ^ 31) both.0)
found-made config s entry false h = tt

told-made : (config : Shape) (shard : Shard) (s : Subscription) (more : Bool) → IsMade (cond more (GoesOn (following_on config shard.0 s ∷ [])) (Ends (Elsewhere shard)))
told-made config shard s true = tt
told-made config shard s false = tt

requested-made : (config : Shape) (orderer : ℕ) (client : Client) (value : Value) (more : Bool)
    → IsMade (cond more (GoesOn (request config orderer client value ∷ [])) (Replies NoLeader))
requested-made config orderer client value true = tt
requested-made config orderer client value false = tt

read-made : (config : Shape) (shard : Shard) (replica : Replica) (client : Client) (position : Position) (more : Bool)
    → IsMade (cond more (GoesOn (reading_at config shard.0 replica client position Last ∷ [])) (Replies (Elsewhere shard)))
read-made config shard replica client position true = tt
read-made config shard replica client position false = tt

put_off-made : (asked : Question) (reply : Reply) (late : Bool) → IsSingle reply → IsMade (cond late (PutsOff reply asked) (Replies reply))
put_off-made asked reply true h = h
put_off-made asked reply false h = h

course-made : (config : Shape) (awaited : Awaited) (reply : Reply) → IsSingle reply → IsMade (course_of config awaited reply)
course-made config (Storing primary client number) (Stored offset) h = tt
course-made config (Requesting orderer client value) NotLeading h = requested-made config (orderer + 1) client value (nat_lt (orderer + 1) config.orderers)
course-made config (Requesting orderer client value) Down h = requested-made config (orderer + 1) client value (nat_lt (orderer + 1) config.orderers)
course-made config (Requesting orderer client value) (Taken slot) h = tt
course-made config (Reading replica client position) (Elsewhere shard) h = read-made config shard replica client position (nat_lt shard.0 config.shards)
course-made config (Streaming s) (Found position entry) h = found-made config s entry (is_taken s entry) refl
course-made config (Streaming s) (Elsewhere shard) h = told-made config shard s (nat_lt shard.0 config.shards)
course-made config (StreamingOn s) (Found position entry) h = found-made config s entry (is_taken s entry) refl
course-made config (Storing primary client number) reply h = h
course-made config (Requesting orderer client value) reply h = h
course-made config (Reading replica client position) reply h = h
course-made config (Streaming s) reply h = tt
course-made config (StreamingOn s) reply h = tt
course-made config Last reply h = h
course-made config (Held asked) reply h = put_off-made asked reply (is_put_off reply) h
course-made config (Again item) reply h = h

held-made : (config : Shape) (awaited : Awaited) (reply : Reply) → IsSingle reply → IsMade (held_course_of config awaited reply)
held-made config (Storing primary client number) (Stored offset) h = tt
held-made config (Requesting orderer client value) (Taken slot) h = tt
held-made config (Storing primary client number) reply h = course-made config (Storing primary client number) reply h
held-made config (Requesting orderer client value) reply h = course-made config (Requesting orderer client value) reply h
held-made config (Reading replica client position) reply h = course-made config (Reading replica client position) reply h
held-made config (Streaming s) reply h = course-made config (Streaming s) reply h
held-made config (StreamingOn s) reply h = course-made config (StreamingOn s) reply h
held-made config Last reply h = h
held-made config (Held asked) reply h = course-made config (Held asked) reply h
held-made config (Again item) reply h = h

answer-made : (config : Shape) (hold : Option (List PutOff)) (awaited : Awaited) (reply : Reply) → IsSingle reply → IsMade (course_in config hold awaited reply)
answer-made config None awaited reply h = course-made config awaited reply h
answer-made config (Some put_off) awaited reply h = held-made config awaited reply h

pub answers-made : (config : Shape) (hold : Option (List PutOff)) (awaited : Awaited) (reply : Reply) (course : Course) → IsSingle reply
    → course ≡ course_in config hold awaited reply → IsMade course
answers-made config hold awaited reply course h e = subst IsMade (sym e) (answer-made config hold awaited reply h)

pub taken-is : (config : Shape) (course : Course) (duties : List Duty) → IsCourse config course → AllByRecursion (IsDuty config) duties
    → AllByRecursion (IsDuty config) (duties_with (Some course) duties)
taken-is config (Replies reply) duties h rest = rest
taken-is config (GoesOn first) duties h rest = each-append (IsDuty config) first duties h rest
taken-is config (Takes position entry next) duties h rest = (h, rest)
taken-is config (Completes position entry) duties h rest = rest
taken-is config (Ends last) duties h rest = rest
taken-is config (Answers reply first) duties h rest = each-append (IsDuty config) first duties h rest
taken-is config (PutsOff reply asked) duties h rest = rest
taken-is config (Replaces item reply) duties h rest = rest

-- a question that is put off is the cluster's
put_off-hold : (config : Shape) (hold : Option (List PutOff)) (item : ℕ) (asked : Question) → IsQuestion config asked → IsHold config hold
    → IsHold config (put_off_with hold item asked)
put_off-hold config None item asked is h = tt
put_off-hold config (Some put_off) item asked is h =
    each-append (IsPutOff config) put_off (record { item = item; question = asked } ∷ []) h (is, tt)

pub taken-hold : (config : Shape) (course : Course) (items : ℕ) (hold : Option (List PutOff)) → IsCourse config course → IsHold config hold
    → IsHold config (hold_with (Some course) items hold)
taken-hold config (Replies reply) items hold h rest = rest
taken-hold config (GoesOn first) items hold h rest = rest
taken-hold config (Takes position entry next) items hold h rest = rest
taken-hold config (Completes position entry) items hold h rest = rest
taken-hold config (Ends last) items hold h rest = rest
taken-hold config (Answers reply first) items hold h rest = rest
taken-hold config (PutsOff reply asked) items hold h rest = put_off-hold config hold items asked h rest
taken-hold config (Replaces item reply) items hold h rest = rest

pub followed-hold : (config : Shape) (awaited : Option Awaited) (reply : Reply) (items : ℕ) (hold : Option (List PutOff)) → IsAwaitedOr config awaited
    → IsHold config hold → IsHold config (hold_with (course_or_none config hold awaited reply) items hold)
followed-hold config None reply items hold h rest = rest
followed-hold config (Some awaited) reply items hold h rest =
    taken-hold config (course_in config hold awaited reply) items hold (answer-is config hold awaited reply h) rest

pub followed-is : (config : Shape) (hold : Option (List PutOff)) (awaited : Option Awaited) (reply : Reply) (duties : List Duty) → IsAwaitedOr config awaited
    → AllByRecursion (IsDuty config) duties → AllByRecursion (IsDuty config) (duties_with (course_or_none config hold awaited reply) duties)
followed-is config hold None reply duties h rest = rest
followed-is config hold (Some awaited) reply duties h rest =
    taken-is config (course_in config hold awaited reply) duties (answer-is config hold awaited reply h) rest

pub noted-made : (s now : Scheduled) (outputs : List Sent) (reply : Reply) (queue : List Waiting) (duties : List Duty) (stream : Following)
    (hold : Option (List PutOff)) (replies : List Reply) → s ≡ now
    → queue ≡ s.queue ++ letters_from s.place 0 outputs
    → duties ≡ duties_with (course_or_none s.config s.hold s.awaited reply) s.duties
    → stream ≡ stream_with (course_or_none s.config s.hold s.awaited reply) s.stream
    → hold ≡ hold_with (course_or_none s.config s.hold s.awaited reply) (length s.replies) s.hold
    → replies ≡ replies_with (course_or_none s.config s.hold s.awaited reply) s.stream s.replies
    → record s { queue = queue; place = s.place + 1; awaited = None; duties = duties; stream = stream; hold = hold; replies = replies } ≡ noted now outputs reply
noted-made s now outputs reply queue duties stream hold replies same queue_is duties_is stream_is hold_is replies_is =
    rw (queue_is, duties_is, stream_is, hold_is, replies_is) (sym (noted-parts s outputs reply) ∙ ap (λ (x : Scheduled). noted x outputs reply) same)
