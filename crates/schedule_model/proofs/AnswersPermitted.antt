-- What an answer makes due is permitted.
use Rattle.std.proofs.Common.{◌≡◌, ℕ, ◌+◌, ◌-◌, ◌<◌, Bool, true, false, cond, nat_lt, List, [], ◌∷◌, Option, Some, None, refl}
use Rattle.std.specs.List.{AllByRecursion}
use borrow.Author.Tests.{ltb-true}
use Rattle.log_base.specs.ClusterShape.{Shape}
use Rattle.log_base.specs.declared.numbers.Client.{Client}
use Rattle.log_base.specs.declared.numbers.Position.{Position}
use Rattle.log_base.specs.declared.numbers.Replica.{Replica}
use Rattle.log_base.specs.declared.numbers.Shard.{Shard}
use Rattle.record_frame.specs.declared.values.Value.{Value}
use Rattle.record_frame.specs.declared.entries.Entry.{Entry}
use Rattle.reply_frame.specs.declared.replies.Reply.{Reply, Nothing, Stored, Found, Down, Elsewhere, Taken, NotLeading, NoLeader}
use Rattle.node_table.proofs.Roles.{storage_node-lt}
use Rattle.schedule_model.specs.declared.courses.Course.{Course}
use Rattle.schedule_model.specs.declared.courses.Course.TheVariants.{Replies, GoesOn, Takes, Completes, Ends, Answers, PutsOff, Replaces}
use Rattle.schedule_model.specs.declared.duties.Awaited.{Awaited}
use Rattle.schedule_model.specs.declared.duties.Awaited.TheVariants.{Storing, Requesting, Reading, Streaming, StreamingOn, Last, Held, Again}
use Rattle.schedule_model.specs.declared.duties.Subscription.{Subscription}
use Rattle.schedule_model.specs.declared.duties.Duty.{Duty}
use Rattle.schedule_model.specs.declared.duties.PutOff.{PutOff}
use Rattle.schedule_model.specs.declared.duties.Question.{Question}
use Rattle.schedule_model.specs.Courses.{asked, confirmation, course_in, course_of, enquiry, following, following_on, held_course_of, is_put_off, reading_at, request, with_entry}
use Rattle.schedule_model.specs.Streams.{is_taken, IsSubscription, moved_on, wants_more}
use Rattle.schedule_model.specs.Duties.{settling}
use Rattle.schedule_model.specs.Noting.{course_or_none, duties_with, hold_with}
use Rattle.schedule_model.specs.Scheduling.{taken}
use Rattle.schedule_model.proofs.Kept.{each-append}
use Rattle.schedule_model.proofs.Questions.{questions-with}
use Rattle.schedule_model.proofs.Permitted.{IsAnswerOf, IsAnswerOrNone, IsAskedAt, IsHeldAt, IsLateAt, IsPermitted, IsWish}
use Rattle.schedule_model.proofs.LinesPermitted.{IsCoursePermitted, orderer-is, settling-permitted}

pub requested-permitted : (config : Shape) (orderer : ℕ) (client : Client) (value : Value) (more : Bool) → nat_lt orderer config.orderers ≡ more → IsWish config value
    → IsCoursePermitted config (cond more (GoesOn (request config orderer client value ∷ [])) (Replies NoLeader))
requested-permitted config orderer client value true h wish =
    let below : orderer < config.orderers = ltb-true orderer config.orderers h in
    (((orderer-is config orderer below, wish), (below, wish)), tt)
requested-permitted config orderer client value false h wish = tt

pub read-permitted : (config : Shape) (shard : Shard) (replica : Replica) (client : Client) (position : Position) (more : Bool) → nat_lt shard.0 config.shards ≡ more
    → replica.0 < config.replicas
    → IsCoursePermitted config (cond more (GoesOn (reading_at config shard.0 replica client position Last ∷ [])) (Replies (Elsewhere shard)))
read-permitted config shard replica client position true h within =
    ((storage_node-lt config shard.0 replica.0 (ltb-true shard.0 config.shards h) within, tt), tt)
read-permitted config shard replica client position false h within = tt

pub with_entry-permitted : (config : Shape) (s : Subscription) (entry : Entry) (more : Bool) → IsSubscription config s
    → IsCoursePermitted config (cond more (Takes s.position entry (following config (moved_on s entry))) (Completes s.position entry))
with_entry-permitted config s entry true h = (storage_node-lt config s.shard.0 s.replica.0 h.0 h.1, h)
with_entry-permitted config s entry false h = tt

pub found-permitted : (config : Shape) (s : Subscription) (entry : Entry) (taken : Bool) → IsSubscription config s
    → IsCoursePermitted config (cond taken (with_entry config s entry) (Ends Nothing))
found-permitted config s entry true h = with_entry-permitted config s entry (wants_more s) h
found-permitted config s entry false h = tt

pub told-permitted : (config : Shape) (shard : Shard) (s : Subscription) (more : Bool) → nat_lt shard.0 config.shards ≡ more → IsSubscription config s
    → IsCoursePermitted config (cond more (GoesOn (following_on config shard.0 s ∷ [])) (Ends (Elsewhere shard)))
told-permitted config shard s true below h = ((storage_node-lt config shard.0 s.replica.0 (ltb-true shard.0 config.shards below) h.1, h), tt)
told-permitted config shard s false below h = tt

pub put_off-permitted : (config : Shape) (asked : Question) (reply : Reply) (late : Bool) → IsAskedAt config asked
    → IsCoursePermitted config (cond late (PutsOff reply asked) (Replies reply))
put_off-permitted config asked reply true h = h
put_off-permitted config asked reply false h = tt

pub course-permitted : (config : Shape) (awaited : Awaited) (reply : Reply) → IsAnswerOf config awaited → IsCoursePermitted config (course_of config awaited reply)
course-permitted config (Storing primary client number) (Stored offset) h =
    each-append (IsPermitted config) (settling config) (enquiry primary client number ∷ []) (settling-permitted config) ((h, tt), tt)
course-permitted config (Requesting orderer client value) NotLeading h =
    requested-permitted config (orderer + 1) client value (nat_lt (orderer + 1) config.orderers) refl h.1
course-permitted config (Requesting orderer client value) Down h =
    requested-permitted config (orderer + 1) client value (nat_lt (orderer + 1) config.orderers) refl h.1
course-permitted config (Requesting orderer client value) (Taken slot) h =
    each-append (IsPermitted config) (settling config) (confirmation config orderer client value slot ∷ []) (settling-permitted config)
    (((orderer-is config orderer h.0, h.1), tt), tt)
course-permitted config (Reading replica client position) (Elsewhere shard) h =
    read-permitted config shard replica client position (nat_lt shard.0 config.shards) refl h
course-permitted config (Streaming s) (Found position entry) h = found-permitted config s entry (is_taken s entry) h
course-permitted config (Streaming s) (Elsewhere shard) h = told-permitted config shard s (nat_lt shard.0 config.shards) refl h
course-permitted config (StreamingOn s) (Found position entry) h = found-permitted config s entry (is_taken s entry) h
course-permitted config (Storing primary client number) reply h = tt
course-permitted config (Requesting orderer client value) reply h = tt
course-permitted config (Reading replica client position) reply h = tt
course-permitted config (Streaming s) reply h = tt
course-permitted config (StreamingOn s) reply h = tt
course-permitted config Last reply h = tt
course-permitted config (Held asked) reply h = put_off-permitted config asked reply (is_put_off reply) h
course-permitted config (Again item) reply h = tt

pub held-permitted : (config : Shape) (awaited : Awaited) (reply : Reply) → IsAnswerOf config awaited → IsCoursePermitted config (held_course_of config awaited reply)
held-permitted config (Storing primary client number) (Stored offset) h = ((h, h), tt)
held-permitted config (Requesting orderer client value) (Taken slot) h = (((orderer-is config orderer h.0, h.1), h), tt)
held-permitted config (Storing primary client number) reply h = course-permitted config (Storing primary client number) reply h
held-permitted config (Requesting orderer client value) reply h = course-permitted config (Requesting orderer client value) reply h
held-permitted config (Reading replica client position) reply h = course-permitted config (Reading replica client position) reply h
held-permitted config (Streaming s) reply h = course-permitted config (Streaming s) reply h
held-permitted config (StreamingOn s) reply h = course-permitted config (StreamingOn s) reply h
held-permitted config Last reply h = tt
held-permitted config (Held asked) reply h = course-permitted config (Held asked) reply h
held-permitted config (Again item) reply h = tt

pub in-permitted : (config : Shape) (hold : Option (List PutOff)) (awaited : Awaited) (reply : Reply) → IsAnswerOf config awaited
    → IsCoursePermitted config (course_in config hold awaited reply)
in-permitted config None awaited reply h = course-permitted config awaited reply h
in-permitted config (Some put_off) awaited reply h = held-permitted config awaited reply h

pub with-permitted : (config : Shape) (course : Course) (duties : List Duty) → IsCoursePermitted config course → AllByRecursion (IsPermitted config) duties
    → AllByRecursion (IsPermitted config) (duties_with (Some course) duties)
with-permitted config (Replies reply) duties h rest = rest
with-permitted config (GoesOn first) duties h rest = each-append (IsPermitted config) first duties h rest
with-permitted config (Takes position entry next) duties h rest = (h, rest)
with-permitted config (Completes position entry) duties h rest = rest
with-permitted config (Ends last) duties h rest = rest
with-permitted config (Answers reply first) duties h rest = each-append (IsPermitted config) first duties h rest
with-permitted config (PutsOff reply asked) duties h rest = rest
with-permitted config (Replaces item reply) duties h rest = rest

pub questions-permitted : (config : Shape) (course : Course) (items : ℕ) (hold : Option (List PutOff)) → IsCoursePermitted config course → IsHeldAt config hold
    → IsHeldAt config (hold_with (Some course) items hold)
questions-permitted config (Replies reply) items hold h rest = rest
questions-permitted config (GoesOn first) items hold h rest = rest
questions-permitted config (Takes position entry next) items hold h rest = rest
questions-permitted config (Completes position entry) items hold h rest = rest
questions-permitted config (Ends last) items hold h rest = rest
questions-permitted config (Answers reply first) items hold h rest = rest
questions-permitted config (PutsOff reply asked) items hold h rest = questions-with (IsLateAt config) hold items asked h rest
questions-permitted config (Replaces item reply) items hold h rest = rest

pub followed-questions : (config : Shape) (awaited : Option Awaited) (reply : Reply) (items : ℕ) (hold : Option (List PutOff)) → IsAnswerOrNone config awaited
    → IsHeldAt config hold → IsHeldAt config (hold_with (course_or_none config hold awaited reply) items hold)
followed-questions config None reply items hold h rest = rest
followed-questions config (Some awaited) reply items hold h rest =
    questions-permitted config (course_in config hold awaited reply) items hold (in-permitted config hold awaited reply h) rest

pub followed-permitted : (config : Shape) (hold : Option (List PutOff)) (awaited : Option Awaited) (reply : Reply) (duties : List Duty) → IsAnswerOrNone config awaited
    → AllByRecursion (IsPermitted config) duties → AllByRecursion (IsPermitted config) (duties_with (course_or_none config hold awaited reply) duties)
followed-permitted config hold None reply duties h rest = rest
followed-permitted config hold (Some awaited) reply duties h rest =
    with-permitted config (course_in config hold awaited reply) duties (in-permitted config hold awaited reply h) rest
