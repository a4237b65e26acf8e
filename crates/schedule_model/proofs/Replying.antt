-- What the replies of a run are made of: what the nodes answered, streams of entries that they found, that no orderer leads, or that
-- nothing is kept.
use Rattle.std.proofs.Common.{◌≡◌, ◌==◌, ◌+◌, ◌≤◌, ◌<◌, ◌^◌, ℕ, suc, Bool, true, false, cond, nat_lt, List, [], ◌∷◌, ◌++◌, length, map, get_or, slice_get, Option, Some, None, refl, ap, sym, subst, ◌∙◌, length-append, arith}
use Rattle.std.specs.List.{AllByRecursion, flat_map}
use Rattle.std.proofs.lemmas.Bool.{and_parts, eqb-true, leb-true, ltb-false}
use Rattle.std.proofs.lemmas.List.Concat.{flat_map-append}
use borrow.Author.Tests.{ltb-true}
use Rattle.log_base.specs.ClusterShape.{Shape}
use Rattle.log_base.specs.declared.numbers.Client.{Client}
use Rattle.log_base.specs.declared.numbers.NodeId.{NodeId}
use Rattle.log_base.specs.declared.numbers.Number.{Number}
use Rattle.log_base.specs.declared.numbers.Position.{Position}
use Rattle.log_base.specs.declared.numbers.Replica.{Replica}
use Rattle.log_base.specs.declared.numbers.Shard.{Shard}
use Rattle.record_frame.specs.declared.entries.Entry.{Entry}
use Rattle.record_frame.specs.declared.values.Value.{Value}
use Rattle.fault_script.specs.declared.fault.Fault.{Fault}
use Rattle.fault_script.specs.declared.fault.Fault.TheVariants as fault
use Rattle.command_frame.specs.declared.items.Item.{Item}
use Rattle.command_frame.specs.declared.items.Item.TheVariants.{Append, Read, Subscribe, Trim, Add, Finalise, Ask as AskItem, Fault as FaultItem}
use Rattle.command_frame.specs.Items.{IsItem}
use Rattle.fault_script.specs.Lines.{IsFault}
use Rattle.reply_frame.specs.declared.replies.Reply.{Reply, Nothing, Stored, Found, Down, Elsewhere, Taken, NotLeading, NoLeader, NoLetter, NothingKept, Done}
use Rattle.reply_frame.specs.Replies.{IsNodeAnswer, entry_bytes}
use Rattle.history_frame.specs.declared.events.Event.{Event}
use Rattle.history_frame.specs.declared.events.Sent.{Sent}
use Rattle.subscriber.specs.Following.{Following, after_offer, next_of}
use Rattle.schedule_model.specs.declared.courses.Course.{Course}
use Rattle.schedule_model.specs.declared.courses.Course.TheVariants.{Replies, GoesOn, Takes, Completes, Ends, Answers, PutsOff, Replaces}
use Rattle.schedule_model.specs.declared.duties.Awaited.{Awaited}
use Rattle.schedule_model.specs.declared.duties.Awaited.TheVariants.{Storing, Requesting, Reading, Streaming, StreamingOn, Last, Held, Again}
use Rattle.schedule_model.specs.declared.duties.Subscription.{Subscription}
use Rattle.schedule_model.specs.declared.duties.Afterwards.{Afterwards}
use Rattle.schedule_model.specs.declared.duties.Afterwards.TheVariants.{TakenOut, LeftIn}
use Rattle.schedule_model.specs.declared.duties.Duty.{Duty}
use Rattle.schedule_model.specs.declared.duties.PutOff.{PutOff}
use Rattle.schedule_model.specs.declared.duties.Question.{Question}
use Rattle.schedule_model.specs.declared.duties.Question.TheVariants as question
use Rattle.schedule_model.specs.declared.duties.Duty.TheVariants.{Give, DeliverAll, DeliverOne, MakeCall}
use Rattle.schedule_model.specs.Courses.{Scene, asked, asked_again, asked_anew, asked_last, beginning, client_of, confirmation, course_in, course_of, enquiry, following, following_on, held_course_of, is_put_off, last_number, line_course, reading_at, request, resubmitted, with_entry}
use Rattle.schedule_model.specs.Duties.{settling}
use Rattle.schedule_model.specs.Driven.{after_event, after_events, replies_of}
use Rattle.schedule_model.specs.Scheduling.{Scheduled, Waiting, answered, at_first, begins, begun, delivery, delivery_of, entered, first_step, given, handed, is_idle, joined, passed, ready, rest_in, scene_of, stream_before, taken}
use Rattle.command_frame.specs.Streams.{room_of_stream}
use Rattle.schedule_model.specs.Streams.{is_taken, moved_on, stream_of, wants_more}
use Rattle.schedule_model.proofs.Along.{ready-keeps}
use Rattle.schedule_model.proofs.Counted.{awaited_in, beginning-count, calls_in, calls_in-append, course_count, course_in-count, due-calls, step_in}
use Rattle.schedule_model.proofs.Kept.{each-append, each-due, each-set}

-- an entry that was found
pub record WasFound (P : Reply → Type 0) (entry : Entry) : Type 0 where
  pub position : Position
  pub good : P (Found position entry)

-- what a stream holds: entries that were found, so few of them that the reply has room
pub record IsStream (P : Reply → Type 0) (stream : Following) : Type 0 where
  pub each : AllByRecursion (WasFound P) stream.delivered
  pub from : stream.from < 2 ^ 64
  pub few : length stream.delivered ≤ 65535
  pub room : length (flat_map entry_bytes stream.delivered) ≤ room_of_stream

-- the same of a subscription under way, with what it may take yet
pub record IsUnderWay (P : Reply → Type 0) (stream : Following) (s : Subscription) : Type 0 where
  pub each : AllByRecursion (WasFound P) stream.delivered
  pub from : stream.from < 2 ^ 64
  pub few : length stream.delivered + s.count ≤ 4096
  pub room : length (flat_map entry_bytes stream.delivered) + s.room ≤ room_of_stream

abbrev pub IsNotFound : Reply → Type 0
IsNotFound (Found position entry) = ⊥
IsNotFound reply = Unit {0}

abbrev pub IsAwaitedWith : (Reply → Type 0) → Following → Awaited → Type 0
IsAwaitedWith P stream (Streaming s) = IsUnderWay P stream s
IsAwaitedWith P stream (StreamingOn s) = IsUnderWay P stream s
IsAwaitedWith P stream awaited = Unit {0}

abbrev pub IsAwaitedOrNone : (Reply → Type 0) → Following → Option Awaited → Type 0
IsAwaitedOrNone P stream None = Unit {0}
IsAwaitedOrNone P stream (Some awaited) = IsAwaitedWith P stream awaited

abbrev pub IsDutyWith : (Reply → Type 0) → Following → Duty → Type 0
IsDutyWith P stream (Give signal first count) = Unit {0}
IsDutyWith P stream DeliverAll = Unit {0}
IsDutyWith P stream (DeliverOne letter afterwards) = Unit {0}
IsDutyWith P stream (MakeCall node call awaited) = IsAwaitedWith P stream awaited

-- ---- an entry more

-- the entry is the next, or it is dropped
offered : (P : Reply → Type 0) (stream : Following) (s : Subscription) (entry : Entry) (next : Bool) → WasFound P entry → length (entry_bytes entry) ≤ s.room
    → 1 < s.count → IsUnderWay P stream s
    → IsUnderWay P (cond next (record stream { delivered = stream.delivered ++ entry ∷ [] }) stream) (moved_on s entry)
offered P stream s entry true found fits more h =
    let longer = length-append stream.delivered (entry ∷ []) in
    let all = subst (λ (l : List ℕ). length l ≡ length (flat_map entry_bytes stream.delivered) + length (entry_bytes entry ++ []))
    (sym (flat_map-append entry_bytes stream.delivered (entry ∷ []))) (length-append (flat_map entry_bytes stream.delivered) (entry_bytes entry ++ [])) in
    let none : length (entry_bytes entry ++ []) ≡ length (entry_bytes entry) + 0 = length-append (entry_bytes entry) [] in
    let few : length stream.delivered + s.count ≤ 4096 = h.few in
    let room : length (flat_map entry_bytes stream.delivered) + s.room ≤ room_of_stream = h.room in
    record {
      each = each-append (WasFound P) stream.delivered (entry ∷ []) h.each (found, tt);
      from = h.from;
      few = omega arith;
      room = omega arith;
    }
offered P stream s entry false found fits more h =
    let few : length stream.delivered + s.count ≤ 4096 = h.few in
    let room : length (flat_map entry_bytes stream.delivered) + s.room ≤ room_of_stream = h.room in
    record { each = h.each; from = h.from; few = omega arith; room = omega arith }

-- the last that is wanted
filled : (P : Reply → Type 0) (stream : Following) (s : Subscription) (entry : Entry) (next : Bool) → WasFound P entry → length (entry_bytes entry) ≤ s.room
    → IsUnderWay P stream s → IsStream P (cond next (record stream { delivered = stream.delivered ++ entry ∷ [] }) stream)
filled P stream s entry true found fits h =
    let longer = length-append stream.delivered (entry ∷ []) in
    let all = subst (λ (l : List ℕ). length l ≡ length (flat_map entry_bytes stream.delivered) + length (entry_bytes entry ++ []))
    (sym (flat_map-append entry_bytes stream.delivered (entry ∷ []))) (length-append (flat_map entry_bytes stream.delivered) (entry_bytes entry ++ [])) in
    let none : length (entry_bytes entry ++ []) ≡ length (entry_bytes entry) + 0 = length-append (entry_bytes entry) [] in
    let few : length stream.delivered + s.count ≤ 4096 = h.few in
    let room : length (flat_map entry_bytes stream.delivered) + s.room ≤ room_of_stream = h.room in
    record {
      each = each-append (WasFound P) stream.delivered (entry ∷ []) h.each (found, tt);
      from = h.from;
      few = omega arith;
      room = omega arith;
    }
filled P stream s entry false found fits h =
    let few : length stream.delivered + s.count ≤ 4096 = h.few in
    let room : length (flat_map entry_bytes stream.delivered) + s.room ≤ room_of_stream = h.room in
    record { each = h.each; from = h.from; few = omega arith; room = omega arith }

-- the stream as it is
as_it_is : (P : Reply → Type 0) (stream : Following) (s : Subscription) → IsUnderWay P stream s → IsStream P stream
as_it_is P stream s h =
    let few : length stream.delivered + s.count ≤ 4096 = h.few in
    let room : length (flat_map entry_bytes stream.delivered) + s.room ≤ room_of_stream = h.room in
    record { each = h.each; from = h.from; few = omega arith; room = omega arith }

-- an answer that is no step of an item
no_step : (P : Reply → Type 0) (stream : Following) (awaited : Awaited) → step_in awaited ≡ 0 → IsAwaitedWith P stream awaited
no_step P stream (Storing primary client number) none = tt
no_step P stream (Requesting orderer client value) none = tt
no_step P stream (Reading replica client position) none = tt
no_step P stream (Streaming s) none = absurd (omega arith)
no_step P stream (StreamingOn s) none = absurd (omega arith)
no_step P stream Last none = tt
no_step P stream (Held asked) none = tt
no_step P stream (Again item) none = tt

-- duties without a call that is a step of an item
no_calls : (P : Reply → Type 0) (stream : Following) (duties : List Duty) → calls_in duties ≡ 0 → AllByRecursion (IsDutyWith P stream) duties
no_calls P stream [] none = tt
no_calls P stream (Give signal first count ∷ duties) none = (tt, no_calls P stream duties (omega arith))
no_calls P stream (DeliverAll ∷ duties) none = (tt, no_calls P stream duties (omega arith))
no_calls P stream (DeliverOne letter afterwards ∷ duties) none = (tt, no_calls P stream duties (omega arith))
no_calls P stream (MakeCall node call awaited ∷ duties) none =
    let step : step_in awaited ≡ 0 = omega arith in (no_step P stream awaited step, no_calls P stream duties (omega arith))

idle_calls : (duties : List Duty) → (length duties == 0) ≡ true → calls_in duties ≡ 0
idle_calls [] idle = refl
idle_calls (duty ∷ duties) idle = let none = eqb-true (suc (length duties)) 0 idle in absurd (omega arith)

module _ (P : Reply → Type 0) (no_leader : P NoLeader) (nothing_kept : P NothingKept) (done : P Done) (no_letter : (waiting : ℕ) → waiting ≤ 1000000 → P (NoLetter waiting))
    (nothing : P Nothing)
    (streams : (stream : Following) (last : Reply) → IsStream P stream → P last → IsNodeAnswer last → IsNotFound last → P (stream_of stream last)) where
  abbrev IsGood : Following → Course → Type 0
  IsGood stream (Replies reply) = P reply
  IsGood stream (GoesOn duties) = AllByRecursion (IsDutyWith P stream) duties
  IsGood stream (Takes position entry next) = IsDutyWith P (after_offer stream position.0 entry) next
  IsGood stream (Completes position entry) = IsStream P (after_offer stream position.0 entry)
  IsGood stream (Ends last) = IsStream P stream × P last × IsNodeAnswer last × IsNotFound last
  IsGood stream (Answers reply duties) = P reply × AllByRecursion (IsDutyWith P stream) duties
  IsGood stream (PutsOff reply asked) = P reply
  IsGood stream (Replaces item reply) = P reply

  requested-good : (config : Shape) (stream : Following) (orderer : ℕ) (client : Client) (value : Value) (more : Bool)
      → IsGood stream (cond more (GoesOn (request config orderer client value ∷ [])) (Replies NoLeader))
  requested-good config stream orderer client value true = (tt, tt)
  requested-good config stream orderer client value false = no_leader

  read-good : (config : Shape) (stream : Following) (shard : Shard) (replica : Replica) (client : Client) (position : Position) (more : Bool) → P (Elsewhere shard)
      → IsGood stream (cond more (GoesOn (reading_at config shard.0 replica client position Last ∷ [])) (Replies (Elsewhere shard)))
  read-good config stream shard replica client position true h = (tt, tt)
  read-good config stream shard replica client position false h = h

  with_entry-good : (config : Shape) (stream : Following) (s : Subscription) (entry : Entry) (more : Bool) → wants_more s ≡ more → is_taken s entry ≡ true
      → WasFound P entry → IsUnderWay P stream s
      → IsGood stream (cond more (Takes s.position entry (following config (moved_on s entry))) (Completes s.position entry))
  with_entry-good config stream s entry true wants takes found h =
      let both = and_parts (nat_lt s.position.0 (2 ^ 31)) _ takes in
      offered P stream s entry (s.position.0 == next_of stream) found (leb-true (length (entry_bytes entry)) s.room both.1) (ltb-true 1 s.count wants) h
  with_entry-good config stream s entry false wants takes found h =
      let both = and_parts (nat_lt s.position.0 (2 ^ 31)) _ takes in
      filled P stream s entry (s.position.0 == next_of stream) found (leb-true (length (entry_bytes entry)) s.room both.1) h

  found-good : (config : Shape) (stream : Following) (s : Subscription) (entry : Entry) (takes : Bool) → is_taken s entry ≡ takes
      → WasFound P entry → IsUnderWay P stream s → IsGood stream (cond takes (with_entry config s entry) (Ends Nothing))
  found-good config stream s entry true takes found h = with_entry-good config stream s entry (wants_more s) refl takes found h
  found-good config stream s entry false takes found h = (as_it_is P stream s h, nothing, tt, tt)

  told-good : (config : Shape) (stream : Following) (shard : Shard) (s : Subscription) (more : Bool) → P (Elsewhere shard) → IsUnderWay P stream s
      → IsGood stream (cond more (GoesOn (following_on config shard.0 s ∷ [])) (Ends (Elsewhere shard)))
  told-good config stream shard s true h under = (under, tt)
  told-good config stream shard s false h under = (as_it_is P stream s under, h, tt, tt)

  settling-good : (stream : Following) (config : Shape) → AllByRecursion (IsDutyWith P stream) (settling config)
  settling-good stream config = (tt, (tt, (tt, (tt, (tt, (tt, (tt, (tt, tt))))))))

  put_off-good : (stream : Following) (asked : Question) (reply : Reply) (late : Bool) → P reply → IsGood stream (cond late (PutsOff reply asked) (Replies reply))
  put_off-good stream asked reply true h = h
  put_off-good stream asked reply false h = h

  course-good : (config : Shape) (stream : Following) (awaited : Awaited) (reply : Reply) → P reply → IsNodeAnswer reply → IsAwaitedWith P stream awaited
      → IsGood stream (course_of config awaited reply)
  course-good config stream (Storing primary client number) (Stored offset) h answer under =
      each-append (IsDutyWith P stream) (settling config) (enquiry primary client number ∷ []) (settling-good stream config) (tt, tt)
  course-good config stream (Requesting orderer client value) NotLeading h answer under = requested-good config stream (orderer + 1) client value (nat_lt (orderer + 1) config.orderers)
  course-good config stream (Requesting orderer client value) Down h answer under = requested-good config stream (orderer + 1) client value (nat_lt (orderer + 1) config.orderers)
  course-good config stream (Requesting orderer client value) (Taken slot) h answer under =
      each-append (IsDutyWith P stream) (settling config) (confirmation config orderer client value slot ∷ []) (settling-good stream config) (tt, tt)
  course-good config stream (Reading replica client position) (Elsewhere shard) h answer under =
      read-good config stream shard replica client position (nat_lt shard.0 config.shards) h
  course-good config stream (Streaming s) (Found position entry) h answer under =
      found-good config stream s entry (is_taken s entry) refl (record { position = position; good = h }) under
  course-good config stream (Streaming s) (Elsewhere shard) h answer under = told-good config stream shard s (nat_lt shard.0 config.shards) h under
  course-good config stream (StreamingOn s) (Found position entry) h answer under =
      found-good config stream s entry (is_taken s entry) refl (record { position = position; good = h }) under
  course-good config stream (Storing primary client number) reply h answer under = h
  course-good config stream (Requesting orderer client value) reply h answer under = h
  course-good config stream (Reading replica client position) reply h answer under = h
  course-good config stream (Streaming s) reply h answer under = (as_it_is P stream s under, h, answer, tt)
  course-good config stream (StreamingOn s) reply h answer under = (as_it_is P stream s under, h, answer, tt)
  course-good config stream Last reply h answer under = h
  course-good config stream (Held asked) reply h answer under = put_off-good stream asked reply (is_put_off reply) h
  course-good config stream (Again item) reply h answer under = h

  held-good : (config : Shape) (stream : Following) (awaited : Awaited) (reply : Reply) → P reply → IsNodeAnswer reply → IsAwaitedWith P stream awaited
      → IsGood stream (held_course_of config awaited reply)
  held-good config stream (Storing primary client number) (Stored offset) h answer under = (tt, tt)
  held-good config stream (Requesting orderer client value) (Taken slot) h answer under = (tt, tt)
  held-good config stream (Storing primary client number) reply h answer under = course-good config stream (Storing primary client number) reply h answer under
  held-good config stream (Requesting orderer client value) reply h answer under = course-good config stream (Requesting orderer client value) reply h answer under
  held-good config stream (Reading replica client position) reply h answer under = course-good config stream (Reading replica client position) reply h answer under
  held-good config stream (Streaming s) reply h answer under = course-good config stream (Streaming s) reply h answer under
  held-good config stream (StreamingOn s) reply h answer under = course-good config stream (StreamingOn s) reply h answer under
  held-good config stream Last reply h answer under = h
  held-good config stream (Held asked) reply h answer under = course-good config stream (Held asked) reply h answer under
  held-good config stream (Again item) reply h answer under = h

  in-good : (config : Shape) (stream : Following) (hold : Option (List PutOff)) (awaited : Awaited) (reply : Reply) → P reply → IsNodeAnswer reply
      → IsAwaitedWith P stream awaited → IsGood stream (course_in config hold awaited reply)
  in-good config stream None awaited reply h answer under = course-good config stream awaited reply h answer under
  in-good config stream (Some put_off) awaited reply h answer under = held-good config stream awaited reply h answer under

  asked-good : (stream : Following) (client : Client) (number : Number) (primary : Option NodeId) → IsGood stream (asked client number primary)
  asked-good stream client number None = nothing_kept
  asked-good stream client number (Some primary) = (tt, tt)

  anew-good : (stream : Following) (config : Shape) (late : PutOff) (asked : Question) → IsDutyWith P stream (asked_last config asked (Again late.item))
  anew-good stream config late (question.Append primary client number) = tt
  anew-good stream config late (question.Wish orderer client value start) = tt

  all-anew-good : (stream : Following) (config : Shape) (put_off : List PutOff) → AllByRecursion (IsDutyWith P stream) (map (asked_anew config) put_off)
  all-anew-good stream config [] = tt
  all-anew-good stream config (late ∷ put_off) = (anew-good stream config late late.question, all-anew-good stream config put_off)

  resubmitted-good : (stream : Following) (client : Client) (number : Number) (bytes : List ℕ) (primary : Option NodeId)
      → IsGood stream (resubmitted client number bytes primary)
  resubmitted-good stream client number bytes None = nothing_kept
  resubmitted-good stream client number bytes (Some primary) = (tt, tt)

  -- there are fewer letters than the number that no letter has
  with_letter-good : (stream : Following) (course : Course) (waiting letter : ℕ) (there : Bool) → nat_lt letter waiting ≡ there → letter ≤ 1000000
      → IsGood stream course → IsGood stream (cond there course (Replies (NoLetter waiting)))
  with_letter-good stream course waiting letter true is small h = h
  with_letter-good stream course waiting letter false is small h =
      let few : waiting ≤ letter = ltb-false letter waiting is in no_letter waiting (omega (arith, few, small))

  line-good : (config : Shape) (stream : Following) (scene : Scene) (again : Course) (f : Fault) → IsFault config f → IsGood stream again
      → IsGood stream (line_course config scene again f)
  line-good config stream scene again fault.Hold is h = done
  line-good config stream scene again fault.Settle is h = (done, each-append (IsDutyWith P stream) (settling config) (asked_again config scene.questions) (settling-good stream config) (all-anew-good stream config scene.questions))
  line-good config stream scene again (fault.Tick node) is h = (done, (tt, tt))
  line-good config stream scene again (fault.Deliver letter) is h = with_letter-good stream (Answers Done (DeliverOne letter TakenOut ∷ [])) scene.waiting letter (nat_lt letter scene.waiting) refl is (done, (tt, tt))
  line-good config stream scene again (fault.Drop letter) is h = with_letter-good stream (Replies Done) scene.waiting letter (nat_lt letter scene.waiting) refl is done
  line-good config stream scene again (fault.Again letter) is h = with_letter-good stream (Answers Done (DeliverOne letter LeftIn ∷ [])) scene.waiting letter (nat_lt letter scene.waiting) refl is (done, (tt, tt))
  line-good config stream scene again (fault.Stop node) is h = (done, (tt, tt))
  line-good config stream scene again (fault.StopAfter node after keep) is h = done
  line-good config stream scene again (fault.Lose node after) is h = done
  line-good config stream scene again (fault.Restart node) is h = (done, (tt, tt))
  line-good config stream scene again (fault.Lead orderer) is h = (done, (tt, tt))
  line-good config stream scene again fault.Resubmit is h = h

  beginning-good : (config : Shape) (run : ℕ) (draws : List ℕ) (primaries : List (Option NodeId)) (scene : Scene) (stream : Following) (item : Item) → IsItem config item
      → IsGood (stream_before item stream) (beginning config run draws primaries scene item)
  beginning-good config run draws primaries scene stream (Append lane shard replica bytes) is = (tt, tt)
  beginning-good config run draws primaries scene stream (Read lane shard replica position) is = (tt, tt)
  beginning-good config run draws primaries scene stream (Subscribe lane shard replica from count) is =
      (record { each = tt; from = is.3; few = let most : count ≤ 4096 = is.5 in omega arith; room = omega arith }, tt)
  beginning-good config run draws primaries scene stream (Trim lane position) is = (tt, tt)
  beginning-good config run draws primaries scene stream (Add lane shard) is = (tt, tt)
  beginning-good config run draws primaries scene stream (Finalise lane shard) is = (tt, tt)
  beginning-good config run draws primaries scene stream (AskItem lane) is = asked-good stream (client_of lane) (last_number run draws lane) (get_or primaries lane None)
  beginning-good config run draws primaries scene stream (FaultItem lane f) is =
      line-good config stream scene (resubmitted (client_of lane) (last_number run draws lane) (get_or scene.records lane []) (get_or primaries lane None)) f is.1
      (resubmitted-good stream (client_of lane) (last_number run draws lane) (get_or scene.records lane []) (get_or primaries lane None))

  -- ---- a schedule

  -- between events, and once a turn is given
  record AreGood (s : Scheduled) : Type 0 where
    items : AllByRecursion (IsItem s.config) s.items
    replies : AllByRecursion P s.replies
    duties : AllByRecursion (IsDutyWith P s.stream) s.duties
    none : s.awaited ≡ None
    one : calls_in s.duties ≤ 1

  record AreGiven (s : Scheduled) : Type 0 where
    items : AllByRecursion (IsItem s.config) s.items
    replies : AllByRecursion P s.replies
    duties : AllByRecursion (IsDutyWith P s.stream) s.duties
    awaited : IsAwaitedOrNone P s.stream s.awaited
    one : calls_in s.duties + awaited_in s.awaited ≤ 1

  taken-good : (s : Scheduled) (course : Course) → AllByRecursion (IsItem s.config) s.items → AllByRecursion P s.replies → calls_in s.duties ≡ 0 → s.awaited ≡ None
      → course_count course ≡ 1 → IsGood s.stream course → AreGood (taken s course)
  taken-good s (Replies reply) items replies idle none one good =
      record { items = items; replies = each-append P s.replies (reply ∷ []) replies (good, tt); duties = no_calls P s.stream s.duties idle; none = none; one = omega arith }
  taken-good s (GoesOn duties) items replies idle none one good =
      let more = calls_in-append duties s.duties in
      record {
        items = items;
        replies = replies;
        duties = each-append (IsDutyWith P s.stream) duties s.duties good (no_calls P s.stream s.duties idle);
        none = none;
        one = omega arith;
      }
  taken-good s (Takes position entry next) items replies idle none one good = record {
    items = items;
    replies = replies;
    duties = (good, no_calls P (after_offer s.stream position.0 entry) s.duties idle);
    none = none;
    one = omega arith;
  }
  taken-good s (Completes position entry) items replies idle none one good = record {
    items = items;
    replies = each-append P s.replies (stream_of (after_offer s.stream position.0 entry) Nothing ∷ []) replies
        (streams (after_offer s.stream position.0 entry) Nothing good nothing tt tt, tt);
    duties = no_calls P _ s.duties idle;
    none = none;
    one = omega arith;
  }
  taken-good s (Ends last) items replies idle none one good = record {
    items = items;
    replies = each-append P s.replies (stream_of s.stream last ∷ []) replies (streams s.stream last good.0 good.1 good.2 good.3, tt);
    duties = no_calls P _ s.duties idle;
    none = none;
    one = omega arith;
  }
  taken-good s (Answers reply duties) items replies idle none one good =
      let more = calls_in-append duties s.duties in
      record {
        items = items;
        replies = each-append P s.replies (reply ∷ []) replies (good.0, tt);
        duties = each-append (IsDutyWith P s.stream) duties s.duties good.1 (no_calls P s.stream s.duties idle);
        none = none;
        one = omega arith;
      }
  taken-good s (PutsOff reply asked) items replies idle none one good =
      record { items = items; replies = each-append P s.replies (reply ∷ []) replies (good, tt); duties = no_calls P s.stream s.duties idle; none = none; one = omega arith }
  taken-good s (Replaces item reply) items replies idle none one good = absurd (omega arith)

  -- an item that is asked again has its reply replaced
  replaced-good : (s : Scheduled) (item : ℕ) (reply : Reply) → AllByRecursion (IsItem s.config) s.items → AllByRecursion P s.replies
      → AllByRecursion (IsDutyWith P s.stream) s.duties → calls_in s.duties ≤ 1 → s.awaited ≡ None → P reply → AreGood (taken s (Replaces item reply))
  replaced-good s item reply items replies duties one none good =
      record { items = items; replies = each-set P s.replies item reply replies good; duties = duties; none = none; one = one }

  begun-good : (s : Scheduled) (item : Item) (items : List Item) → s.items ≡ item ∷ items → is_idle s ≡ true → AreGood s → AreGood (begun s item items)
  begun-good s item items left idle h =
      let all = subst (AllByRecursion (IsItem s.config)) left h.items in
      taken-good (entered s item items) (begins s item) all.1 h.replies (idle_calls s.duties idle) h.none
      (beginning-count s.config s.run s.draws s.primaries (scene_of s) item)
      (beginning-good s.config s.run s.draws s.primaries (scene_of s) s.stream item all.0)

  passed-good : (s : Scheduled) → AreGood s → AreGood (passed s)
  passed-good s h = record {
    items = h.items;
    replies = h.replies;
    duties = each-due (IsDutyWith P s.stream) s.queue s.duties h.duties;
    none = h.none;
    one = let same = due-calls s.queue s.duties in let one : calls_in s.duties ≤ 1 = h.one in omega arith;
  }

  ready-good : (s : Scheduled) → AreGood s → AreGood (ready s)
  ready-good s h = ready-keeps AreGood passed-good begun-good s h

  still-given : (s : Scheduled) → AreGood s → AreGiven s
  still-given s h = record {
    items = h.items;
    replies = h.replies;
    duties = h.duties;
    awaited = subst (IsAwaitedOrNone P s.stream) (sym h.none) tt;
    one = let quiet = ap awaited_in h.none in let one : calls_in s.duties ≤ 1 = h.one in omega arith;
  }

  delivery-good : (s : Scheduled) (queue : List Waiting) → AreGood s → AreGiven (rest_in s (delivery s queue))
  delivery-good s [] h = still-given s h
  delivery-good s (letter ∷ queue) h =
      let still = still-given s h in
      record { items = still.items; replies = still.replies; duties = still.duties; awaited = still.awaited; one = still.one }

  picked-good : (s : Scheduled) (duties : List Duty) (number : ℕ) (afterwards : Afterwards) (letter : Option Waiting) → s.duties ≡ DeliverOne number afterwards ∷ duties
      → AreGood s → AreGiven (rest_in s (delivery_of s duties number afterwards letter))
  picked-good s duties number afterwards None e h = still-given s h
  picked-good s duties number afterwards (Some letter) e h =
      let still = still-given s h in
      let all = subst (AllByRecursion (IsDutyWith P s.stream)) e h.duties in
      let same = ap calls_in e in
      let one : calls_in s.duties + awaited_in s.awaited ≤ 1 = still.one in
      record { items = h.items; replies = h.replies; duties = all.1; awaited = still.awaited; one = omega arith }

  first-good : (s : Scheduled) (duties : List Duty) → s.duties ≡ duties → AreGood s → AreGiven (rest_in s (first_step s duties))
  first-good s [] e h = still-given s h
  first-good s (Give signal first count ∷ duties) e h =
      let still = still-given s h in
      let all = subst (AllByRecursion (IsDutyWith P s.stream)) e h.duties in
      let same = ap calls_in e in
      let one : calls_in s.duties + awaited_in s.awaited ≤ 1 = still.one in
      record { items = h.items; replies = h.replies; duties = (tt, all.1); awaited = still.awaited; one = omega arith }
  first-good s (DeliverAll ∷ duties) e h = delivery-good s s.queue h
  first-good s (DeliverOne letter afterwards ∷ duties) e h = picked-good s duties letter afterwards (slice_get s.queue letter) e h
  first-good s (MakeCall node call awaited ∷ duties) e h =
      let all = subst (AllByRecursion (IsDutyWith P s.stream)) e h.duties in
      let same = ap calls_in e in
      let one : calls_in s.duties ≤ 1 = h.one in
      record { items = h.items; replies = h.replies; duties = all.1; awaited = all.0; one = omega arith }

  -- an answer to an item under way
  step-good : (s : Scheduled) (awaited : Awaited) (reply : Reply) → step_in awaited ≡ 1 → s.awaited ≡ Some awaited → P reply → IsNodeAnswer reply → AreGiven s
      → AreGood (taken (record s { awaited = None }) (course_in s.config s.hold awaited reply))
  step-good s awaited reply step e good answer h =
      let one : calls_in s.duties + awaited_in s.awaited ≤ 1 = h.one in
      let some = ap awaited_in e in
      taken-good (record s { awaited = None }) (course_in s.config s.hold awaited reply) h.items h.replies (omega arith) refl
      (course_in-count s.config s.hold awaited reply ∙ step)
      (in-good s.config s.stream s.hold awaited reply good answer (subst (IsAwaitedOrNone P s.stream) e h.awaited))

  again-replaced : (s : Scheduled) (hold : Option (List PutOff)) (item : ℕ) (reply : Reply) → P reply → AreGiven s
      → AreGood (taken (record s { awaited = None }) (course_in s.config hold (Again item) reply))
  again-replaced s None item reply good h =
      let one : calls_in s.duties + awaited_in s.awaited ≤ 1 = h.one in
      replaced-good (record s { awaited = None }) item reply h.items h.replies h.duties (omega arith) refl good
  again-replaced s (Some put_off) item reply good h =
      let one : calls_in s.duties + awaited_in s.awaited ≤ 1 = h.one in
      replaced-good (record s { awaited = None }) item reply h.items h.replies h.duties (omega arith) refl good

  answered-good : (s : Scheduled) (awaited : Option Awaited) (reply : Reply) → s.awaited ≡ awaited → P reply → IsNodeAnswer reply → AreGiven s
      → AreGood (answered s awaited reply)
  answered-good s None reply e good answer h =
      record { items = h.items; replies = h.replies; duties = h.duties; none = e; one = let one : calls_in s.duties + awaited_in s.awaited ≤ 1 = h.one in omega arith }
  answered-good s (Some (Storing primary client number)) reply e good answer h = step-good s (Storing primary client number) reply refl e good answer h
  answered-good s (Some (Requesting orderer client value)) reply e good answer h = step-good s (Requesting orderer client value) reply refl e good answer h
  answered-good s (Some (Reading replica client position)) reply e good answer h = step-good s (Reading replica client position) reply refl e good answer h
  answered-good s (Some (Streaming subscription)) reply e good answer h = step-good s (Streaming subscription) reply refl e good answer h
  answered-good s (Some (StreamingOn subscription)) reply e good answer h = step-good s (StreamingOn subscription) reply refl e good answer h
  answered-good s (Some Last) reply e good answer h = step-good s Last reply refl e good answer h
  answered-good s (Some (Held asked)) reply e good answer h = step-good s (Held asked) reply refl e good answer h
  answered-good s (Some (Again item)) reply e good answer h = again-replaced s s.hold item reply good h

  joined-good : (s : Scheduled) (outputs : List Sent) → AreGiven s → AreGiven (joined s outputs)
  joined-good s outputs h = record { items = h.items; replies = h.replies; duties = h.duties; awaited = h.awaited; one = h.one }

  handed-good : (s : Scheduled) → AreGiven s → AreGiven (handed s)
  handed-good s h = record { items = h.items; replies = h.replies; duties = h.duties; awaited = h.awaited; one = h.one }

  event-good : (s : Scheduled) (event : Event) → P event.happened.reply → IsNodeAnswer event.happened.reply → AreGood s → AreGood (after_event s event)
  event-good s event good answer h =
      answered-good (joined (given s) event.happened.outputs) (given s).awaited event.happened.reply refl good answer
      (joined-good (given s) event.happened.outputs
      (handed-good (rest_in (ready s) (first_step (ready s) (ready s).duties)) (first-good (ready s) (ready s).duties refl (ready-good s h))))

  abbrev pub AreAnswers : List Event → Type 0
  AreAnswers events = AllByRecursion (λ (e : Event). P e.happened.reply × IsNodeAnswer e.happened.reply) events

  events-good : (s : Scheduled) (events : List Event) → AreAnswers events → AreGood s → AreGood (after_events s events)
  events-good s [] answers h = h
  events-good s (event ∷ events) answers h = events-good (after_event s event) events answers.1 (event-good s event answers.0.0 answers.0.1 h)

  -- what is so of each answer of a node, of there being no leader or no letter, of nothing being kept, of what is done, and of streams, is
  -- so of each reply
  pub replies-good : (config : Shape) (run : ℕ) (items : List Item) (events : List Event) → AllByRecursion (IsItem config) items → AreAnswers events
      → AllByRecursion P (replies_of config run items events)
  replies-good config run items events each answers =
      let first : AreGood (at_first config run items) = record { items = each; replies = tt; duties = (tt, (tt, (tt, tt))); none = refl; one = omega arith } in
      let s = after_events (at_first config run items) events in
      let last = ready-good s (events-good (at_first config run items) events answers first) in
      last.replies
