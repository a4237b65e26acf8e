-- Each reply of a lane is one that its item may have.
use Rattle.std.proofs.Common.{◌≡◌, ◌+◌, ℕ, Bool, true, false, cond, nat_lt, ◌&&◌, List, [], ◌∷◌, ◌++◌, Option, Some, None, refl, sym, subst, ◌∙◌, inl, inr, arith}
use Rattle.std.specs.List.{AllByRecursion, AllZip}
use Rattle.client_session.specs.Sessions.{Drawing}
use Rattle.client_session.specs.declared.pair.Pair.{Pair}
use Rattle.command_frame.specs.Items.{IsItem}
use Rattle.command_frame.specs.Streams.{unplaced}
use Rattle.command_frame.specs.declared.items.Item.{Item}
use Rattle.command_frame.specs.declared.items.Item.TheVariants.{Append, Read, Subscribe, Trim, Add, Finalise, Ask, Fault}
use Rattle.history_frame.specs.declared.events.Happened.{Happened}
use Rattle.log_base.specs.ClusterShape.{Shape}
use Rattle.log_base.specs.declared.numbers.Client.{Client}
use Rattle.log_base.specs.declared.numbers.NodeId.{NodeId}
use Rattle.log_base.specs.declared.numbers.Position.{Position}
use Rattle.log_base.specs.declared.numbers.Replica.{Replica}
use Rattle.log_base.specs.declared.numbers.Shard.{Shard}
use Rattle.node_table.specs.Numbering.{nodes_of}
use Rattle.record_frame.specs.declared.entries.Entry.{Entry}
use Rattle.record_frame.specs.declared.values.Value.{Value}
use Rattle.reply_frame.specs.declared.replies.Reply.{Reply, Nothing, Stored, Found, Down, Elsewhere, Taken, NotLeading, NoLeader, Stream'}
use Rattle.schedule_model.specs.Courses.{confirmation, course_of, enquiry, following, following_on, is_put_off, reading_at, request, with_entry}
use Rattle.schedule_model.specs.Duties.{settling}
use Rattle.schedule_model.specs.Streams.{is_taken, IsSingle, moved_on, wants_more}
use Rattle.schedule_model.specs.declared.courses.Course.{Course}
use Rattle.schedule_model.specs.declared.courses.Course.TheVariants.{Replies, GoesOn, Takes, Completes, Ends, Answers, PutsOff, Replaces}
use Rattle.schedule_model.specs.declared.duties.Awaited.{Awaited}
use Rattle.schedule_model.specs.declared.duties.Awaited.TheVariants.{Storing, Requesting, Reading, Streaming, StreamingOn, Last, Held, Again}
use Rattle.schedule_model.specs.declared.duties.Duty.{Duty}
use Rattle.schedule_model.specs.declared.duties.Duty.TheVariants.{Give, DeliverAll, DeliverOne, MakeCall}
use Rattle.schedule_model.specs.declared.duties.Question.{Question}
use Rattle.schedule_model.specs.declared.duties.Subscription.{Subscription}
use Rattle.schedule_model.proofs.Counted.{calls_in, course_count, course_in-count, step_in}
use Rattle.schedule_model.proofs.Kept.{each-append}
use Rattle.stream_law.specs.Replies.{IsReplyTo, IsStreamOf}
use Rattle.stream_law.proofs.Going.{IsCallFor, IsDutyFor, IsGood, in-good}
use Rattle.subscriber.specs.Following.{Following, after_offer}
use Rattle.tied_cells.specs.declared.account.Account.{Account}
use Rattle.tied_cells.specs.declared.board.Own.{Own}
use Rattle.lane_work.specs.Items.{ItemsGo}
use Rattle.lane_work.specs.Stages.{AreDue, IsDue, IsReplyAt, after_event, after_events, after_item, asks, asks_last, begun, due_of, gone, is_pending}
use Rattle.lane_work.specs.declared.stages.Asking.{Asking}
use Rattle.lane_work.specs.declared.stages.Stage.{Stage}
use Rattle.lane_work.specs.declared.stages.Stage.TheVariants.{Asks, Turns, Replied}
use Rattle.lane_law.specs.Answers.{MayAnswer}
use Rattle.lane_law.proofs.Own.{all-back, all-front}

-- an event has one answer
abbrev pub HasOneAnswer : Own Happened → Type 0
HasOneAnswer event = IsSingle event.happened.reply

-- the duties of a course ask an item anew at no time
abbrev IsFirstHand : Duty → Type 0
IsFirstHand (Give signal first count) = Unit {0}
IsFirstHand DeliverAll = Unit {0}
IsFirstHand (DeliverOne letter afterwards) = Unit {0}
IsFirstHand (MakeCall node call awaited) = step_in awaited ≡ 1

abbrev IsOwnCourse : Course → Type 0
IsOwnCourse (Replies reply) = Unit {0}
IsOwnCourse (GoesOn duties) = AllByRecursion IsFirstHand duties
IsOwnCourse (Takes position entry next) = IsFirstHand next
IsOwnCourse (Completes position entry) = Unit {0}
IsOwnCourse (Ends last) = Unit {0}
IsOwnCourse (Answers reply duties) = Unit {0}
IsOwnCourse (PutsOff reply asked) = Unit {0}
IsOwnCourse (Replaces item reply) = ⊥

settling-own : (config : Shape) → AllByRecursion IsFirstHand (settling config)
settling-own config = (tt, (tt, (tt, (tt, (tt, (tt, (tt, (tt, tt))))))))

requested-own : (config : Shape) (orderer : ℕ) (client : Client) (value : Value) (more : Bool)
    → IsOwnCourse (cond more (GoesOn (request config orderer client value ∷ [])) (Replies NoLeader))
requested-own config orderer client value true = (refl, tt)
requested-own config orderer client value false = tt

read-own : (config : Shape) (shard : Shard) (replica : Replica) (client : Client) (position : Position) (more : Bool)
    → IsOwnCourse (cond more (GoesOn (reading_at config shard.0 replica client position Last ∷ [])) (Replies (Elsewhere shard)))
read-own config shard replica client position true = (refl, tt)
read-own config shard replica client position false = tt

told-own : (config : Shape) (shard : Shard) (s : Subscription) (more : Bool)
    → IsOwnCourse (cond more (GoesOn (following_on config shard.0 s ∷ [])) (Ends (Elsewhere shard)))
told-own config shard s true = (refl, tt)
told-own config shard s false = tt

entry-own : (config : Shape) (s : Subscription) (entry : Entry) (more : Bool)
    → IsOwnCourse (cond more (Takes s.position entry (following config (moved_on s entry))) (Completes s.position entry))
entry-own config s entry true = refl
entry-own config s entry false = tt

found-own : (config : Shape) (s : Subscription) (entry : Entry) (takes : Bool) → IsOwnCourse (cond takes (with_entry config s entry) (Ends Nothing))
found-own config s entry true = entry-own config s entry (wants_more s)
found-own config s entry false = tt

put_off-own : (asked : Question) (reply : Reply) (late : Bool) → IsOwnCourse (cond late (PutsOff reply asked) (Replies reply))
put_off-own asked reply true = tt
put_off-own asked reply false = tt

course-own : (config : Shape) (awaited : Awaited) (reply : Reply) → step_in awaited ≡ 1 → IsOwnCourse (course_of config awaited reply)
course-own config (Storing primary client number) (Stored offset) one =
    each-append IsFirstHand (settling config) (enquiry primary client number ∷ []) (settling-own config) (refl, tt)
course-own config (Requesting orderer client value) NotLeading one = requested-own config (orderer + 1) client value (nat_lt (orderer + 1) config.orderers)
course-own config (Requesting orderer client value) Down one = requested-own config (orderer + 1) client value (nat_lt (orderer + 1) config.orderers)
course-own config (Requesting orderer client value) (Taken slot) one =
    each-append IsFirstHand (settling config) (confirmation config orderer client value slot ∷ []) (settling-own config) (refl, tt)
course-own config (Reading replica client position) (Elsewhere shard) one = read-own config shard replica client position (nat_lt shard.0 config.shards)
course-own config (Streaming s) (Found told entry) one = found-own config s entry (is_taken s entry)
course-own config (Streaming s) (Elsewhere shard) one = told-own config shard s (nat_lt shard.0 config.shards)
course-own config (StreamingOn s) (Found told entry) one = found-own config s entry (is_taken s entry)
course-own config (Storing primary client number) reply one = tt
course-own config (Requesting orderer client value) reply one = tt
course-own config (Reading replica client position) reply one = tt
course-own config (Streaming s) reply one = tt
course-own config (StreamingOn s) reply one = tt
course-own config Last reply one = tt
course-own config (Held asked) reply one = put_off-own asked reply (is_put_off reply)
course-own config (Again item) reply one = absurd (omega arith)

module _ (item : Item) where
  -- the call that is due is one for the item, and the item's own
  abbrev IsAskedFor : Asking → Type 0
  IsAskedFor asking = IsCallFor [] item asking.taken asking.due.awaited × (step_in asking.due.awaited ≡ 1)

  abbrev IsStageOf : Stage → Type 0
  IsStageOf (Asks asking) = IsAskedFor asking
  IsStageOf (Turns next asking) = IsAskedFor asking
  IsStageOf (Replied reply) = IsReplyTo item reply

  due-good : (taken : Following) (again : ℕ) (duties : List Duty) → AllByRecursion (IsDutyFor [] item taken) duties → AllByRecursion IsFirstHand duties
      → calls_in duties ≡ 1 → IsStageOf (asks taken again (due_of duties))
  due-good taken again [] h own one = absurd (omega arith)
  due-good taken again (Give signal first count ∷ duties) h own one = due-good taken again duties h.1 own.1 (omega arith)
  due-good taken again (DeliverAll ∷ duties) h own one = due-good taken again duties h.1 own.1 (omega arith)
  due-good taken again (DeliverOne letter afterwards ∷ duties) h own one = due-good taken again duties h.1 own.1 (omega arith)
  due-good taken again (MakeCall node call awaited ∷ duties) h own one = (h.0, own.0)

  replied-good : (asking : Asking) (reply : Reply) (later : Bool) → IsAskedFor asking → IsReplyTo item reply
      → IsStageOf (cond later (Turns (record { 0 = 0 }) (record asking { again = asking.again + 1 })) (Replied reply))
  replied-good asking reply true asked good = asked
  replied-good asking reply false asked good = good

  gone-good : (asking : Asking) (course : Course) → IsAskedFor asking → IsGood [] item asking.taken course → IsOwnCourse course → course_count course ≡ 1
      → IsStageOf (gone asking course)
  gone-good asking (Replies reply) asked good own one = replied-good asking reply (is_pending reply && nat_lt asking.again 256) asked good
  gone-good asking (GoesOn duties) asked good own one = due-good asking.taken asking.again duties good own one
  gone-good asking (Takes position entry next) asked good own one =
      due-good (after_offer asking.taken position.0 entry) asking.again (next ∷ []) (good, tt) (own, tt) (omega arith)
  gone-good asking (Completes position entry) asked good own one = good
  gone-good asking (Ends last) asked good own one = good
  gone-good asking (Answers reply duties) asked good own one = replied-good asking reply (is_pending reply && nat_lt asking.again 256) asked good.0
  gone-good asking (PutsOff reply held) asked good own one = replied-good asking reply (is_pending reply && nat_lt asking.again 256) asked good.1
  gone-good asking (Replaces place reply) asked good own one = absurd own

  turned-good : (next : NodeId) (asking : Asking) (more : Bool) → IsAskedFor asking → IsStageOf (cond more (Turns (record { 0 = next.0 + 1 }) asking) (Asks asking))
  turned-good next asking true asked = asked
  turned-good next asking false asked = asked

  event-good : (config : Shape) (stage : Stage) (event : Own Happened) → IsStageOf stage → IsDue stage event → HasOneAnswer event → IsStageOf (after_event config stage event)
  event-good config (Asks asking) event asked due single =
      let reply = event.happened.reply in
      let awaited = asking.due.awaited in
      gone-good asking (course_of config awaited reply) asked (in-good [] config None item asking.taken awaited reply single asked.0)
      (course-own config awaited reply asked.1) (course_in-count config None awaited reply ∙ asked.1)
  event-good config (Turns next asking) event asked due single = turned-good next asking (nat_lt (next.0 + 1) (nodes_of config)) asked
  event-good config (Replied reply) event asked due single = absurd due

  events-good : (config : Shape) (stage : Stage) (events : List (Own Happened)) → IsStageOf stage → AreDue config stage events → AllByRecursion HasOneAnswer events
      → IsStageOf (after_events config stage events)
  events-good config stage [] good due answers = good
  events-good config stage (event ∷ events) good due answers =
      events-good config (after_event config stage event) events (event-good config stage event good due.0 answers.0) due.1 answers.1

-- ---- beginnings and ends

last-good : (lane : ℕ) (last : Option Pair) → IsStageOf (Ask lane) (asks_last last)
last-good lane None = tt
last-good lane (Some pair) = (tt, refl)

begun-good : (config : Shape) (session : Drawing) (item : Item) → IsItem config item → IsStageOf item (begun config session item)
begun-good config session (Append lane shard replica bytes) is = (tt, refl)
begun-good config session (Read lane shard replica position) is = (tt, refl)
begun-good config session (Subscribe lane shard replica from count) is = ((refl, omega arith, is.4), refl)
begun-good config session (Trim lane position) is = (tt, refl)
begun-good config session (Add lane shard) is = (tt, refl)
begun-good config session (Finalise lane shard) is = (tt, refl)
begun-good config session (Ask lane) is = last-good lane session.last
begun-good config session (Fault lane fault) is = tt

placed-stream : (from : Position) (count : ℕ) (reply told : Reply) → unplaced reply ≡ told → IsStreamOf from count told → IsStreamOf from count reply
placed-stream from count (Stream' first entries at last) told is good = subst (IsStreamOf from count) (sym is) good
placed-stream from count reply told is good = subst (IsStreamOf from count) (sym is) good

placed-single : (reply told : Reply) → unplaced reply ≡ told → IsSingle told → IsSingle reply
placed-single (Stream' first entries at last) told is good = subst IsSingle (sym is) good
placed-single reply told is good = subst IsSingle (sym is) good

placed-good : (item : Item) (reply told : Reply) → unplaced reply ≡ told → IsReplyTo item told → IsReplyTo item reply
placed-good (Subscribe lane shard replica from count) reply told is good = placed-stream from count reply told is good
placed-good item reply told is good = placed-single reply told is good

end-good : (item : Item) (account : Account) (later : List (Own Happened)) (stage : Stage) (reply : Reply) → IsReplyAt account later stage reply → IsStageOf item stage
    → MayAnswer item reply
end-good item account later (Asks asking) reply cut good = inr (account.used, cut.told)
end-good item account later (Turns next asking) reply cut good = inr (account.used, cut.told)
end-good item account later (Replied told) reply is good = inl (placed-good item reply told is good)

-- ---- items

-- each reply of a lane is one that its item may have, unless the pass was spent
pub replies-fit : (config : Shape) (lane : ℕ) (account : Account) (session : Drawing) (items : List Item) (events : List (Own Happened)) (replies : List Reply)
    → ItemsGo config lane account session items events replies → AllByRecursion (IsItem config) items → AllByRecursion HasOneAnswer events
    → AllZip MayAnswer items replies
replies-fit config lane account session [] events replies goes each answers = subst (AllZip MayAnswer []) (sym goes.1) tt
replies-fit config lane account session (item ∷ items) events replies goes each answers =
    let all : AllByRecursion HasOneAnswer (goes.own ++ (goes.led ++ goes.later)) = subst (AllByRecursion HasOneAnswer) goes.events_are answers in
    let own = all-front HasOneAnswer goes.own (goes.led ++ goes.later) all in
    let later = all-back HasOneAnswer goes.led goes.later (all-back HasOneAnswer goes.own (goes.led ++ goes.later) all) in
    let stage = events-good item config (begun config session item) goes.own (begun-good config session item each.0) goes.each_due own in
    let first : MayAnswer item goes.reply = end-good item account (goes.led ++ goes.later) _ goes.reply goes.ends stage in
    let others = replies-fit config lane account (after_item config session item) items goes.later goes.others goes.go_on each.1 later in
    subst (AllZip MayAnswer (item ∷ items)) (sym goes.replies_are) (first, others)
