-- Each reply is one to the item in its place.
use Rattle.std.proofs.Common.{◌≡◌, ◌+◌, ◌-◌, ℕ, zero, suc, true, List, [], ◌∷◌, ◌++◌, length, slice_get, Option, Some, None, refl, sym, subst, append_assoc, ◌∙◌, arith}
use Rattle.std.specs.List.{AllByRecursion, AllZip}
use Rattle.std.proofs.lemmas.Option.{none-some, same_Some}
use Rattle.log_base.specs.ClusterShape.{Shape}
use Rattle.command_frame.specs.declared.items.Item.{Item}
use Rattle.command_frame.specs.Items.{IsItem}
use Rattle.reply_frame.specs.declared.replies.Reply.{Reply, Nothing}
use Rattle.history_frame.specs.declared.events.Event.{Event}
use Rattle.history_frame.specs.declared.events.Sent.{Sent}
use Rattle.subscriber.specs.Following.{Following, after_offer}
use Rattle.schedule_model.specs.declared.courses.Course.{Course}
use Rattle.schedule_model.specs.declared.courses.Course.TheVariants.{Replies, GoesOn, Takes, Completes, Ends, Answers, PutsOff, Replaces}
use Rattle.schedule_model.specs.declared.duties.Afterwards.{Afterwards}
use Rattle.schedule_model.specs.declared.duties.Awaited.{Awaited}
use Rattle.schedule_model.specs.declared.duties.Awaited.TheVariants.{Storing, Requesting, Reading, Streaming, StreamingOn, Last, Held, Again}
use Rattle.schedule_model.specs.declared.duties.Duty.{Duty}
use Rattle.schedule_model.specs.declared.duties.Duty.TheVariants.{Give, DeliverAll, DeliverOne, MakeCall}
use Rattle.schedule_model.specs.declared.duties.PutOff.{PutOff}
use Rattle.schedule_model.specs.declared.duties.Signal.{Signal}
use Rattle.log_base.specs.declared.numbers.NodeId.{NodeId}
use Rattle.history_frame.specs.declared.inputs.Call.{Call}
use Rattle.schedule_model.specs.Courses.{course_in}
use Rattle.schedule_model.specs.Holding.{questions_of}
use Rattle.schedule_model.specs.Driven.{after_event, after_events, replies_of}
use Rattle.schedule_model.specs.Streams.{IsSingle, stream_of}
use Rattle.schedule_model.specs.Scheduling.{Scheduled, Waiting, answered, at_first, begins, begun, delivery, delivery_of, entered, first_step, given, handed, is_idle, joined, passed, ready, rest_in, scene_of, taken}
use Rattle.schedule_model.proofs.Along.{ready-keeps}
use Rattle.schedule_model.proofs.Counted.{beginning-count, calls_in, calls_in-append, course_count, course_in-count, due-calls, step_in}
use Rattle.schedule_model.proofs.Kept.{each-append, each-due}
use Rattle.schedule_model.proofs.Questions.{questions-after, questions-with}
use Rattle.stream_law.specs.Replies.{IsReplyTo}
use Rattle.stream_law.proofs.Streaming.{idle_calls}
use Rattle.stream_law.proofs.Going.{IsCallFor, IsDutyFor, IsGood, IsLateDuty, IsLateQuestion, IsPlain, IsPlainAt, beginning-good, duties-late, in-good, late-duties, plain-reply, zip-at, zip-length, zip-push, zip-set}

-- ---- a schedule

-- the item under way, and those that have not begun
abbrev to_serve : Option Item → List Item → List Item
to_serve None items = items
to_serve (Some item) items = item ∷ items

-- the element behind those before it, and one of those
behind : (done rest : List Item) (item : Item) → slice_get (done ++ item ∷ rest) (length done) ≡ Some item
behind [] rest item = refl
behind (first ∷ done) rest item = behind done rest item

before : (done rest : List Item) (place : ℕ) (item : Item) → slice_get done place ≡ Some item → slice_get (done ++ rest) place ≡ Some item
before [] rest place item at = absurd (none-some item at)
before (first ∷ done) rest zero item at = at
before (first ∷ done) rest (suc place) item at = before done rest place item at

module _ (all : List Item) where
  -- a call is due for the item under way, and others for items that are asked again
  abbrev IsDue : Option Item → Following → List Duty → Type 0
  IsDue None stream duties = AllByRecursion (IsLateDuty all) duties × (calls_in duties ≡ 0)
  IsDue (Some item) stream duties = AllByRecursion (IsDutyFor all item stream) duties × (calls_in duties ≡ 1)

  -- or its answer is awaited
  abbrev IsItemDue : Option Item → Following → Awaited → List Duty → Type 0
  IsItemDue None stream awaited duties = ⊥
  IsItemDue (Some item) stream awaited duties = IsCallFor all item stream awaited × (calls_in duties ≡ 0) × AllByRecursion (IsLateDuty all) duties

  abbrev IsAwaitedDue : Option Item → Following → Option Awaited → List Duty → Type 0
  IsAwaitedDue under stream None duties = IsDue under stream duties
  IsAwaitedDue under stream (Some (Again place)) duties = IsPlainAt all place × IsDue under stream duties
  IsAwaitedDue under stream (Some awaited) duties = IsItemDue under stream awaited duties

  record IsServing (s : Scheduled) : Type 0 where
    done : List Item
    under : Option Item
    parts : done ++ to_serve under s.items ≡ all
    items : AllByRecursion (IsItem s.config) s.items
    served : AllZip IsReplyTo done s.replies
    held : AllByRecursion (IsLateQuestion all) (questions_of s.hold)
    due : IsAwaitedDue under s.stream s.awaited s.duties

  -- between events no answer is awaited
  record IsServed (s : Scheduled) : Type 0 where
    serving : IsServing s
    none : s.awaited ≡ None

  -- an item is under way, and no call is due
  record IsCalled (s : Scheduled) (item : Item) : Type 0 where
    done : List Item
    parts : done ++ item ∷ s.items ≡ all
    items : AllByRecursion (IsItem s.config) s.items
    served : AllZip IsReplyTo done s.replies
    held : AllByRecursion (IsLateQuestion all) (questions_of s.hold)
    late : AllByRecursion (IsLateDuty all) s.duties
    idle : calls_in s.duties ≡ 0
    none : s.awaited ≡ None

  due-awaited : (under : Option Item) (stream : Following) (awaited : Option Awaited) (duties : List Duty) → awaited ≡ None → IsDue under stream duties
      → IsAwaitedDue under stream awaited duties
  due-awaited under stream awaited duties none h = subst (λ (a : Option Awaited). IsAwaitedDue under stream a duties) (sym none) h

  awaited-due : (under : Option Item) (stream : Following) (awaited : Option Awaited) (duties : List Duty) → awaited ≡ None → IsAwaitedDue under stream awaited duties
      → IsDue under stream duties
  awaited-due under stream awaited duties none h = subst (λ (a : Option Awaited). IsAwaitedDue under stream a duties) none h

  -- the item has its reply
  replied : (s : Scheduled) (item : Item) (reply : Reply) (stream : Following) (duties : List Duty) (hold : Option (List PutOff)) → IsCalled s item
      → IsReplyTo item reply → AllByRecursion (IsLateDuty all) duties → calls_in duties ≡ 0 → AllByRecursion (IsLateQuestion all) (questions_of hold)
      → IsServed (record s { replies = s.replies ++ reply ∷ []; stream = stream; duties = duties; hold = hold })
  replied s item reply stream duties hold h is late idle held = record {
    serving = record {
      done = h.done ++ item ∷ [];
      under = None;
      parts = append_assoc h.done (item ∷ []) s.items ∙ h.parts;
      items = h.items;
      served = zip-push IsReplyTo h.done s.replies item reply h.served is;
      held = held;
      due = due-awaited None stream s.awaited duties h.none (late, idle);
    };
    none = h.none;
  }

  -- the item that is under way has no stream
  plain-here : (s : Scheduled) (item : Item) → IsCalled s item → IsPlain item → IsPlainAt all (length s.replies)
  plain-here s item h plain = λ other at.
      let size : length h.done ≡ length s.replies = zip-length IsReplyTo h.done s.replies h.served in
      let here : slice_get all (length s.replies) ≡ Some item =
      subst (λ (l : List Item). slice_get l (length s.replies) ≡ Some item) h.parts
      (subst (λ (n : ℕ). slice_get (h.done ++ item ∷ s.items) n ≡ Some item) size (behind h.done s.items item)) in
      subst IsPlain (same_Some item other (sym here ∙ at)) plain

  -- what is due goes on for the item
  goes-on : (s : Scheduled) (item : Item) (stream : Following) (duties : List Duty) → IsCalled s item → AllByRecursion (IsDutyFor all item stream) duties
      → calls_in duties ≡ 1 → IsServed (record s { duties = duties ++ s.duties; stream = stream })
  goes-on s item stream duties h good one =
      let more = calls_in-append duties s.duties in
      let idle : calls_in s.duties ≡ 0 = h.idle in
      record {
        serving = record {
          done = h.done;
          under = Some item;
          parts = h.parts;
          items = h.items;
          served = h.served;
          held = h.held;
          due = due-awaited (Some item) stream s.awaited (duties ++ s.duties) h.none
              (each-append (IsDutyFor all item stream) duties s.duties good (late-duties all item stream s.duties idle h.late), omega arith);
        };
        none = h.none;
      }

  taken-served : (s : Scheduled) (item : Item) (course : Course) → IsCalled s item → course_count course ≡ 1 → IsGood all item s.stream course → IsServed (taken s course)
  taken-served s item (Replies reply) h one good = replied s item reply s.stream s.duties s.hold h good h.late h.idle h.held
  taken-served s item (GoesOn duties) h one good = goes-on s item s.stream duties h good one
  taken-served s item (Takes position entry next) h one good = goes-on s item (after_offer s.stream position.0 entry) (next ∷ []) h (good, tt) (omega arith)
  taken-served s item (Completes position entry) h one good =
      replied s item (stream_of (after_offer s.stream position.0 entry) Nothing) _ s.duties s.hold h good h.late h.idle h.held
  taken-served s item (Ends last) h one good = replied s item (stream_of s.stream last) _ s.duties s.hold h good h.late h.idle h.held
  taken-served s item (Answers reply duties) h one good =
      let more = calls_in-append duties s.duties in
      let idle : calls_in s.duties ≡ 0 = h.idle in
      replied s item reply s.stream (duties ++ s.duties) s.hold h good.0 (each-append (IsLateDuty all) duties s.duties good.1 h.late) (omega arith) h.held
  taken-served s item (PutsOff reply asked) h one good =
      replied s item reply s.stream s.duties _ h good.1 h.late h.idle
      (questions-with (IsLateQuestion all) s.hold (length s.replies) asked (plain-here s item h good.0) h.held)
  taken-served s item (Replaces place reply) h one good = absurd (omega arith)

  -- where nothing is due, no item is under way
  begun-with : (s : Scheduled) (item : Item) (items : List Item) (under : Option Item) (done : List Item) → s.items ≡ item ∷ items → calls_in s.duties ≡ 0 → s.awaited ≡ None
      → done ++ to_serve under s.items ≡ all → AllByRecursion (IsItem s.config) s.items → AllZip IsReplyTo done s.replies
      → AllByRecursion (IsLateQuestion all) (questions_of s.hold) → IsDue under s.stream s.duties → IsServed (begun s item items)
  begun-with s item items None done left idle none parts each served held due =
      let fit = subst (AllByRecursion (IsItem s.config)) left each in
      taken-served (entered s item items) item (begins s item)
      (record {
        done = done;
        parts = subst (λ (l : List Item). done ++ l ≡ all) left parts;
        items = fit.1;
        served = served;
        held = questions-after (IsLateQuestion all) item s.hold held;
        late = due.0;
        idle = idle;
        none = none;
      })
      (beginning-count s.config s.run s.draws s.primaries (scene_of s) item)
      (beginning-good all s.config s.run s.draws s.primaries (scene_of s) s.stream item fit.0 held)
  begun-with s item items (Some other) done left idle none parts each served held due = let one : calls_in s.duties ≡ 1 = due.1 in absurd (omega arith)

  begun-served : (s : Scheduled) (item : Item) (items : List Item) → s.items ≡ item ∷ items → is_idle s ≡ true → IsServed s → IsServed (begun s item items)
  begun-served s item items left idle h =
      begun-with s item items h.serving.under h.serving.done left (idle_calls s.duties idle) h.none h.serving.parts h.serving.items h.serving.served h.serving.held
      (awaited-due h.serving.under s.stream s.awaited s.duties h.none h.serving.due)

  passed-due : (under : Option Item) (s : Scheduled) → IsDue under s.stream s.duties → IsDue under s.stream (passed s).duties
  passed-due None s h = (each-due (IsLateDuty all) s.queue s.duties h.0, due-calls s.queue s.duties ∙ h.1)
  passed-due (Some item) s h = (each-due (IsDutyFor all item s.stream) s.queue s.duties h.0, due-calls s.queue s.duties ∙ h.1)

  passed-served : (s : Scheduled) → IsServed s → IsServed (passed s)
  passed-served s h = record {
    serving = record {
      done = h.serving.done;
      under = h.serving.under;
      parts = h.serving.parts;
      items = h.serving.items;
      served = h.serving.served;
      held = h.serving.held;
      due = due-awaited h.serving.under s.stream s.awaited (passed s).duties h.none
          (passed-due h.serving.under s (awaited-due h.serving.under s.stream s.awaited s.duties h.none h.serving.due));
    };
    none = h.none;
  }

  ready-served : (s : Scheduled) → IsServed s → IsServed (ready s)
  ready-served s h = ready-keeps IsServed passed-served begun-served s h

  -- ---- a turn

  -- a turn is given, and this is due or awaited then
  turned : (s : Scheduled) (duties : List Duty) (queue : List Waiting) (awaited : Option Awaited) (h : IsServed s)
      → IsAwaitedDue h.serving.under s.stream awaited duties → IsServing (record s { duties = duties; queue = queue; awaited = awaited })
  turned s duties queue awaited h due = record {
    done = h.serving.done;
    under = h.serving.under;
    parts = h.serving.parts;
    items = h.serving.items;
    served = h.serving.served;
    held = h.serving.held;
    due = due;
  }

  delivery-serving : (s : Scheduled) (queue : List Waiting) → IsServed s → IsServing (rest_in s (delivery s queue))
  delivery-serving s [] h = h.serving
  delivery-serving s (letter ∷ queue) h = turned s s.duties queue s.awaited h h.serving.due

  picked-serving : (s : Scheduled) (duties : List Duty) (number : ℕ) (afterwards : Afterwards) (letter : Option Waiting) (h : IsServed s)
      → IsDue h.serving.under s.stream duties → IsServing (rest_in s (delivery_of s duties number afterwards letter))
  picked-serving s duties number afterwards None h due = h.serving
  picked-serving s duties number afterwards (Some letter) h due =
      turned s duties _ s.awaited h (due-awaited h.serving.under s.stream s.awaited duties h.none due)

  given-due : (under : Option Item) (stream : Following) (signal : Signal) (first next : NodeId) (count less : ℕ) (duties : List Duty)
      → IsDue under stream (Give signal first count ∷ duties) → IsDue under stream (Give signal next less ∷ duties)
  given-due None stream signal first next count less duties h = h
  given-due (Some item) stream signal first next count less duties h = h

  one-due : (under : Option Item) (stream : Following) (number : ℕ) (afterwards : Afterwards) (duties : List Duty)
      → IsDue under stream (DeliverOne number afterwards ∷ duties) → IsDue under stream duties
  one-due None stream number afterwards duties h = let none : calls_in (DeliverOne number afterwards ∷ duties) ≡ 0 = h.1 in (h.0.1, omega arith)
  one-due (Some item) stream number afterwards duties h = let one : calls_in (DeliverOne number afterwards ∷ duties) ≡ 1 = h.1 in (h.0.1, omega arith)

  called-due : (under : Option Item) (stream : Following) (duties : List Duty) (node : NodeId) (call : Call) (awaited : Awaited)
      → IsDue under stream (MakeCall node call awaited ∷ duties) → IsAwaitedDue under stream (Some awaited) duties
  called-due None stream duties node call (Again place) h =
      let none : calls_in (MakeCall node call (Again place) ∷ duties) ≡ 0 = h.1 in (h.0.0, (h.0.1, omega arith))
  called-due (Some item) stream duties node call (Again place) h =
      let one : calls_in (MakeCall node call (Again place) ∷ duties) ≡ 1 = h.1 in (h.0.0, (h.0.1, omega arith))
  called-due None stream duties node call awaited h =
      let none : calls_in (MakeCall node call awaited ∷ duties) ≡ 0 = h.1 in absurd (omega arith)
  called-due (Some item) stream duties node call awaited h =
      let one : calls_in (MakeCall node call awaited ∷ duties) ≡ 1 = h.1 in (h.0.0, omega arith, duties-late all item stream duties h.0.1)

  -- what is due between events
  due-now : (s : Scheduled) (duties : List Duty) (h : IsServed s) → s.duties ≡ duties → IsDue h.serving.under s.stream duties
  due-now s duties h e = subst (IsDue h.serving.under s.stream) e (awaited-due h.serving.under s.stream s.awaited s.duties h.none h.serving.due)

  first-serving : (s : Scheduled) (duties : List Duty) → s.duties ≡ duties → IsServed s → IsServing (rest_in s (first_step s duties))
  first-serving s [] e h = h.serving
  first-serving s (Give signal first count ∷ duties) e h =
      let next : NodeId = record { 0 = first.0 + 1 } in
      turned s (Give signal next (count - 1) ∷ duties) s.queue s.awaited h
      (due-awaited h.serving.under s.stream s.awaited (Give signal next (count - 1) ∷ duties) h.none
      (given-due h.serving.under s.stream signal first next count (count - 1) duties (due-now s (Give signal first count ∷ duties) h e)))
  first-serving s (DeliverAll ∷ duties) e h = delivery-serving s s.queue h
  first-serving s (DeliverOne letter afterwards ∷ duties) e h =
      picked-serving s duties letter afterwards (slice_get s.queue letter) h
      (one-due h.serving.under s.stream letter afterwards duties (due-now s (DeliverOne letter afterwards ∷ duties) h e))
  first-serving s (MakeCall node call awaited ∷ duties) e h =
      turned s duties s.queue (Some awaited) h
      (called-due h.serving.under s.stream duties node call awaited (due-now s (MakeCall node call awaited ∷ duties) h e))

  -- ---- an event

  -- an answer to the item under way
  answered-with : (s : Scheduled) (awaited : Awaited) (reply : Reply) (under : Option Item) (done : List Item) → IsSingle reply → step_in awaited ≡ 1
      → done ++ to_serve under s.items ≡ all → AllByRecursion (IsItem s.config) s.items → AllZip IsReplyTo done s.replies
      → AllByRecursion (IsLateQuestion all) (questions_of s.hold) → IsItemDue under s.stream awaited s.duties
      → IsServed (taken (record s { awaited = None }) (course_in s.config s.hold awaited reply))
  answered-with s awaited reply None done single step parts items served held due = absurd due
  answered-with s awaited reply (Some item) done single step parts items served held due =
      taken-served (record s { awaited = None }) item (course_in s.config s.hold awaited reply)
      (record { done = done; parts = parts; items = items; served = served; held = held; late = due.2; idle = due.1; none = refl })
      (course_in-count s.config s.hold awaited reply ∙ step)
      (in-good all s.config s.hold item s.stream awaited reply single due.0)

  -- an answer to an item that is asked again
  replaced-served : (s : Scheduled) (place : ℕ) (reply : Reply) (h : IsServing s) → IsSingle reply → IsPlainAt all place → IsDue h.under s.stream s.duties
      → IsServed (taken (record s { awaited = None }) (Replaces place reply))
  replaced-served s place reply h single plain due = record {
    serving = record {
      done = h.done;
      under = h.under;
      parts = h.parts;
      items = h.items;
      served = zip-set IsReplyTo h.done s.replies place reply h.served
          (λ item at. plain-reply item reply
          (plain item (subst (λ (l : List Item). slice_get l place ≡ Some item) h.parts (before h.done (to_serve h.under s.items) place item at))) single);
      held = h.held;
      due = due;
    };
    none = refl;
  }

  again-served : (s : Scheduled) (hold : Option (List PutOff)) (place : ℕ) (reply : Reply) (h : IsServing s) → IsSingle reply → IsPlainAt all place
      → IsDue h.under s.stream s.duties → IsServed (taken (record s { awaited = None }) (course_in s.config hold (Again place) reply))
  again-served s None place reply h single plain due = replaced-served s place reply h single plain due
  again-served s (Some put_off) place reply h single plain due = replaced-served s place reply h single plain due

  due-then : (s : Scheduled) (awaited : Awaited) (h : IsServing s) → s.awaited ≡ Some awaited → IsAwaitedDue h.under s.stream (Some awaited) s.duties
  due-then s awaited h e = subst (λ (a : Option Awaited). IsAwaitedDue h.under s.stream a s.duties) e h.due

  item-served : (s : Scheduled) (awaited : Awaited) (reply : Reply) (h : IsServing s) → IsSingle reply → step_in awaited ≡ 1
      → IsItemDue h.under s.stream awaited s.duties → IsServed (taken (record s { awaited = None }) (course_in s.config s.hold awaited reply))
  item-served s awaited reply h single step due = answered-with s awaited reply h.under h.done single step h.parts h.items h.served h.held due

  answered-served : (s : Scheduled) (awaited : Option Awaited) (reply : Reply) → s.awaited ≡ awaited → IsSingle reply → IsServing s → IsServed (answered s awaited reply)
  answered-served s None reply e single h = record { serving = h; none = e }
  answered-served s (Some (Storing primary client number)) reply e single h =
      item-served s (Storing primary client number) reply h single refl (due-then s (Storing primary client number) h e)
  answered-served s (Some (Requesting orderer client value)) reply e single h =
      item-served s (Requesting orderer client value) reply h single refl (due-then s (Requesting orderer client value) h e)
  answered-served s (Some (Reading replica client position)) reply e single h =
      item-served s (Reading replica client position) reply h single refl (due-then s (Reading replica client position) h e)
  answered-served s (Some (Streaming subscription)) reply e single h = item-served s (Streaming subscription) reply h single refl (due-then s (Streaming subscription) h e)
  answered-served s (Some (StreamingOn subscription)) reply e single h = item-served s (StreamingOn subscription) reply h single refl (due-then s (StreamingOn subscription) h e)
  answered-served s (Some Last) reply e single h = item-served s Last reply h single refl (due-then s Last h e)
  answered-served s (Some (Held asked)) reply e single h = item-served s (Held asked) reply h single refl (due-then s (Held asked) h e)
  answered-served s (Some (Again place)) reply e single h =
      let due = due-then s (Again place) h e in again-served s s.hold place reply h single due.0 due.1

  joined-serving : (s : Scheduled) (outputs : List Sent) → IsServing s → IsServing (joined s outputs)
  joined-serving s outputs h = record { done = h.done; under = h.under; parts = h.parts; items = h.items; served = h.served; held = h.held; due = h.due }

  handed-serving : (s : Scheduled) → IsServing s → IsServing (handed s)
  handed-serving s h = record { done = h.done; under = h.under; parts = h.parts; items = h.items; served = h.served; held = h.held; due = h.due }

  event-served : (s : Scheduled) (event : Event) → IsSingle event.happened.reply → IsServed s → IsServed (after_event s event)
  event-served s event single h =
      answered-served (joined (given s) event.happened.outputs) (given s).awaited event.happened.reply refl single
      (joined-serving (given s) event.happened.outputs
      (handed-serving (rest_in (ready s) (first_step (ready s) (ready s).duties)) (first-serving (ready s) (ready s).duties refl (ready-served s h))))

  events-served : (s : Scheduled) (events : List Event) → AllByRecursion (λ (e : Event). IsSingle e.happened.reply) events → IsServed s → IsServed (after_events s events)
  events-served s [] singles h = h
  events-served s (event ∷ events) singles h = events-served (after_event s event) events singles.1 (event-served s event singles.0 h)

-- each reply is one to the item in its place
pub replies-served : (config : Shape) (run : ℕ) (items : List Item) (events : List Event) → AllByRecursion (IsItem config) items
    → AllByRecursion (λ (e : Event). IsSingle e.happened.reply) events → (k : ℕ) (item : Item) (reply : Reply) → slice_get items k ≡ Some item
    → slice_get (replies_of config run items events) k ≡ Some reply → IsReplyTo item reply
replies-served config run items events each singles k item reply there told =
    let first : IsServed items (at_first config run items) =
    record { serving = record { done = []; under = None; parts = refl; items = each; served = tt; held = tt; due = ((tt, (tt, (tt, tt))), refl) }; none = refl } in
    let s = after_events (at_first config run items) events in
    let last = (ready-served items s (events-served items (at_first config run items) events singles first)).serving in
    zip-at IsReplyTo last.done (to_serve last.under (ready s).items) (ready s).replies last.served k item reply
    (subst (λ (l : List Item). slice_get l k ≡ Some item) (sym last.parts) there) told
