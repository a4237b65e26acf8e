-- What is so of each entry that a read found, and of the position that was read, is so of each entry in the streams of a run.
use Rattle.std.proofs.Common.{◌≡◌, ◌==◌, ◌+◌, ◌≤◌, ℕ, suc, true, List, [], ◌∷◌, length, slice_get, Option, Some, None, refl, ap, sym, subst, ◌∙◌, arith}
use Rattle.std.specs.List.{AllByRecursion}
use Rattle.std.proofs.lemmas.Bool.{eqb-true}
use Rattle.std.proofs.lemmas.Option.{none-some}
use Rattle.log_base.specs.ClusterShape.{Shape}
use Rattle.record_frame.specs.declared.entries.Entry.{Entry}
use Rattle.command_frame.specs.declared.items.Item.{Item}
use Rattle.reply_frame.specs.declared.replies.Reply.{Reply, Nothing}
use Rattle.history_frame.specs.declared.events.Event.{Event}
use Rattle.history_frame.specs.declared.events.Sent.{Sent}
use Rattle.history_frame.specs.declared.inputs.Input.{Input}
use Rattle.subscriber.specs.Following.{Following, after_offer}
use Rattle.schedule_model.specs.declared.courses.Course.{Course}
use Rattle.schedule_model.specs.declared.courses.Course.TheVariants.{Replies, GoesOn, Takes, Completes, Ends, Answers, PutsOff, Replaces}
use Rattle.schedule_model.specs.declared.duties.Awaited.{Awaited}
use Rattle.schedule_model.specs.declared.duties.Awaited.TheVariants.{Storing, Requesting, Reading, Streaming, StreamingOn, Last, Held, Again}
use Rattle.schedule_model.specs.declared.duties.Afterwards.{Afterwards}
use Rattle.schedule_model.specs.declared.duties.Duty.{Duty}
use Rattle.schedule_model.specs.declared.duties.Duty.TheVariants.{Give, DeliverAll, DeliverOne, MakeCall}
use Rattle.schedule_model.specs.declared.duties.PutOff.{PutOff}
use Rattle.schedule_model.specs.declared.turns.Turn.{Turn}
use Rattle.schedule_model.specs.Courses.{asked, course_in}
use Rattle.schedule_model.specs.Driven.{Follow, IsFollowed, after_event, after_events, replies_of, turn_of}
use Rattle.schedule_model.specs.Streams.{IsSingle, stream_of}
use Rattle.schedule_model.specs.Scheduling.{Scheduled, Step, Waiting, answered, at_first, begins, begun, delivery, delivery_of, entered, first_step, handed, is_idle, joined, next_step, next_turn, noted, passed, ready, rest_in, scene_of, taken, turn_in}
use Rattle.schedule_model.proofs.Along.{ready-keeps, some_is}
use Rattle.schedule_model.proofs.Counted.{awaited_in, beginning-count, calls_in, calls_in-append, course_count, course_in-count, due-calls, step_in}
use Rattle.schedule_model.proofs.Kept.{each-append, each-due, each-set}
use Rattle.stream_law.specs.Streams.{EachInStream}
use Rattle.stream_law.proofs.Takings.{IsAwaitedOrNone, IsDutyWith, IsGood, IsGoodAnswer, beginning-good, in-good, no_call, no_calls, single-good}

pub idle_calls : (duties : List Duty) → (length duties == 0) ≡ true → calls_in duties ≡ 0
idle_calls [] idle = refl
idle_calls (duty ∷ duties) idle = let none = eqb-true (suc (length duties)) 0 idle in absurd (omega arith)

module _ (P : ℕ → Entry → Type 0) where
  -- ---- a schedule

  -- between events, and once a turn is given
  record AreGood (s : Scheduled) : Type 0 where
    replies : AllByRecursion (EachInStream P) s.replies
    duties : AllByRecursion (IsDutyWith P s.stream) s.duties
    none : s.awaited ≡ None
    one : calls_in s.duties ≤ 1

  record AreGiven (input : Input) (s : Scheduled) : Type 0 where
    replies : AllByRecursion (EachInStream P) s.replies
    duties : AllByRecursion (IsDutyWith P s.stream) s.duties
    awaited : IsAwaitedOrNone P s.stream input s.awaited
    one : calls_in s.duties + awaited_in s.awaited ≤ 1

  taken-good : (s : Scheduled) (course : Course) → AllByRecursion (EachInStream P) s.replies → calls_in s.duties ≡ 0 → s.awaited ≡ None
      → course_count course ≡ 1 → IsGood P s.stream course → AreGood (taken s course)
  taken-good s (Replies reply) replies idle none one good = record {
    replies = each-append (EachInStream P) s.replies (reply ∷ []) replies (good, tt);
    duties = no_calls (IsDutyWith P s.stream) (no_call P s.stream) s.duties idle;
    none = none;
    one = omega arith;
  }
  taken-good s (GoesOn duties) replies idle none one good =
      let more = calls_in-append duties s.duties in
      record {
        replies = replies;
        duties = each-append (IsDutyWith P s.stream) duties s.duties good (no_calls (IsDutyWith P s.stream) (no_call P s.stream) s.duties idle);
        none = none;
        one = omega arith;
      }
  taken-good s (Takes position entry next) replies idle none one good =
      let stream : Following = after_offer s.stream position.0 entry in
      record {
        replies = replies;
        duties = (good, no_calls (IsDutyWith P stream) (no_call P stream) s.duties idle);
        none = none;
        one = omega arith;
      }
  taken-good s (Completes position entry) replies idle none one good = record {
    replies = each-append (EachInStream P) s.replies (stream_of (after_offer s.stream position.0 entry) Nothing ∷ []) replies (good, tt);
    duties = no_calls (IsDutyWith P _) (no_call P _) s.duties idle;
    none = none;
    one = omega arith;
  }
  taken-good s (Ends last) replies idle none one good = record {
    replies = each-append (EachInStream P) s.replies (stream_of s.stream last ∷ []) replies (good, tt);
    duties = no_calls (IsDutyWith P _) (no_call P _) s.duties idle;
    none = none;
    one = omega arith;
  }
  taken-good s (Answers reply duties) replies idle none one good =
      let more = calls_in-append duties s.duties in
      record {
        replies = each-append (EachInStream P) s.replies (reply ∷ []) replies (good.0, tt);
        duties = each-append (IsDutyWith P s.stream) duties s.duties good.1 (no_calls (IsDutyWith P s.stream) (no_call P s.stream) s.duties idle);
        none = none;
        one = omega arith;
      }
  taken-good s (PutsOff reply asked) replies idle none one good = record {
    replies = each-append (EachInStream P) s.replies (reply ∷ []) replies (good, tt);
    duties = no_calls (IsDutyWith P s.stream) (no_call P s.stream) s.duties idle;
    none = none;
    one = omega arith;
  }
  taken-good s (Replaces item reply) replies idle none one good = absurd (omega arith)

  -- an item that is asked again has its reply replaced
  replaced-good : (s : Scheduled) (item : ℕ) (reply : Reply) → AllByRecursion (EachInStream P) s.replies → AllByRecursion (IsDutyWith P s.stream) s.duties
      → calls_in s.duties ≤ 1 → s.awaited ≡ None → IsSingle reply → AreGood (taken s (Replaces item reply))
  replaced-good s item reply replies duties one none single =
      record { replies = each-set (EachInStream P) s.replies item reply replies (single-good P reply single); duties = duties; none = none; one = one }

  begun-good : (s : Scheduled) (item : Item) (items : List Item) → s.items ≡ item ∷ items → is_idle s ≡ true → AreGood s → AreGood (begun s item items)
  begun-good s item items left idle h =
      taken-good (entered s item items) (begins s item) h.replies (idle_calls s.duties idle) h.none
      (beginning-count s.config s.run s.draws s.primaries (scene_of s) item)
      (beginning-good P s.config s.run s.draws s.primaries (scene_of s) s.stream item)

  passed-good : (s : Scheduled) → AreGood s → AreGood (passed s)
  passed-good s h = record {
    replies = h.replies;
    duties = each-due (IsDutyWith P s.stream) s.queue s.duties h.duties;
    none = h.none;
    one = let same = due-calls s.queue s.duties in let one : calls_in s.duties ≤ 1 = h.one in omega arith;
  }

  ready-good : (s : Scheduled) → AreGood s → AreGood (ready s)
  ready-good s h = ready-keeps AreGood passed-good begun-good s h

  -- ---- a turn

  abbrev IsStepGood : Option Step → Type 0
  IsStepGood None = Unit {0}
  IsStepGood (Some step) = AreGiven step.turn.input step.rest

  -- no answer is awaited
  none-awaited : (s : Scheduled) (input : Input) → s.awaited ≡ None → IsAwaitedOrNone P s.stream input s.awaited
  none-awaited s input none = subst (IsAwaitedOrNone P s.stream input) (sym none) tt

  delivery-good : (s : Scheduled) (queue : List Waiting) → AreGood s → IsStepGood (delivery s queue)
  delivery-good s [] h = tt
  delivery-good s (letter ∷ queue) h = record {
    replies = h.replies;
    duties = h.duties;
    awaited = none-awaited s _ h.none;
    one = let quiet = ap awaited_in h.none in let one : calls_in s.duties ≤ 1 = h.one in omega arith;
  }

  picked-good : (s : Scheduled) (duties : List Duty) (number : ℕ) (afterwards : Afterwards) (letter : Option Waiting) → AllByRecursion (IsDutyWith P s.stream) duties
      → calls_in s.duties ≡ calls_in duties → AreGood s → IsStepGood (delivery_of s duties number afterwards letter)
  picked-good s duties number afterwards None each same h = tt
  picked-good s duties number afterwards (Some letter) each same h = record {
    replies = h.replies;
    duties = each;
    awaited = none-awaited s _ h.none;
    one = let quiet = ap awaited_in h.none in let one : calls_in s.duties ≤ 1 = h.one in omega arith;
  }

  first-good : (s : Scheduled) (duties : List Duty) → s.duties ≡ duties → AreGood s → IsStepGood (first_step s duties)
  first-good s [] e h = tt
  first-good s (Give signal first count ∷ duties) e h =
      let all = subst (AllByRecursion (IsDutyWith P s.stream)) e h.duties in
      let same = ap calls_in e in
      let quiet = ap awaited_in h.none in
      let one : calls_in s.duties ≤ 1 = h.one in
      record { replies = h.replies; duties = (tt, all.1); awaited = none-awaited s _ h.none; one = omega arith }
  first-good s (DeliverAll ∷ duties) e h = delivery-good s s.queue h
  first-good s (DeliverOne letter afterwards ∷ duties) e h =
      let all = subst (AllByRecursion (IsDutyWith P s.stream)) e h.duties in
      let same : calls_in s.duties ≡ calls_in duties = let calls = ap calls_in e in omega arith in
      picked-good s duties letter afterwards (slice_get s.queue letter) all.1 same h
  first-good s (MakeCall node call awaited ∷ duties) e h =
      let all = subst (AllByRecursion (IsDutyWith P s.stream)) e h.duties in
      let same = ap calls_in e in
      let one : calls_in s.duties ≤ 1 = h.one in
      record { replies = h.replies; duties = all.1; awaited = all.0; one = omega arith }

  -- ---- an event

  -- an answer to an item under way
  item-good : (s : Scheduled) (input : Input) (awaited : Awaited) (reply : Reply) → step_in awaited ≡ 1 → s.awaited ≡ Some awaited → IsSingle reply
      → IsGoodAnswer P input reply → AreGiven input s → AreGood (taken (record s { awaited = None }) (course_in s.config s.hold awaited reply))
  item-good s input awaited reply step e single answer h =
      let one : calls_in s.duties + awaited_in s.awaited ≤ 1 = h.one in
      let some = ap awaited_in e in
      taken-good (record s { awaited = None }) (course_in s.config s.hold awaited reply) h.replies (omega arith) refl
      (course_in-count s.config s.hold awaited reply ∙ step)
      (in-good P s.config s.stream s.hold input awaited reply single answer (subst (IsAwaitedOrNone P s.stream input) e h.awaited))

  again-good : (s : Scheduled) (input : Input) (hold : Option (List PutOff)) (item : ℕ) (reply : Reply) → IsSingle reply → AreGiven input s
      → AreGood (taken (record s { awaited = None }) (course_in s.config hold (Again item) reply))
  again-good s input None item reply single h =
      let one : calls_in s.duties + awaited_in s.awaited ≤ 1 = h.one in
      replaced-good (record s { awaited = None }) item reply h.replies h.duties (omega arith) refl single
  again-good s input (Some put_off) item reply single h =
      let one : calls_in s.duties + awaited_in s.awaited ≤ 1 = h.one in
      replaced-good (record s { awaited = None }) item reply h.replies h.duties (omega arith) refl single

  answered-good : (s : Scheduled) (input : Input) (awaited : Option Awaited) (reply : Reply) → s.awaited ≡ awaited → IsSingle reply → IsGoodAnswer P input reply
      → AreGiven input s → AreGood (answered s awaited reply)
  answered-good s input None reply e single answer h =
      record { replies = h.replies; duties = h.duties; none = e; one = let one : calls_in s.duties + awaited_in s.awaited ≤ 1 = h.one in omega arith }
  answered-good s input (Some (Storing primary client number)) reply e single answer h = item-good s input (Storing primary client number) reply refl e single answer h
  answered-good s input (Some (Requesting orderer client value)) reply e single answer h =
      item-good s input (Requesting orderer client value) reply refl e single answer h
  answered-good s input (Some (Reading replica client position)) reply e single answer h =
      item-good s input (Reading replica client position) reply refl e single answer h
  answered-good s input (Some (Streaming subscription)) reply e single answer h = item-good s input (Streaming subscription) reply refl e single answer h
  answered-good s input (Some (StreamingOn subscription)) reply e single answer h = item-good s input (StreamingOn subscription) reply refl e single answer h
  answered-good s input (Some Last) reply e single answer h = item-good s input Last reply refl e single answer h
  answered-good s input (Some (Held asked)) reply e single answer h = item-good s input (Held asked) reply refl e single answer h
  answered-good s input (Some (Again item)) reply e single answer h = again-good s input s.hold item reply single h

  joined-good : (s : Scheduled) (input : Input) (outputs : List Sent) → AreGiven input s → AreGiven input (joined s outputs)
  joined-good s input outputs h = record { replies = h.replies; duties = h.duties; awaited = h.awaited; one = h.one }

  handed-good : (s : Scheduled) (input : Input) → AreGiven input s → AreGiven input (handed s)
  handed-good s input h = record { replies = h.replies; duties = h.duties; awaited = h.awaited; one = h.one }

  step-good : (s : Scheduled) (step : Option Step) (event : Event) → IsStepGood step → turn_in step ≡ Some (turn_of event) → IsSingle event.happened.reply
      → IsGoodAnswer P event.happened.input event.happened.reply → AreGood (noted (handed (rest_in s step)) event.happened.outputs event.happened.reply)
  step-good s None event good is single answer = absurd (none-some (turn_of event) is)
  step-good s (Some step) event good is single answer =
      let here = subst (λ (turn : Turn). AreGiven turn.input step.rest) (some_is is) good in
      answered-good (joined (handed step.rest) event.happened.outputs) event.happened.input step.rest.awaited event.happened.reply refl single answer
      (joined-good (handed step.rest) event.happened.input event.happened.outputs (handed-good step.rest event.happened.input here))

  event-good : (s : Scheduled) (event : Event) → next_turn s ≡ Some (turn_of event) → IsSingle event.happened.reply
      → IsGoodAnswer P event.happened.input event.happened.reply → AreGood s → AreGood (after_event s event)
  event-good s event is single answer h = step-good (ready s) (next_step s) event (first-good (ready s) (ready s).duties refl (ready-good s h)) is single answer

  abbrev pub AreAnswers : List Event → Type 0
  AreAnswers events = AllByRecursion (λ (e : Event). IsSingle e.happened.reply × IsGoodAnswer P e.happened.input e.happened.reply) events

  events-good : (s : Scheduled) (events : List Event) → Follow s events → AreAnswers events → AreGood s → AreGood (after_events s events)
  events-good s [] follow answers h = h
  events-good s (event ∷ events) follow answers h =
      events-good (after_event s event) events follow.1 answers.1 (event-good s event follow.0 answers.0.0 answers.0.1 h)

  -- what is so of each entry that was found, and of the position that was read, is so of each entry of a stream and its position
  pub streams-good : (config : Shape) (run : ℕ) (items : List Item) (events : List Event) → IsFollowed config run items events → AreAnswers events
      → AllByRecursion (EachInStream P) (replies_of config run items events)
  streams-good config run items events follow answers =
      let first : AreGood (at_first config run items) = record { replies = tt; duties = (tt, (tt, (tt, tt))); none = refl; one = omega arith } in
      let s = after_events (at_first config run items) events in
      let last = ready-good s (events-good (at_first config run items) events follow answers first) in
      last.replies
