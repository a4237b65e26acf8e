-- All of a schedule stays permitted.
use Rattle.std.proofs.Common.{◌≡◌, ℕ, ◌+◌, ◌-◌, ◌<◌, ◌≤◌, false, ◌==◌, List, [], ◌∷◌, length, slice_get, Option, Some, None, refl, sym, subst, arith}
use Rattle.std.specs.List.{AllByRecursion}
use Rattle.std.proofs.lemmas.Grind.{common_steps}
use Rattle.log_base.specs.ClusterShape.{InRange, Shape}
use Rattle.command_frame.specs.declared.items.Item.{Item}
use Rattle.command_frame.specs.Items.{IsItem}
use Rattle.reply_frame.specs.declared.replies.Reply.{Reply}
use Rattle.history_frame.specs.declared.events.Event.{Event}
use Rattle.history_frame.specs.declared.events.Sent.{Sent}
use Rattle.node_table.specs.Numbering.{nodes_of}
use Rattle.schedule_model.specs.declared.duties.Awaited.{Awaited}
use Rattle.schedule_model.specs.declared.duties.Afterwards.{Afterwards}
use Rattle.schedule_model.specs.declared.duties.Duty.{Duty}
use Rattle.schedule_model.specs.declared.duties.Duty.TheVariants.{Give, DeliverAll, DeliverOne, MakeCall}
use Rattle.schedule_model.specs.declared.duties.Signal.{Signal}
use Rattle.schedule_model.specs.declared.duties.Signal.TheVariants.{Restart, Lead, Tick, Stop}
use Rattle.schedule_model.specs.declared.turns.Turn.{Turn}
use Rattle.schedule_model.specs.Calling.{IsAllowed, IsNoLetter}
use Rattle.schedule_model.specs.Driven.{after_event, after_events}
use Rattle.schedule_model.specs.Duties.{opening}
use Rattle.schedule_model.specs.Scheduling.{Scheduled, Waiting, after_delivery, at_first, delivery, delivery_of, first_step, given, handed, is_first_done, next_turn, noted, passed, ready, rest_in, turn_in}
use Rattle.schedule_model.proofs.Along.{along, ready-keeps, some_is}
use Rattle.schedule_model.proofs.Counted.{ready-undone}
use Rattle.schedule_model.proofs.Kept.{each-due, none-drawn, none-kept, none-recorded, noted-parts}
use Rattle.schedule_model.proofs.Permitted.{AllPermitted, IsAnswerOrNone, IsPermitted, IsPrimaryOr, IsRecord, IsSignalFor, call_allowed, signal_allowed}
use Rattle.schedule_model.proofs.BeginningsPermitted.{begun-permitted}
use Rattle.schedule_model.proofs.AnswersPermitted.{followed-permitted, followed-questions}

opening-permitted : (config : Shape) → InRange config → AllByRecursion (IsPermitted config) (opening config)
opening-permitted config range = ((omega arith, tt), ((omega arith, omega arith), (tt, tt)))

-- ---- up to the next turn

pub passed-permitted : (s : Scheduled) → AllPermitted s → AllPermitted (passed s)
passed-permitted s h = record {
  range = h.range;
  run_fits = h.run_fits;
  items = h.items;
  duties = each-due (IsPermitted s.config) s.queue s.duties h.duties;
  answer = h.answer;
  lanes = h.lanes;
  room = h.room;
  kept = h.kept;
  primaries = h.primaries;
  recorded = h.recorded;
  records = h.records;
  questions = h.questions;
  plans = h.plans;
}

pub ready-permitted : (s : Scheduled) → AllPermitted s → AllPermitted (ready s)
ready-permitted s h = ready-keeps AllPermitted passed-permitted (λ x item items left idle p. begun-permitted x item items left p) s h

-- ---- an event

with_duties : (s : Scheduled) (duties : List Duty) (awaited : Option Awaited) (queue : List Waiting) → AllPermitted s → AllByRecursion (IsPermitted s.config) duties
    → IsAnswerOrNone s.config awaited → AllPermitted (record s { duties = duties; awaited = awaited; queue = queue })
with_duties s duties awaited queue h each answer = record {
  range = h.range;
  run_fits = h.run_fits;
  items = h.items;
  duties = each;
  answer = answer;
  lanes = h.lanes;
  room = h.room;
  kept = h.kept;
  primaries = h.primaries;
  recorded = h.recorded;
  records = h.records;
  questions = h.questions;
  plans = h.plans;
}

delivery-permitted : (s : Scheduled) (queue : List Waiting) → AllPermitted s → AllPermitted (rest_in s (delivery s queue))
delivery-permitted s [] h = h
delivery-permitted s (letter ∷ queue) h = with_duties s s.duties s.awaited queue h h.duties h.answer

picked-permitted : (s : Scheduled) (duties : List Duty) (number : ℕ) (afterwards : Afterwards) (letter : Option Waiting) → AllByRecursion (IsPermitted s.config) duties
    → AllPermitted s → AllPermitted (rest_in s (delivery_of s duties number afterwards letter))
picked-permitted s duties number afterwards None each h = h
picked-permitted s duties number afterwards (Some letter) each h =
    with_duties s duties s.awaited (after_delivery afterwards s.queue number) h each h.answer

-- where a signal is not done, a node waits for it
some_left : (count : ℕ) → (count == 0) ≡ false → 0 < count
some_left count h = grind (arith, common_steps)

-- the signal goes on to the next node
signal_on : (config : Shape) (first : ℕ) (signal : Signal) → IsSignalFor config first signal → IsSignalFor config (first + 1) signal
signal_on config first Restart h = tt
signal_on config first Lead h = omega arith
signal_on config first Tick h = tt
signal_on config first Stop h = tt

first-permitted : (s : Scheduled) (duties : List Duty) → s.duties ≡ duties → is_first_done s.queue duties ≡ false → AllPermitted s
    → AllPermitted (rest_in s (first_step s duties))
first-permitted s [] e undone h = h
first-permitted s (Give signal first count ∷ duties) e undone h =
    let all = subst (AllByRecursion (IsPermitted s.config)) e h.duties in
    let some : 0 < count = some_left count undone in
    let within : first.0 + count ≤ nodes_of s.config = all.0.0 in
    with_duties s (Give signal (record { 0 = first.0 + 1 }) (count - 1) ∷ duties) s.awaited s.queue h
    ((omega arith, signal_on s.config first.0 signal all.0.1), all.1) h.answer
first-permitted s (DeliverAll ∷ duties) e undone h = delivery-permitted s s.queue h
first-permitted s (DeliverOne letter afterwards ∷ duties) e undone h =
    let all = subst (AllByRecursion (IsPermitted s.config)) e h.duties in
    picked-permitted s duties letter afterwards (slice_get s.queue letter) all.1 h
first-permitted s (MakeCall node call awaited ∷ duties) e undone h =
    let all = subst (AllByRecursion (IsPermitted s.config)) e h.duties in
    with_duties s duties (Some awaited) s.queue h all.1 all.0.1

handed-permitted : (s : Scheduled) → AllPermitted s → AllPermitted (handed s)
handed-permitted s h = record {
  range = h.range;
  run_fits = h.run_fits;
  items = h.items;
  duties = h.duties;
  answer = h.answer;
  lanes = h.lanes;
  room = h.room;
  kept = h.kept;
  primaries = h.primaries;
  recorded = h.recorded;
  records = h.records;
  questions = h.questions;
  plans = tt;
}

pub given-permitted : (s : Scheduled) → AllPermitted s → AllPermitted (given s)
given-permitted s h = handed-permitted (rest_in (ready s) (first_step (ready s) (ready s).duties))
    (first-permitted (ready s) (ready s).duties refl (ready-undone s) (ready-permitted s h))

noted-permitted : (s : Scheduled) (outputs : List Sent) (reply : Reply) → AllPermitted s → AllPermitted (noted s outputs reply)
noted-permitted s outputs reply h =
    subst AllPermitted (sym (noted-parts s outputs reply))
    (record {
      range = h.range;
      run_fits = h.run_fits;
      items = h.items;
      duties = followed-permitted s.config s.hold s.awaited reply s.duties h.answer h.duties;
      answer = tt;
      lanes = h.lanes;
      room = h.room;
      kept = h.kept;
      primaries = h.primaries;
      recorded = h.recorded;
      records = h.records;
      questions = followed-questions s.config s.awaited reply (length s.replies) s.hold h.answer h.questions;
      plans = h.plans;
    })

pub event-permitted : (before : List Event) (s : Scheduled) (event : Event) → AllPermitted s → AllPermitted (after_event s event)
event-permitted before s event h = noted-permitted (given s) event.happened.outputs event.happened.reply (given-permitted s h)

pub events-permitted : (s : Scheduled) (events : List Event) → AllPermitted s → AllPermitted (after_events s events)
events-permitted s events h = along (λ some x. AllPermitted x) event-permitted [] s events h

pub first-permitted-is : (config : Shape) (run : ℕ) (items : List Item) → InRange config → run ≤ 1000000 → length items ≤ 65536
    → AllByRecursion (IsItem config) items → AllPermitted (at_first config run items)
first-permitted-is config run items range small few is = record {
  range = range;
  run_fits = small;
  items = is;
  duties = opening-permitted config range;
  answer = tt;
  lanes = refl;
  room = λ lane. let none = none-drawn 64 lane in omega arith;
  kept = refl;
  primaries = λ lane. subst (IsPrimaryOr config) (sym (none-kept 64 lane)) tt;
  recorded = refl;
  records = λ lane. subst IsRecord (sym (none-recorded 64 lane)) (omega arith, λ k. omega arith);
  questions = tt;
  plans = tt;
}

-- ---- the next turn

delivery-allowed : (s : Scheduled) (queue : List Waiting) (turn : Turn) → turn_in (delivery s queue) ≡ Some turn → IsNoLetter turn.input → IsAllowed s.config turn
delivery-allowed s [] turn e plain = cc
delivery-allowed s (letter ∷ queue) turn e plain = absurd (subst (λ (some : Turn). IsNoLetter some.input) (sym (some_is e)) plain)

picked-allowed : (s : Scheduled) (duties : List Duty) (number : ℕ) (afterwards : Afterwards) (letter : Option Waiting) (turn : Turn)
    → turn_in (delivery_of s duties number afterwards letter) ≡ Some turn → IsNoLetter turn.input → IsAllowed s.config turn
picked-allowed s duties number afterwards None turn e plain = cc
picked-allowed s duties number afterwards (Some letter) turn e plain = absurd (subst (λ (some : Turn). IsNoLetter some.input) (sym (some_is e)) plain)

first-allowed : (s : Scheduled) (duties : List Duty) (turn : Turn) → is_first_done s.queue duties ≡ false → AllByRecursion (IsPermitted s.config) duties
    → turn_in (first_step s duties) ≡ Some turn → IsNoLetter turn.input → IsAllowed s.config turn
first-allowed s [] turn undone h e plain = cc
first-allowed s (Give signal first count ∷ duties) turn undone h e plain =
    subst (IsAllowed s.config) (some_is e)
    (signal_allowed s.config first signal (let some : 0 < count = some_left count undone in let within : first.0 + count ≤ nodes_of s.config = h.0.0 in omega arith) h.0.1)
first-allowed s (DeliverAll ∷ duties) turn undone h e plain = delivery-allowed s s.queue turn e plain
first-allowed s (DeliverOne letter afterwards ∷ duties) turn undone h e plain =
    picked-allowed s duties letter afterwards (slice_get s.queue letter) turn e plain
first-allowed s (MakeCall node call awaited ∷ duties) turn undone h e plain =
    subst (IsAllowed s.config) (some_is e) (call_allowed s.config node.0 call h.0.0)

pub next-allowed : (s : Scheduled) (turn : Turn) → AllPermitted s → next_turn s ≡ Some turn → IsNoLetter turn.input → IsAllowed (ready s).config turn
next-allowed s turn h e plain = first-allowed (ready s) (ready s).duties turn (ready-undone s) (ready-permitted s h).duties e plain
