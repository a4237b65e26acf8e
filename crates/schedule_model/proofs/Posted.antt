-- Each letter in the queue is an output of an event.
use Rattle.std.proofs.Common.{◌≡◌, ℕ, ◌+◌, zero, suc, List, [], ◌∷◌, ◌++◌, length, Option, Some, None, slice_get, refl, ap, sym, subst, ◌∙◌, append_assoc, length-append, arith}
use Rattle.std.specs.List.{AllByRecursion}
use Rattle.log_base.proofs.Legal.{at_longer}
use Rattle.log_base.specs.ClusterShape.{Shape}
use Rattle.fault_script.specs.declared.fault.Fault.{Fault}
use Rattle.fault_script.specs.declared.fault.Fault.TheVariants as fault
use Rattle.command_frame.specs.declared.items.Item.{Item}
use Rattle.command_frame.specs.declared.items.Item.TheVariants.{Append, Read, Subscribe, Trim, Add, Finalise, Ask as AskItem, Fault as FaultItem}
use Rattle.history_frame.specs.declared.events.Event.{Event}
use Rattle.history_frame.specs.declared.events.Sent.{Sent}
use Rattle.node_model.specs.Histories.{IsDelivered, IsSent}
use Rattle.schedule_model.specs.declared.courses.Course.{Course}
use Rattle.schedule_model.specs.declared.courses.Course.TheVariants.{Replies, GoesOn, Takes, Completes, Ends, Answers, PutsOff, Replaces}
use Rattle.schedule_model.specs.declared.duties.Afterwards.{Afterwards}
use Rattle.schedule_model.specs.declared.duties.Afterwards.TheVariants.{TakenOut, LeftIn}
use Rattle.schedule_model.specs.declared.duties.Duty.{Duty}
use Rattle.schedule_model.specs.declared.duties.Duty.TheVariants.{Give, DeliverAll, DeliverOne, MakeCall}
use Rattle.schedule_model.specs.declared.duties.Signal.{Signal}
use Rattle.schedule_model.specs.declared.duties.Signal.TheVariants.{Restart, Lead, Tick, Stop}
use Rattle.schedule_model.specs.declared.turns.Turn.{Turn}
use Rattle.schedule_model.specs.Driven.{after_event, after_events}
use Rattle.schedule_model.specs.Duties.{signal_input}
use Rattle.schedule_model.specs.Scheduling.{Scheduled, Waiting, after_delivery, at_first, begins, begun, delivery, delivery_of, entered, first_step, given, letters_from, next_turn, noted, queue_after, ready, rest_in, taken, turn_in}
use Rattle.schedule_model.proofs.Along.{along, ready-keeps, some_is}
use Rattle.schedule_model.proofs.Kept.{each-append, each-remove, noted-parts}

-- the output with its index of the event at its place
pub record IsPosted (events : List Event) (letter : Waiting) : Type 0 where
  pub event : Event
  pub at : slice_get events letter.place ≡ Some event
  pub output : slice_get event.happened.outputs letter.index ≡ Some letter.sent

-- so is each letter, and the next event has the next place
pub record ArePosted (events : List Event) (s : Scheduled) : Type 0 where
  pub place : s.place ≡ length events
  pub each : AllByRecursion (IsPosted events) s.queue

-- ---- as events are added

longer : (before : List Event) (event : Event) (letters : List Waiting) → AllByRecursion (IsPosted before) letters
    → AllByRecursion (IsPosted (before ++ event ∷ [])) letters
longer before event [] h = tt
longer before event (letter ∷ letters) h =
    (record { event = h.0.event; at = (at_longer before (event ∷ []) letter.place h.0.event h.0.at).0; output = h.0.output }, longer before event letters h.1)

-- the last of some events
last_event : (before : List Event) (event : Event) → slice_get (before ++ event ∷ []) (length before) ≡ Some event
last_event [] event = refl
last_event (first ∷ before) event = last_event before event

-- an output behind others
behind : (front rest : List Sent) (sent : Sent) → slice_get (front ++ sent ∷ rest) (length front) ≡ Some sent
behind [] rest sent = refl
behind (first ∷ front) rest sent = behind front rest sent

-- the outputs of the event, from one on
new_letters : (before : List Event) (event : Event) (place index : ℕ) (front outputs : List Sent) → place ≡ length before → index ≡ length front
    → event.happened.outputs ≡ front ++ outputs
    → AllByRecursion (IsPosted (before ++ event ∷ [])) (letters_from place index outputs)
new_letters before event place index front [] here count all = tt
new_letters before event place index front (sent ∷ outputs) here count all = (
  record {
    event = event;
    at = ap (slice_get (before ++ event ∷ [])) here ∙ last_event before event;
    output = ap (λ (sents : List Sent). slice_get sents index) all ∙ ap (slice_get (front ++ sent ∷ outputs)) count ∙ behind front outputs sent;
  },
  new_letters before event place (index + 1) (front ++ sent ∷ []) outputs here
      (let more : length (front ++ sent ∷ []) ≡ length front + 1 = length-append front (sent ∷ []) in omega arith)
      (all ∙ sym (append_assoc front (sent ∷ []) outputs)),
)

-- ---- what a schedule keeps

taken-posted : (events : List Event) (s : Scheduled) (course : Course) → ArePosted events s → ArePosted events (taken s course)
taken-posted events s (Replies reply) h = record { place = h.place; each = h.each }
taken-posted events s (GoesOn duties) h = record { place = h.place; each = h.each }
taken-posted events s (Takes position entry next) h = record { place = h.place; each = h.each }
taken-posted events s (Completes position entry) h = record { place = h.place; each = h.each }
taken-posted events s (Ends last) h = record { place = h.place; each = h.each }
taken-posted events s (Answers reply duties) h = record { place = h.place; each = h.each }
taken-posted events s (PutsOff reply asked) h = record { place = h.place; each = h.each }
taken-posted events s (Replaces item reply) h = record { place = h.place; each = h.each }

-- a letter that is taken out leaves the others
line-posted : (events : List Event) (lane : ℕ) (f : Fault) (queue : List Waiting) → AllByRecursion (IsPosted events) queue
    → AllByRecursion (IsPosted events) (queue_after (FaultItem lane f) queue)
line-posted events lane fault.Hold queue h = h
line-posted events lane fault.Settle queue h = h
line-posted events lane (fault.Tick node) queue h = h
line-posted events lane (fault.Deliver letter) queue h = h
line-posted events lane (fault.Drop letter) queue h = each-remove (IsPosted events) queue letter h
line-posted events lane (fault.Again letter) queue h = h
line-posted events lane (fault.Stop node) queue h = h
line-posted events lane (fault.StopAfter node after keep) queue h = h
line-posted events lane (fault.Lose node after) queue h = h
line-posted events lane (fault.Restart node) queue h = h
line-posted events lane (fault.Lead orderer) queue h = h
line-posted events lane fault.Resubmit queue h = h

left-posted : (events : List Event) (item : Item) (queue : List Waiting) → AllByRecursion (IsPosted events) queue
    → AllByRecursion (IsPosted events) (queue_after item queue)
left-posted events (Append lane shard replica bytes) queue h = h
left-posted events (Read lane shard replica position) queue h = h
left-posted events (Subscribe lane shard replica from count) queue h = h
left-posted events (Trim lane position) queue h = h
left-posted events (Add lane shard) queue h = h
left-posted events (Finalise lane shard) queue h = h
left-posted events (AskItem lane) queue h = h
left-posted events (FaultItem lane f) queue h = line-posted events lane f queue h

begun-posted : (events : List Event) (s : Scheduled) (item : Item) (items : List Item) → ArePosted events s → ArePosted events (begun s item items)
begun-posted events s item items h =
    taken-posted events (entered s item items) (begins s item)
    (record { place = h.place; each = left-posted events item s.queue h.each })

pub ready-posted : (events : List Event) (s : Scheduled) → ArePosted events s → ArePosted events (ready s)
ready-posted events s h =
    ready-keeps (ArePosted events) (λ x p. record { place = p.place; each = p.each }) (λ x item items left idle p. begun-posted events x item items p) s h

delivery-posted : (events : List Event) (s : Scheduled) (queue : List Waiting) → s.queue ≡ queue → ArePosted events s → ArePosted events (rest_in s (delivery s queue))
delivery-posted events s [] e h = h
delivery-posted events s (letter ∷ queue) e h = record { place = h.place; each = let all = subst (AllByRecursion (IsPosted events)) e h.each in all.1 }

after-posted : (events : List Event) (afterwards : Afterwards) (queue : List Waiting) (letter : ℕ) → AllByRecursion (IsPosted events) queue
    → AllByRecursion (IsPosted events) (after_delivery afterwards queue letter)
after-posted events TakenOut queue letter h = each-remove (IsPosted events) queue letter h
after-posted events LeftIn queue letter h = h

picked-posted : (events : List Event) (s : Scheduled) (duties : List Duty) (number : ℕ) (afterwards : Afterwards) (letter : Option Waiting) → ArePosted events s
    → ArePosted events (rest_in s (delivery_of s duties number afterwards letter))
picked-posted events s duties number afterwards None h = h
picked-posted events s duties number afterwards (Some letter) h =
    record { place = h.place; each = after-posted events afterwards s.queue number h.each }

first-posted : (events : List Event) (s : Scheduled) (duties : List Duty) → ArePosted events s → ArePosted events (rest_in s (first_step s duties))
first-posted events s [] h = h
first-posted events s (Give signal first count ∷ duties) h = record { place = h.place; each = h.each }
first-posted events s (DeliverAll ∷ duties) h = delivery-posted events s s.queue refl h
first-posted events s (DeliverOne letter afterwards ∷ duties) h = picked-posted events s duties letter afterwards (slice_get s.queue letter) h
first-posted events s (MakeCall node call awaited ∷ duties) h = record { place = h.place; each = h.each }

given-posted : (events : List Event) (s : Scheduled) → ArePosted events s → ArePosted events (given s)
given-posted events s h =
    let first = first-posted events (ready s) (ready s).duties (ready-posted events s h) in
    record { place = first.place; each = first.each }

noted-posted : (before : List Event) (event : Event) (s : Scheduled) → ArePosted before s
    → ArePosted (before ++ event ∷ []) (noted s event.happened.outputs event.happened.reply)
noted-posted before event s h =
    subst (ArePosted (before ++ event ∷ [])) (sym (noted-parts s event.happened.outputs event.happened.reply))
    (record {
      place = let more : length (before ++ event ∷ []) ≡ length before + 1 = length-append before (event ∷ []) in ap (λ (n : ℕ). n + 1) h.place ∙ sym more;
      each = each-append (IsPosted (before ++ event ∷ [])) s.queue (letters_from s.place 0 event.happened.outputs)
          (longer before event s.queue h.each)
          (new_letters before event s.place 0 [] event.happened.outputs h.place refl refl);
    })

event-posted : (before : List Event) (s : Scheduled) (event : Event) → ArePosted before s → ArePosted (before ++ event ∷ []) (after_event s event)
event-posted before s event h = noted-posted before event (given s) (given-posted before s h)

pub events-posted : (s : Scheduled) (events : List Event) → ArePosted [] s → ArePosted events (after_events s events)
events-posted s events h = along ArePosted event-posted [] s events h

pub first-posted-is : (config : Shape) (run : ℕ) (items : List Item) → ArePosted [] (at_first config run items)
first-posted-is config run items = record { place = refl; each = tt }

-- ---- the letter that is delivered

each-at : {X : Type 0} (P : X → Type 0) (xs : List X) (k : ℕ) (x : X) → AllByRecursion P xs → slice_get xs k ≡ Some x → P x
each-at P [] k x h e = cc
each-at P (y ∷ ys) zero x h e = let same : y ≡ x = cc in subst P same h.0
each-at P (y ∷ ys) (suc k) x h e = each-at P ys k x h.1 e

posted-sent : (events : List Event) (letter : Waiting) → IsPosted events letter → IsSent events letter.sent.to.0 letter.place letter.index letter.sent.message
posted-sent events letter h = record { event = h.event; at = h.at; output = h.output }

pub queue-sent : (events : List Event) (s : Scheduled) (k : ℕ) (letter : Waiting) → ArePosted events s → slice_get s.queue k ≡ Some letter
    → IsSent events letter.sent.to.0 letter.place letter.index letter.sent.message
queue-sent events s k letter h e = posted-sent events letter (each-at (IsPosted events) s.queue k letter h.each e)

signal-delivered : (events : List Event) (node : ℕ) (signal : Signal) → IsDelivered events node (signal_input signal)
signal-delivered events node Restart = tt
signal-delivered events node Lead = tt
signal-delivered events node Tick = tt
signal-delivered events node Stop = tt

-- the turn of a letter delivers what was sent
abbrev pub Delivers : List Event → Turn → Type 0
Delivers events turn = IsDelivered events turn.node.0 turn.input

delivery-delivered : (events : List Event) (s : Scheduled) (queue : List Waiting) (turn : Turn) → AllByRecursion (IsPosted events) queue
    → turn_in (delivery s queue) ≡ Some turn → Delivers events turn
delivery-delivered events s [] turn h e = cc
delivery-delivered events s (letter ∷ queue) turn h e = subst (Delivers events) (some_is e) (posted-sent events letter h.0)

picked-delivered : (events : List Event) (s : Scheduled) (duties : List Duty) (number : ℕ) (afterwards : Afterwards) (letter : Option Waiting)
    → slice_get s.queue number ≡ letter → (turn : Turn) → ArePosted events s
    → turn_in (delivery_of s duties number afterwards letter) ≡ Some turn → Delivers events turn
picked-delivered events s duties number afterwards None there turn h e = cc
picked-delivered events s duties number afterwards (Some letter) there turn h e =
    subst (Delivers events) (some_is e) (queue-sent events s number letter h there)

first-delivered : (events : List Event) (s : Scheduled) (duties : List Duty) (turn : Turn) → ArePosted events s
    → turn_in (first_step s duties) ≡ Some turn → Delivers events turn
first-delivered events s [] turn h e = cc
first-delivered events s (Give signal first count ∷ duties) turn h e = subst (Delivers events) (some_is e) (signal-delivered events first.0 signal)
first-delivered events s (DeliverAll ∷ duties) turn h e = delivery-delivered events s s.queue turn h.each e
first-delivered events s (DeliverOne letter afterwards ∷ duties) turn h e =
    picked-delivered events s duties letter afterwards (slice_get s.queue letter) refl turn h e
first-delivered events s (MakeCall node call awaited ∷ duties) turn h e = subst (Delivers events) (some_is e) tt

pub next-delivered : (events : List Event) (s : Scheduled) (turn : Turn) → ArePosted events s → next_turn s ≡ Some turn
    → IsDelivered events turn.node.0 turn.input
next-delivered events s turn h e = first-delivered events (ready s) (ready s).duties turn (ready-posted events s h) e
