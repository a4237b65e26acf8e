-- The laws of the schedule of a run.
use Rattle.std.proofs.Common.{◌≡◌, ℕ, ◌≤◌, List, [], ◌∷◌, ◌++◌, length, Some, None, slice_get, refl, subst}
use Rattle.std.specs.List.{AllByRecursion}
use Rattle.log_base.specs.ClusterShape.{Shape}
use Rattle.command_frame.specs.declared.items.Item.{Item}
use Rattle.history_frame.specs.declared.events.Event.{Event}
use Rattle.node_model.specs.Histories.{IsDelivered, IsSent}
use Rattle.node_model.specs.Legal.{AgreesWith, IsOfRun}
use Rattle.schedule_model.specs.declared.turns.Turn.{Turn}
use Rattle.schedule_model.specs.Calling.{IsAllowed, IsNoLetter, IsPlanned, IsRun}
use Rattle.schedule_model.specs.Driven.{IsFollowed, after_event, next_plans_after, next_turn_after, replies_of, scheduled_after, turn_of}
use Rattle.schedule_model.specs.Scheduling.{Waiting, at_first, ready}
use Rattle.schedule_model.proofs.Along.{Follow-front, Follow-last, Follow-push, after_events-push}
use Rattle.schedule_model.proofs.Counted.{IsCounted, events-counted, first-counted-is, over-counted, replies-counted}
use Rattle.schedule_model.proofs.Head.{IsOf, events-of, ready-of}
use Rattle.schedule_model.proofs.Permitted.{AllPermitted}
use Rattle.schedule_model.proofs.Permitting.{events-permitted, first-permitted-is, next-allowed, ready-permitted}
use Rattle.schedule_model.proofs.Posted.{ArePosted, events-posted, first-posted-is, next-delivered, queue-sent}
use Rattle.schedule_model.proofs.Submitting.{IsBetween, events-between, first-between, next-agrees, next-of-run}

posted : (config : Shape) (run : ℕ) (items : List Item) (events : List Event) → ArePosted events (scheduled_after config run items events)
posted config run items events = events-posted (at_first config run items) events (first-posted-is config run items)

pub next_place : (config : Shape) (run : ℕ) (items : List Item) (events : List Event) → (scheduled_after config run items events).place ≡ length events
next_place config run items events = (posted config run items events).place

pub letters_sent : (config : Shape) (run : ℕ) (items : List Item) (events : List Event) (k : ℕ) (letter : Waiting)
    → slice_get (scheduled_after config run items events).queue k ≡ Some letter
    → IsSent events letter.sent.to.0 letter.place letter.index letter.sent.message
letters_sent config run items events k letter e = queue-sent events (scheduled_after config run items events) k letter (posted config run items events) e

pub turn_delivered : (config : Shape) (run : ℕ) (items : List Item) (events : List Event) (turn : Turn)
    → next_turn_after config run items events ≡ Some turn → IsDelivered events turn.node.0 turn.input
turn_delivered config run items events turn e =
    next-delivered events (scheduled_after config run items events) turn (posted config run items events) e

permitted : (config : Shape) (run : ℕ) (items : List Item) → IsRun config run items → AllPermitted (at_first config run items)
permitted config run items h = first-permitted-is config run items h.in_range h.run_fits h.few h.each

-- the config and the run where all is ready
head : (config : Shape) (run : ℕ) (items : List Item) (events : List Event) → IsOf config run (ready (scheduled_after config run items events))
head config run items events =
    ready-of config run (scheduled_after config run items events)
    (events-of config run (at_first config run items) events (record { config_is = refl; run_is = refl }))

pub turn_allowed : (config : Shape) (run : ℕ) (items : List Item) (events : List Event) (turn : Turn) → IsRun config run items
    → next_turn_after config run items events ≡ Some turn → IsNoLetter turn.input → IsAllowed config turn
turn_allowed config run items events turn h e plain =
    subst (λ (c : Shape). IsAllowed c turn) (head config run items events).config_is
    (next-allowed (scheduled_after config run items events) turn (events-permitted (at_first config run items) events (permitted config run items h)) e plain)

pub plans_allowed : (config : Shape) (run : ℕ) (items : List Item) (events : List Event) → IsRun config run items
    → AllByRecursion (IsPlanned config) (next_plans_after config run items events)
plans_allowed config run items events h =
    subst (λ (c : Shape). AllByRecursion (IsPlanned c) (next_plans_after config run items events)) (head config run items events).config_is
    (ready-permitted (scheduled_after config run items events)
    (events-permitted (at_first config run items) events (permitted config run items h))).plans

between : (config : Shape) (run : ℕ) (items : List Item) (events : List Event) → IsRun config run items → IsFollowed config run items events
    → IsBetween events (scheduled_after config run items events)
between config run items events h follow =
    events-between (at_first config run items) events (first-between config run items (permitted config run items h)) follow

pub turn_of_run : (config : Shape) (run : ℕ) (items : List Item) (events : List Event) (turn : Turn) → IsRun config run items
    → IsFollowed config run items events → next_turn_after config run items events ≡ Some turn → IsOfRun run turn.input
turn_of_run config run items events turn h follow e =
    subst (λ (r : ℕ). IsOfRun r turn.input) (head config run items events).run_is
    (next-of-run events (scheduled_after config run items events) turn (between config run items events h follow) e)

pub event_agrees : (config : Shape) (run : ℕ) (items : List Item) (events : List Event) (event : Event) → IsRun config run items
    → IsFollowed config run items (events ++ event ∷ []) → AllByRecursion (AgreesWith event) events
event_agrees config run items events event h follow =
    next-agrees events (scheduled_after config run items events) event
    (between config run items events h (Follow-front (at_first config run items) events event follow))
    (Follow-last (at_first config run items) events event follow)

counted : (config : Shape) (run : ℕ) (items : List Item) (events : List Event) → IsCounted (length items) (scheduled_after config run items events)
counted config run items events = events-counted (length items) (at_first config run items) events (first-counted-is config run items)

pub replies_few : (config : Shape) (run : ℕ) (items : List Item) (events : List Event) → length (replies_of config run items events) ≤ length items
replies_few config run items events = replies-counted (length items) (scheduled_after config run items events) (counted config run items events)

pub replies_all : (config : Shape) (run : ℕ) (items : List Item) (events : List Event) → next_turn_after config run items events ≡ None
    → length (replies_of config run items events) ≡ length items
replies_all config run items events over =
    over-counted (length items) (scheduled_after config run items events) (counted config run items events) over

pub event_more : (config : Shape) (run : ℕ) (items : List Item) (events : List Event) (event : Event)
    → scheduled_after config run items (events ++ event ∷ []) ≡ after_event (scheduled_after config run items events) event
event_more config run items events event = after_events-push (at_first config run items) events event

pub followed_more : (config : Shape) (run : ℕ) (items : List Item) (events : List Event) (event : Event) → IsFollowed config run items events
    → next_turn_after config run items events ≡ Some (turn_of event) → IsFollowed config run items (events ++ event ∷ [])
followed_more config run items events event follow next = Follow-push (at_first config run items) events event follow next
