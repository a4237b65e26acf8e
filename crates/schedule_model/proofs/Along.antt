-- What is so of a schedule at first, and stays so at each event, is so after all events.
use Rattle.std.proofs.Common.{◌≡◌, Bool, true, false, cond, List, [], ◌∷◌, ◌++◌, Some, refl, sym, subst, append_assoc, append-nil}
use Rattle.command_frame.specs.declared.items.Item.{Item}
use Rattle.history_frame.specs.declared.events.Event.{Event}
use Rattle.schedule_model.specs.declared.turns.Turn.{Turn}
use Rattle.schedule_model.specs.Driven.{Follow, after_event, after_events, turn_of}
use Rattle.schedule_model.specs.Scheduling.{Scheduled, begun, is_idle, next_turn, passed, ready, ready_with}
use Rattle.schedule_model.proofs.Ready.{begun-items}

-- turns that are the same
pub some_is : {one other : Turn} → Some one ≡ Some other → one ≡ other
some_is e = cc

-- ---- one more event

pub after_events-push : (s : Scheduled) (events : List Event) (event : Event)
    → after_events s (events ++ event ∷ []) ≡ after_event (after_events s events) event
after_events-push s [] event = refl
after_events-push s (first ∷ events) event = after_events-push (after_event s first) events event

pub Follow-push : (s : Scheduled) (events : List Event) (event : Event) → Follow s events
    → next_turn (after_events s events) ≡ Some (turn_of event) → Follow s (events ++ event ∷ [])
Follow-push s [] event h next = (next, tt)
Follow-push s (first ∷ events) event h next = (h.0, Follow-push (after_event s first) events event h.1 next)

pub Follow-front : (s : Scheduled) (events : List Event) (event : Event) → Follow s (events ++ event ∷ []) → Follow s events
Follow-front s [] event h = tt
Follow-front s (first ∷ events) event h = (h.0, Follow-front (after_event s first) events event h.1)

pub Follow-last : (s : Scheduled) (events : List Event) (event : Event) → Follow s (events ++ event ∷ [])
    → next_turn (after_events s events) ≡ Some (turn_of event)
Follow-last s [] event h = h.0
Follow-last s (first ∷ events) event h = Follow-last (after_event s first) events event h.1

-- ---- all events

-- whatever the events are
pub along : (P : List Event → Scheduled → Type 0)
    → ((before : List Event) (s : Scheduled) (event : Event) → P before s → P (before ++ event ∷ []) (after_event s event))
    → (before : List Event) (s : Scheduled) (events : List Event) → P before s → P (before ++ events) (after_events s events)
along P goes before s [] h = subst (λ (events : List Event). P events s) (sym (append-nil before)) h
along P goes before s (event ∷ events) h =
    subst (λ (all : List Event). P all (after_events (after_event s event) events)) (append_assoc before (event ∷ []) events)
    (along P goes (before ++ event ∷ []) (after_event s event) events (goes before s event h))

-- where the events follow the schedule
pub followed-along : (P : List Event → Scheduled → Type 0)
    → ((before : List Event) (s : Scheduled) (event : Event) → P before s → next_turn s ≡ Some (turn_of event) → P (before ++ event ∷ []) (after_event s event))
    → (before : List Event) (s : Scheduled) (events : List Event) → P before s → Follow s events → P (before ++ events) (after_events s events)
followed-along P goes before s [] h follow = subst (λ (events : List Event). P events s) (sym (append-nil before)) h
followed-along P goes before s (event ∷ events) h follow =
    subst (λ (all : List Event). P all (after_events (after_event s event) events)) (append_assoc before (event ∷ []) events)
    (followed-along P goes (before ++ event ∷ []) (after_event s event) events (goes before s event h follow.0) follow.1)

-- ---- up to the next turn

ready-chosen : (P : Scheduled → Type 0) (s : Scheduled) (item : Item) (items : List Item) (idle : Bool) → is_idle (passed s) ≡ idle
    → P (passed s) → (is_idle (passed s) ≡ true → P (ready_with (begun (passed s) item items) items))
    → P (cond idle (ready_with (begun (passed s) item items) items) (passed s))
ready-chosen P s item items true h passes begins = begins h
ready-chosen P s item items false h passes begins = passes

ready_with-keeps : (P : Scheduled → Type 0) → ((s : Scheduled) → P s → P (passed s))
    → ((s : Scheduled) (item : Item) (items : List Item) → s.items ≡ item ∷ items → is_idle s ≡ true → P s → P (begun s item items))
    → (s : Scheduled) (items : List Item) → s.items ≡ items → P s → P (ready_with s items)
ready_with-keeps P passes begins s [] left h = passes s h
ready_with-keeps P passes begins s (item ∷ items) left h =
    ready-chosen P s item items (is_idle (passed s)) refl (passes s h)
    (λ idle. ready_with-keeps P passes begins (begun (passed s) item items) items (begun-items (passed s) item items)
    (begins (passed s) item items left idle (passes s h)))

-- what passing over and beginnings keep is so where all is ready
pub ready-keeps : (P : Scheduled → Type 0) → ((s : Scheduled) → P s → P (passed s))
    → ((s : Scheduled) (item : Item) (items : List Item) → s.items ≡ item ∷ items → is_idle s ≡ true → P s → P (begun s item items))
    → (s : Scheduled) → P s → P (ready s)
ready-keeps P passes begins s h = ready_with-keeps P passes begins s s.items refl h
