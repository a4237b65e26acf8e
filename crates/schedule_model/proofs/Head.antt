-- The config and the run of a schedule stay.
use Rattle.std.proofs.Common.{◌≡◌, ℕ, List, [], ◌∷◌, Option, Some, None, slice_get, sym, subst}
use Rattle.log_base.specs.ClusterShape.{Shape}
use Rattle.command_frame.specs.declared.items.Item.{Item}
use Rattle.reply_frame.specs.declared.replies.Reply.{Reply}
use Rattle.history_frame.specs.declared.events.Event.{Event}
use Rattle.history_frame.specs.declared.events.Sent.{Sent}
use Rattle.schedule_model.specs.declared.courses.Course.{Course}
use Rattle.schedule_model.specs.declared.courses.Course.TheVariants.{Replies, GoesOn, Takes, Completes, Ends, Answers, PutsOff, Replaces}
use Rattle.schedule_model.specs.declared.duties.Duty.{Duty}
use Rattle.schedule_model.specs.declared.duties.Duty.TheVariants.{Give, DeliverAll, DeliverOne, MakeCall}
use Rattle.schedule_model.specs.declared.duties.Afterwards.{Afterwards}
use Rattle.schedule_model.specs.Driven.{after_event, after_events}
use Rattle.schedule_model.specs.Scheduling.{Scheduled, Waiting, begins, begun, delivery, delivery_of, entered, first_step, given, handed, noted, ready, rest_in, taken}
use Rattle.schedule_model.proofs.Along.{along, ready-keeps}
use Rattle.schedule_model.proofs.Kept.{noted-parts}

pub record IsOf (config : Shape) (run : ℕ) (s : Scheduled) : Type 0 where
  pub config_is : s.config ≡ config
  pub run_is : s.run ≡ run

taken-of : (config : Shape) (run : ℕ) (s : Scheduled) (course : Course) → IsOf config run s → IsOf config run (taken s course)
taken-of config run s (Replies reply) h = record { config_is = h.config_is; run_is = h.run_is }
taken-of config run s (GoesOn duties) h = record { config_is = h.config_is; run_is = h.run_is }
taken-of config run s (Takes position entry next) h = record { config_is = h.config_is; run_is = h.run_is }
taken-of config run s (Completes position entry) h = record { config_is = h.config_is; run_is = h.run_is }
taken-of config run s (Ends last) h = record { config_is = h.config_is; run_is = h.run_is }
taken-of config run s (Answers reply duties) h = record { config_is = h.config_is; run_is = h.run_is }
taken-of config run s (PutsOff reply asked) h = record { config_is = h.config_is; run_is = h.run_is }
taken-of config run s (Replaces item reply) h = record { config_is = h.config_is; run_is = h.run_is }

begun-of : (config : Shape) (run : ℕ) (s : Scheduled) (item : Item) (items : List Item) → IsOf config run s → IsOf config run (begun s item items)
begun-of config run s item items h =
    taken-of config run (entered s item items) (begins s item)
    (record { config_is = h.config_is; run_is = h.run_is })

pub ready-of : (config : Shape) (run : ℕ) (s : Scheduled) → IsOf config run s → IsOf config run (ready s)
ready-of config run s h =
    ready-keeps (IsOf config run) (λ x p. record { config_is = p.config_is; run_is = p.run_is }) (λ x item items left idle p. begun-of config run x item items p) s h

delivery-of : (config : Shape) (run : ℕ) (s : Scheduled) (queue : List Waiting) → IsOf config run s → IsOf config run (rest_in s (delivery s queue))
delivery-of config run s [] h = h
delivery-of config run s (letter ∷ queue) h = record { config_is = h.config_is; run_is = h.run_is }

picked-of : (config : Shape) (run : ℕ) (s : Scheduled) (duties : List Duty) (number : ℕ) (afterwards : Afterwards) (letter : Option Waiting)
    → IsOf config run s → IsOf config run (rest_in s (delivery_of s duties number afterwards letter))
picked-of config run s duties number afterwards None h = h
picked-of config run s duties number afterwards (Some letter) h = record { config_is = h.config_is; run_is = h.run_is }

handed-of : (config : Shape) (run : ℕ) (s : Scheduled) → IsOf config run s → IsOf config run (handed s)
handed-of config run s h = record { config_is = h.config_is; run_is = h.run_is }

first-of : (config : Shape) (run : ℕ) (s : Scheduled) (duties : List Duty) → IsOf config run s → IsOf config run (rest_in s (first_step s duties))
first-of config run s [] h = h
first-of config run s (Give signal first count ∷ duties) h = record { config_is = h.config_is; run_is = h.run_is }
first-of config run s (DeliverAll ∷ duties) h = delivery-of config run s s.queue h
first-of config run s (DeliverOne letter afterwards ∷ duties) h = picked-of config run s duties letter afterwards (slice_get s.queue letter) h
first-of config run s (MakeCall node call awaited ∷ duties) h = record { config_is = h.config_is; run_is = h.run_is }

noted-of : (config : Shape) (run : ℕ) (s : Scheduled) (outputs : List Sent) (reply : Reply) → IsOf config run s → IsOf config run (noted s outputs reply)
noted-of config run s outputs reply h =
    subst (IsOf config run) (sym (noted-parts s outputs reply)) (record { config_is = h.config_is; run_is = h.run_is })

event-of : (config : Shape) (run : ℕ) (before : List Event) (s : Scheduled) (event : Event) → IsOf config run s → IsOf config run (after_event s event)
event-of config run before s event h =
    noted-of config run (given s) event.happened.outputs event.happened.reply
    (handed-of config run (rest_in (ready s) (first_step (ready s) (ready s).duties)) (first-of config run (ready s) (ready s).duties (ready-of config run s h)))

pub events-of : (config : Shape) (run : ℕ) (s : Scheduled) (events : List Event) → IsOf config run s → IsOf config run (after_events s events)
events-of config run s events h = along (λ some x. IsOf config run x) (event-of config run) [] s events h
