-- The next turn of a run: it can be taken, and what happened then is the next event of the run.
use Rattle.std.proofs.Common.{◌≡◌, ◌<◌, ℕ, List, [], ◌∷◌, ◌++◌, length, slice_get, Option, Some, None, refl, sym, ap, subst, arith, ◌∙◌}
use Rattle.std.proofs.Math.ListN.{set}
use Rattle.std.proofs.lemmas.Option.{same_Some}
use Rattle.history_frame.specs.declared.events.Event.{Event}
use Rattle.history_frame.specs.declared.events.Happened.{Happened}
use Rattle.history_frame.specs.declared.inputs.Input.{Input}
use Rattle.history_frame.specs.Spelling.{IsEvent, IsHappened}
use Rattle.node_model.specs.Fits.{Fits}
use Rattle.node_model.specs.Histories.{IsDelivered}
use Rattle.node_model.specs.Legal.{IsNext, submitted}
use Rattle.node_model.specs.Machine.{ClusterNode, node_meanings}
use Rattle.node_model.specs.NodeState.{node_after}
use Rattle.node_table.specs.Numbering.{nodes_of, role_at}
use Rattle.schedule_model.specs.declared.duties.Afterwards.{Afterwards}
use Rattle.schedule_model.specs.declared.duties.Duty.{Duty}
use Rattle.schedule_model.specs.declared.duties.Duty.TheVariants.{Give, DeliverAll, DeliverOne, MakeCall}
use Rattle.schedule_model.specs.declared.turns.Turn.{Turn}
use Rattle.schedule_model.specs.Driven.{IsFollowed, next_turn_after, scheduled_after, turn_of}
use Rattle.schedule_model.specs.Streams.{IsSingle}
use Rattle.schedule_model.specs.Scheduling.{Scheduled, Waiting, at_first, delivery, delivery_of, first_step, given, ready, rest_in}
use Rattle.schedule_model.proofs.Kept.{each-append}
use Rattle.schedule_model.proofs.Posted.{events-posted, first-posted-is, ready-posted}
use Rattle.schedule_model.proofs.RunLaws.{event_agrees, followed_more, turn_allowed, turn_delivered, turn_of_run}
use Rattle.quiet_run.specs.Runs.{IsRunSoFar}
use Rattle.quiet_run.specs.Standing.{IsJob, Job, StandAfter, node_of}
use Rattle.quiet_run.specs.Turns.{IsAt, TakesTurn}
use Rattle.quiet_run.proofs.Answering.{answer_is_single}
use Rattle.answer_law.proofs.Spelled.{next_answers, next_is_spelled}
use Rattle.quiet_run.proofs.Coming.{input_fits, legal_push, letter_within}
use Rattle.quiet_run.proofs.Stands.{stand_push, turned}

-- the place of the schedule stays as a turn is given
delivery-place : (s : Scheduled) (queue : List Waiting) → (rest_in s (delivery s queue)).place ≡ s.place
delivery-place s [] = refl
delivery-place s (letter ∷ queue) = refl

picked-place : (s : Scheduled) (duties : List Duty) (number : ℕ) (afterwards : Afterwards) (letter : Option Waiting)
    → (rest_in s (delivery_of s duties number afterwards letter)).place ≡ s.place
picked-place s duties number afterwards None = refl
picked-place s duties number afterwards (Some letter) = refl

first-place : (s : Scheduled) (duties : List Duty) → (rest_in s (first_step s duties)).place ≡ s.place
first-place s [] = refl
first-place s (Give signal first count ∷ duties) = refl
first-place s (DeliverAll ∷ duties) = delivery-place s s.queue
first-place s (DeliverOne letter afterwards ∷ duties) = picked-place s duties letter afterwards (slice_get s.queue letter)
first-place s (MakeCall node call awaited ∷ duties) = refl

module _ (job : Job) (events : List Event) where
  -- the next place is the number of events
  pub given_place : (given (scheduled_after job.config job.run job.items events)).place ≡ length events
  given_place =
      let s = scheduled_after job.config job.run job.items events in
      first-place (ready s) (ready s).duties
      ∙ (ready-posted events s (events-posted (at_first job.config job.run job.items) events (first-posted-is job.config job.run job.items))).place

module _ (job : Job) (is_job : IsJob job) (events : List Event) (nodes : List ClusterNode) (so_far : IsRunSoFar job events nodes) (turn : Turn) (next : next_turn_after job.config job.run job.items events ≡ Some turn) where
  delivered : IsDelivered events turn.node.0 turn.input
  delivered = turn_delivered job.config job.run job.items events turn next

  -- a node of the cluster has the turn
  pub within : turn.node.0 < nodes_of job.config
  within =
      letter_within job.config job.run job.kept events so_far.legal turn.node.0 turn.input
      (λ plain. (turn_allowed job.config job.run job.items events turn is_job.is_run next plain).node) delivered

  pub turn_within : turn.node.0 < length nodes
  turn_within = let below = within in omega (arith, below, so_far.stand.all)

  fits : Fits job.config (role_at job.config turn.node.0) (node_after job.config job.kept events turn.node.0) turn.input
  fits =
      input_fits job.config job.run job.kept events so_far.legal turn.node.0 turn.input
      (λ plain. (turn_allowed job.config job.run job.items events turn is_job.is_run next plain).input) delivered

  -- it can take it
  pub turn_fits : IsAt nodes turn.node.0 turn.input
  turn_fits = record { node = node_of job events turn.node.0; at = so_far.stand.each turn.node.0 within; fits = fits }

  module _ (happened : Happened) (new : List ClusterNode) (taken : TakesTurn turn.node.0 turn.input happened nodes new) where
    abbrev pub event : Event
    event = record { place = length events; node = turn.node; happened = happened }

    node_is : taken.node ≡ node_of job events turn.node.0
    node_is = same_Some taken.node (node_of job events turn.node.0) (sym taken.at ∙ so_far.stand.each turn.node.0 within)

    turn_is : turn ≡ turn_of event
    turn_is = ap (λ (input : Input). let t : Turn = record { node = turn.node; input = input } in t) (sym taken.input_is)

    followed : IsFollowed job.config job.run job.items (events ++ event ∷ [])
    followed = followed_more job.config job.run job.items events event so_far.followed (next ∙ ap (λ (t : Turn). Some t) turn_is)

    pub is_next : IsNext job.config job.run job.kept events event
    is_next = record {
      place = refl;
      node = within;
      allowed = (subst (λ (i : Input). Fits job.config (role_at job.config turn.node.0) (node_after job.config job.kept events turn.node.0) i) (sym taken.input_is) fits).allowed;
      row = subst (λ (x : ClusterNode). node_meanings.is_row x happened) node_is taken.row;
      delivered = subst (λ (i : Input). IsDelivered events turn.node.0 i) (sym taken.input_is) delivered;
      of_run = λ entry e. turn_of_run job.config job.run job.items events turn is_job.is_run so_far.followed next entry (ap (λ (i : Input). submitted i) (sym taken.input_is) ∙ e);
      one_node = event_agrees job.config job.run job.items events event is_job.is_run followed;
    }

    after_is : set nodes turn.node.0 (turned job events nodes so_far.stand event within) ≡ new
    after_is = ap (λ (x : ClusterNode). set nodes turn.node.0 (node_meanings.after x happened)) (sym node_is) ∙ sym taken.after

    pub spelled : IsHappened happened
    spelled = next_is_spelled job.config job.run job.kept events so_far.legal event is_next taken.few taken.size

    -- the run goes on with it
    pub goes_on : IsRunSoFar job (events ++ event ∷ []) new
    goes_on = record {
      legal = legal_push job.config job.run job.kept events so_far.legal event is_next;
      followed = followed;
      spelled = each-append IsEvent events (event ∷ []) so_far.spelled (spelled, tt);
      stand = subst (StandAfter job (events ++ event ∷ [])) after_is (stand_push job events nodes so_far.stand event within);
    }

    pub single : IsSingle happened.reply
    single = answer_is_single happened.reply (next_answers job.config job.run job.kept events so_far.legal event is_next)
