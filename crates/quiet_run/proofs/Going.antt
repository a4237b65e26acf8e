-- A turn of a run, from the schedule's to what is kept of it.
use Rattle.std.proofs.Common.{◌≡◌, ◌<◌, ◌≤◌, ◌+◌, ℕ, Bool, List, [], ◌∷◌, ◌++◌, length, Option, Some, None, is_some, refl, sym, ap, subst, ◌∙◌}
use Rattle.std.specs.Prelude.{Result, Ok, Err, IfErr, IsErrAnd, OnOk, OnErr}
use Rattle.std.proofs.lemmas.List.{length-append}
use Rattle.std.proofs.lemmas.Option.{same_Some}
use Rattle.history_frame.specs.declared.events.Event.{Event}
use Rattle.history_frame.specs.declared.events.Happened.{Happened}
use Rattle.history_frame.specs.Spelling.{event_size}
use Rattle.node_model.specs.Machine.{ClusterNode}
use Rattle.schedule_model.specs.declared.turns.Turn.{Turn}
use Rattle.schedule_model.specs.Driven.{next_turn_after}
use Rattle.schedule_model.specs.Scheduling.{Scheduled, Step, given, handed, next_step, next_turn, noted, ready, rest_in, turn_in}
use Rattle.schedule_model.proofs.RunLaws.{event_more}
use Rattle.quiet_run.specs.declared.outcomes.DriveStop.TheVariants.{Limit, Memory}
use Rattle.quiet_run.specs.declared.running.Running.{Running}
use Rattle.shard_replica.specs.Lists.{Medium}
use Rattle.counted_node.specs.Causes.{AllCountOn, HasCause, journals_at, media_at}
use Rattle.quiet_run.specs.Limits.{byte_limit, bytes_of, event_limit, is_one_full, limit_of, limit_passed}
use Rattle.quiet_run.specs.Running.{CanKeep, CausesGoOn, HasGoneOn, IsOnItsWay, IsOver, IsTurnDue, Keeps, StopsWith, event_next, job_of, scheduled_in}
use Rattle.quiet_run.specs.Runs.{IsRunSoFar, IsStoppedRun}
use Rattle.quiet_run.specs.Standing.{Job, node_of}
use Rattle.quiet_run.specs.Turns.{ShowsMark, TakesTurn}
use Rattle.counted_node.proofs.Failures.{causes_later, causes_push}
use Rattle.quiet_run.proofs.Next.{given_place, goes_on, single, spelled, within as turn_in_cluster}
use Rattle.quiet_run.proofs.Passing.{bytes_push, no_limit_push, room_left}

-- ---- answers

module _ {A E : Type 0} where
  pub on_err_always : (result : Result A E) (P : Type 0) → P → OnErr result P
  on_err_always (Ok x) P h = tt
  on_err_always (Err e) P h = h

  pub on_ok_more : (result : Result A E) (P Q : Type 0) → (P → Q) → OnOk result P → OnOk result Q
  on_ok_more (Ok x) P Q f h = f h
  on_ok_more (Err e) P Q f h = tt

  pub if_err_more : (result : Result A E) (P Q : E → Type 0) → ((e : E) → P e → Q e) → IfErr result P → IfErr result Q
  if_err_more (Ok x) P Q f h = tt
  if_err_more (Err e) P Q f h = f e h

  pub if_err_with : (result : Result A E) (P Q : E → Type 0) → ((e : E) → P e → Q e) → IsErrAnd result P → IfErr result Q
  if_err_with (Ok x) P Q f h = tt
  if_err_with (Err e) P Q f h = f e h

-- a run that stops for want of memory, with its nodes as they were
pub stopped_before : (job : Job) (events : List Event) (nodes new : List ClusterNode) → IsRunSoFar job events nodes → new ≡ nodes → IsStoppedRun job new Memory
stopped_before job events nodes new so_far same =
    subst (λ (ns : List ClusterNode). IsStoppedRun job ns Memory) (sym same) (record { events = events; so_far = so_far; stops = tt })

-- so with the causes of what its events show
pub stopped_with_before : (job : Job) (events : List Event) (nodes new : List ClusterNode) (told after : List (List Medium)) → IsRunSoFar job events nodes → new ≡ nodes
    → AllCountOn told after → StopsWith job events new told after Memory
stopped_with_before job events nodes new told after so_far same counts first causes = record {
  run = record { events = events; so_far = subst (IsRunSoFar job events) (sym same) so_far; stops = tt };
  causes = causes_later job.config events first told after counts causes;
}

-- ---- where a turn is due

module _ (running : Running) (nodes : List ClusterNode) (way : IsOnItsWay (job_of running) running.events.items running.bytes nodes)
    (turn : Turn) (due : IsTurnDue (job_of running) running.events.items running.schedule turn) where
  abbrev a_job : Job
  a_job = job_of running

  abbrev past : List Event
  past = running.events.items

  room : (length past < event_limit) × (bytes_of past ≤ byte_limit)
  room =
      room_left (length past) (is_one_full a_job past) (bytes_of past)
      (subst (λ (o : Option Turn). limit_of (is_some o) (length past) (is_one_full a_job past) (bytes_of past) ≡ None) due.next due.none)

  module _ (happened : Happened) (new : List ClusterNode) (taken : TakesTurn turn.node.0 turn.input happened nodes new) where
    abbrev event : Event
    event = event_next running turn.node happened

    pub can_keep : CanKeep running happened
    can_keep = record {
      spelled = spelled a_job way.is_job past nodes way.so_far turn due.next happened new taken;
      single = single a_job way.is_job past nodes way.so_far turn due.next happened new taken;
      events = room.0;
      place = ap (λ (s : Scheduled). s.place) due.given_is ∙ given_place a_job past;
      bytes = subst (λ (b : ℕ). b ≤ byte_limit) (sym way.counted) room.1;
    }

    so_far : IsRunSoFar a_job (past ++ event ∷ []) new
    so_far = goes_on a_job way.is_job past nodes way.so_far turn due.next happened new taken

    -- the causes of failures go on with it
    module _ (told told_new : List (List Medium)) (shows : ShowsMark turn.node.0 happened.mark nodes told told_new) where
      node_is : shows.node ≡ node_of a_job past turn.node.0
      node_is =
          same_Some shows.node (node_of a_job past turn.node.0)
          (sym shows.at ∙ way.so_far.stand.each turn.node.0 (turn_in_cluster a_job way.is_job past nodes way.so_far turn due.next))

      cause_here : HasCause (journals_at a_job.config turn.node.0) happened.mark (media_at told turn.node.0) (media_at told_new turn.node.0)
      cause_here =
          subst (λ (x : ClusterNode). HasCause (journals_at x.config x.number) happened.mark (media_at told turn.node.0) (media_at told_new turn.node.0)) node_is shows.here

      pub causes_go_on : CausesGoOn a_job.config past (past ++ event ∷ []) told told_new
      causes_go_on first h = causes_push a_job.config past event first told told_new cause_here shows.others h

      pub stopped_with_after : StopsWith a_job past new told told_new Memory
      stopped_with_after first h = record { run = record { events = past ++ event ∷ []; so_far = so_far; stops = tt }; causes = causes_go_on first h }

      pub causes_kept : (after : Running) → Keeps turn.node happened running after → CausesGoOn a_job.config past after.events.items told told_new
      causes_kept after keeps = subst (λ (es : List Event). CausesGoOn a_job.config past es told told_new) (sym keeps.events) causes_go_on

    pub stopped_after : IsStoppedRun a_job new Memory
    stopped_after = record { events = past ++ event ∷ []; so_far = so_far; stops = tt }

    module _ (after : Running) (keeps : Keeps turn.node happened running after) where
      counted : running.bytes + event_size happened ≡ bytes_of (past ++ event ∷ [])
      counted = ap (λ (b : ℕ). b + event_size happened) way.counted ∙ sym (bytes_push past event)

      way_on : IsOnItsWay a_job (past ++ event ∷ []) (running.bytes + event_size happened) new
      way_on = record {
        is_job = way.is_job;
        so_far = so_far;
        no_limit = no_limit_push a_job past event way.no_limit due.none;
        counted = counted;
      }

      scheduled_on : noted running.schedule happened.outputs happened.reply ≡ scheduled_in a_job (past ++ event ∷ [])
      scheduled_on =
          ap (λ (s : Scheduled). noted s happened.outputs happened.reply) due.given_is
          ∙ sym (event_more a_job.config a_job.run a_job.items past event)

      pub gone_on : HasGoneOn running after new
      gone_on = record {
        job_stays = keeps.job_stays;
        way = subst (λ (x : Job × List Event × ℕ). IsOnItsWay x.0 x.1 x.2 new) (λ i. (sym keeps.job_stays i, sym keeps.events i, sym keeps.bytes i)) way_on;
        scheduled = keeps.scheduled ∙ scheduled_on ∙ (λ i. scheduled_in (sym keeps.job_stays i) (sym keeps.events i));
        room = room.0;
        more = ap (λ (es : List Event). length es) keeps.events ∙ length-append past (event ∷ []);
      }

-- ---- where no turn comes

given_at_end : (s : Scheduled) → next_turn s ≡ None → given s ≡ handed (ready s)
given_at_end s h = at (next_step s) h
  where
    at : (o : Option Step) → turn_in o ≡ None → handed (rest_in (ready s) o) ≡ handed (ready s)
    at None e = refl
    at (Some step) e = absurd (cc)

module _ (job : Job) (events : List Event) (bytes : ℕ) (nodes : List ClusterNode) (way : IsOnItsWay job events bytes nodes) (scheduled : Scheduled) (is : scheduled ≡ scheduled_in job events)
    (next : Option Turn) (next_is : next ≡ next_turn scheduled) where
  coming : next_turn_after job.config job.run job.items events ≡ next
  coming = ap next_turn (sym is) ∙ sym next_is

  -- the limit that the run is at, by what was counted
  pub limit_is : (limit : Option ℕ) (full : Bool) (count : ℕ) (due : Bool) → limit ≡ limit_of due count full bytes → due ≡ is_some next → count ≡ length events → full ≡ is_one_full job events
      → limit_passed job events ≡ limit
  limit_is limit full count due l d c f =
      (λ i. limit_of (at_due i) (sym c i) (sym f i) (sym way.counted i)) ∙ sym l
    where
      at_due : is_some (next_turn_after job.config job.run job.items events) ≡ due
      at_due = ap (λ (o : Option Turn). is_some o) coming ∙ sym d

  pub stopped_at : (cause : ℕ) → limit_passed job events ≡ Some cause → IsStoppedRun job nodes (Limit cause)
  stopped_at cause passed = record { events = events; so_far = way.so_far; stops = (passed, way.no_limit) }

  pub stopped_with_at : (cause : ℕ) (told : List (List Medium)) → limit_passed job events ≡ Some cause → StopsWith job events nodes told told (Limit cause)
  stopped_with_at cause told passed first h = record { run = record { events = events; so_far = way.so_far; stops = (passed, way.no_limit) }; causes = h }

  pub turn_due : (turn : Turn) (after : Scheduled) → next ≡ Some turn → after ≡ given scheduled → limit_passed job events ≡ None → IsTurnDue job events after turn
  turn_due turn after some g none = record { none = none; next = coming ∙ some; given_is = g ∙ ap given is }

  pub run_over : (after : Scheduled) → next ≡ None → after ≡ given scheduled → limit_passed job events ≡ None → IsOver job events bytes after.replies nodes
  run_over after last g none = record {
    way = way;
    over = coming ∙ last;
    none = none;
    replies_are = ap (λ (s : Scheduled). s.replies) (g ∙ given_at_end scheduled (sym next_is ∙ last)) ∙ ap (λ (s : Scheduled). (ready s).replies) is;
  }
