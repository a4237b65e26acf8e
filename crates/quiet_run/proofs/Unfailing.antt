-- A run over empty disks that do not fail is answered as the log of one thread answers.
use Rattle.std.proofs.Common.{◌≡◌, ◌<◌, ℕ, Bool, true, false, List, [], map, slice_get, Some, refl, inr, subst, arith, ◌∙◌}
use Rattle.std.specs.List.{AllByRecursion}
use Rattle.std.specs.Prelude.{IfOk, Result, Ok, Err}
use Rattle.command_frame.specs.declared.items.Item.{Item}
use Rattle.command_frame.specs.Items.{IsItem, IsNoFault}
use Rattle.command_frame.specs.Streams.{unplaced}
use Rattle.history_frame.specs.declared.events.Event.{Event}
use Rattle.history_frame.specs.declared.events.Kept.{Kept}
use Rattle.log_base.specs.declared.cluster_shape.Config.{Config}
use Rattle.log_base.specs.ClusterShape.{Shape}
use Rattle.log_base.specs.Shape.{shape}
use Rattle.node_model.specs.Legal.{IsLawful, IsLegal}
use Rattle.node_model.specs.Sound.{payloads_on}
use Rattle.node_table.specs.Numbering.{nodes_of}
use Rattle.plain_log.specs.Log.{log_of}
use Rattle.schedule_model.specs.Driven.{IsDriven, replies_of}
use Rattle.shard_replica.specs.Lists.{Medium}
use Rattle.quiet_law.specs.Quiet.{IsQuietRun}
use Rattle.quiet_law.proofs.Ending.{run_ended}
use Rattle.quiet_run.specs.declared.outcomes.Driven.{Driven}
use Rattle.quiet_run.specs.declared.outcomes.DriveStop.{DriveStop}
use Rattle.counted_node.specs.Causes.{HaveCauses, failures, journals_at, media_at, shows_failure}
use Rattle.quiet_run.specs.Runs.{IsWithinLimits}
use Rattle.quiet_run.specs.Standing.{job}
use Rattle.quiet_run.specs.Unfailing.{AreUnfailing, ShowsNone}
use Rattle.counted_node.proofs.Failures.{failures_some}
use Rattle.quiet_run.proofs.NoFlight.{all_quiet}
use Rattle.counted_node.proofs.Rises.{none_counted}
use Rattle.quiet_run.proofs.Slots.{has_slots}

-- where no node shows a failure, no event of a node does
none_shown : (config : Shape) (events : List Event) → ShowsNone config events → (k : ℕ) (event : Event) → slice_get events k ≡ Some event → event.node.0 < nodes_of config
    → shows_failure true event.happened.mark ≡ false
none_shown config events none k event at below = by (shows_failure true event.happened.mark) refl
  where
    by : (shown : Bool) → shows_failure true event.happened.mark ≡ shown → shows_failure true event.happened.mark ≡ false
    by true e = absurd (let some = failures_some true event.node.0 events k event at refl e in let zero_of = none event.node.0 below in omega (arith, some, zero_of))
    by false e = e

module _ (config : Shape) (run : ℕ) (items : List Item) (each : AllByRecursion (IsItem config) items) (no_faults : AllByRecursion IsNoFault items) (events : List Event) (driven : IsDriven config run items events) (none : ShowsNone config events) where
  is_quiet : IsLegal config run (payloads_on []) events → IsQuietRun config run items events
  is_quiet legal = record {
    each = each;
    no_faults = no_faults;
    legal = legal;
    driven = driven;
    quiet = all_quiet config run (payloads_on []) events legal.follow (none_shown config events none);
  }

  -- the replies of a history in which no disk failed
  pub quiet_replies : (kept : List Kept) → kept ≡ [] → IsLegal config run (payloads_on kept) events → IsWithinLimits (job config run items kept) events
      → replies_of config run items events ≡ log_of config run items
  quiet_replies kept empty legal within =
      let is_legal = subst (λ (k : List Kept). IsLegal config run (payloads_on k) events) empty legal in
      let is_within = subst (λ (k : List Kept). IsWithinLimits (job config run items k) events) empty within in
      (run_ended config legal.config_in_range run items events (is_quiet is_legal) (inr (has_slots config run items events legal.config_in_range is_within))).0

-- where no disk failed no event shows that one did
pub unfailing_shows_none : (config : Shape) (events : List Event) (old new : List (List Medium)) → HaveCauses config events old new → AreUnfailing config old new → ShowsNone config events
unfailing_shows_none config events old new causes h number below =
    none_counted (media_at old number) (media_at new number) (journals_at config number) (failures true number events) (causes.counts number) (h.none_rose number below)
    (causes.stayed number below (h.keep number below))

-- ---- a run that was driven

module _ (config : Config) (run : ℕ) (items : List Item) (each : AllByRecursion (IsItem (shape config)) items) (kept : List Kept) where
  -- what is so of a run that came to its end
  pub record IsDone (driven : Driven) : Type 0 where
    pub given : (driven.history.config ≡ config) × (driven.history.run ≡ run) × (driven.history.kept ≡ kept)
    pub lawful : IsLawful driven.history
    pub by_items : IsDriven (shape config) run items driven.history.events
    pub replies : map unplaced driven.replies ≡ replies_of (shape config) run items driven.history.events
    pub within : IsWithinLimits (job (shape config) run items kept) driven.history.events

  quiet_done : (driven : Driven) → IsDone driven → kept ≡ [] → AllByRecursion IsNoFault items → ShowsNone (shape config) driven.history.events → map unplaced driven.replies ≡ log_of (shape config) run items
  quiet_done driven h empty no_faults none =
      let legal = subst (λ (x : Shape × ℕ × List Kept). IsLegal x.0 x.1 (payloads_on x.2) driven.history.events) (λ i. (shape (h.given.0 i), h.given.1 i, h.given.2 i)) h.lawful in
      h.replies ∙ quiet_replies (shape config) run items each no_faults driven.history.events h.by_items none kept empty legal h.within

  module _ (result : Result Driven DriveStop)
      (given : IfOk result (λ driven. (driven.history.config ≡ config) × (driven.history.run ≡ run) × (driven.history.kept ≡ kept)))
      (lawful : IfOk result (λ driven. IsLawful driven.history))
      (by_items : IfOk result (λ driven. IsDriven (shape config) run items driven.history.events))
      (replies : IfOk result (λ driven. map unplaced driven.replies ≡ replies_of (shape config) run items driven.history.events))
      (within : IfOk result (λ driven. IsWithinLimits (job (shape config) run items kept) driven.history.events)) where
    done_all : IfOk result IsDone
    done_all = by result given lawful by_items replies within
      where
        by : (result : Result Driven DriveStop)
            → IfOk result (λ driven. (driven.history.config ≡ config) × (driven.history.run ≡ run) × (driven.history.kept ≡ kept))
            → IfOk result (λ driven. IsLawful driven.history)
            → IfOk result (λ driven. IsDriven (shape config) run items driven.history.events)
            → IfOk result (λ driven. map unplaced driven.replies ≡ replies_of (shape config) run items driven.history.events)
            → IfOk result (λ driven. IsWithinLimits (job (shape config) run items kept) driven.history.events)
            → IfOk result IsDone
        by (Err stop) given lawful by_items replies within = tt
        by (Ok driven) given lawful by_items replies within =
            record { given = given; lawful = lawful; by_items = by_items; replies = replies; within = within }

    pub quiet_result : IfOk result (λ driven. kept ≡ [] → AllByRecursion IsNoFault items → ShowsNone (shape config) driven.history.events → map unplaced driven.replies ≡ log_of (shape config) run items)
    quiet_result = by result done_all
      where
        by : (result : Result Driven DriveStop) → IfOk result IsDone
            → IfOk result (λ driven. kept ≡ [] → AllByRecursion IsNoFault items → ShowsNone (shape config) driven.history.events → map unplaced driven.replies ≡ log_of (shape config) run items)
        by (Err stop) done = tt
        by (Ok driven) done = quiet_done driven done

    pub unfailing_result : (old new : List (List Medium)) → IfOk result (λ driven. HaveCauses (shape config) driven.history.events old new)
        → IfOk result (λ driven. kept ≡ [] → AllByRecursion IsNoFault items → AreUnfailing (shape config) old new → map unplaced driven.replies ≡ log_of (shape config) run items)
    unfailing_result old new causes = by result done_all causes
      where
        by : (result : Result Driven DriveStop) → IfOk result IsDone → IfOk result (λ driven. HaveCauses (shape config) driven.history.events old new)
            → IfOk result (λ driven. kept ≡ [] → AllByRecursion IsNoFault items → AreUnfailing (shape config) old new → map unplaced driven.replies ≡ log_of (shape config) run items)
        by (Err stop) done causes = tt
        by (Ok driven) done causes = λ empty no_faults h. quiet_done driven done empty no_faults (unfailing_shows_none (shape config) driven.history.events old new causes h)
