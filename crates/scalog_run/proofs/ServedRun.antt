-- A cluster over disks that lie in the rack again: it served all items, or stopped, or did not begin.
use Rattle.std.proofs.Common.{◌≡◌, ◌⊎◌, inl, inr, ℕ, ◌≤◌, List, [], length, Option, Some, refl, sym, ap, ◌∙◌, subst, arith}
use Rattle.std.proofs.lemmas.List.{length-map}
use Rattle.std.specs.Prelude.{IfSome}
use Rattle.std.specs.List.{AllByRecursion}
use Rattle.cluster.specs.History.{StandAfter as StandIn}
use Rattle.cluster.proofs.Left.{restart_asked}
use Rattle.cluster_run.specs.Runs.{BeginWithOpening, IsClusterRun, IsHaltedWith}
use Rattle.command_frame.specs.Items.{IsItem}
use Rattle.command_frame.specs.declared.items.Item.{Item}
use Rattle.core_step.specs.Standing.{Standing}
use Rattle.counted_node.specs.Causes.{BeginWithStarts, HaveCauses, StartsAreClean}
use Rattle.history_frame.specs.declared.events.Event.{Event}
use Rattle.history_frame.specs.declared.events.History.{History}
use Rattle.history_frame.specs.declared.events.Kept.{Kept}
use Rattle.history_frame.specs.declared.inputs.Input.TheVariants.{Restart}
use Rattle.history_frame.specs.Spelling.{DisksRise, IsHistory, IsKept}
use Rattle.lane_law.proofs.Served.{served_replies_fit, served_streams_agree}
use Rattle.lane_work.specs.Items.{lane_of}
use Rattle.log_base.specs.ClusterShape.{InRange, Shape}
use Rattle.log_base.specs.declared.numbers.NodeId.{NodeId}
use Rattle.node_model.specs.Durable.{IsFounded}
use Rattle.node_model.specs.Legal.{IsLegal}
use Rattle.node_model.specs.Machine.{ClusterNode}
use Rattle.node_model.specs.Sound.{IsSound, payloads_on}
use Rattle.reply_frame.specs.declared.replies.Reply.{Reply}
use Rattle.stream_law.specs.Streams.{StreamsAgree}
use Rattle.segment_journal.specs.OnDisk.{OnDisk}
use Rattle.cluster_disks.specs.declared.stop.OpenStop.{OpenStop}
use Rattle.cluster_disks.specs.Failing.{IsRejected, OpensNot}
use Rattle.cluster_disks.specs.Found.{AreRecovered, bytes_in, kept_limit}
use Rattle.cluster_disks.specs.Lent.{Disks, Lying}
use Rattle.cluster_disks.specs.Nodes.{IsStart, nodes_in}
use Rattle.cluster_disks.specs.Opened.{AreLater}
use Rattle.quiet_run.specs.declared.outcomes.DriveStop.{DriveStop}
use Rattle.quiet_run.specs.declared.outcomes.DriveStop.TheVariants.{Memory as NoMemory}
use Rattle.quiet_run.specs.Standing.{StandAfter, job}
use Rattle.scalog_run.specs.declared.fault.RunFault.{RunFault}
use Rattle.scalog_run.specs.declared.fault.RunFault.TheVariants.{Memory}
use Rattle.scalog_run.specs.Faults.{opening_fault, stopping_fault}
use Rattle.scalog_run.specs.Served.{AreServedOver, IsHaltedOver, IsNotServed, IsServedRun, IsUnserved}
use Rattle.scalog_run.proofs.Causes.{AllWentOver, disk_causes, disk_opening, told_in}
use Rattle.scalog_run.proofs.Empty.{empty_over}
use Rattle.scalog_run.proofs.Left.{left_by}
use Rattle.scalog_run.proofs.Whole.{IsBack, all_stand, few_replicas, later_back, over_disks}

-- what holds of nodes, if there are some
pub halted_there : {A : Type 0} (told : Option A) (a : A) → told ≡ Some a → (P : A → Type 0) → IfSome told P → P a
halted_there told a is P h = subst (λ o. IfSome o P) is h

-- nodes that stand after events
pub stand_as : (config : Shape) (run : ℕ) (kept : List Kept) (events : List Event) (nodes : List ClusterNode) → StandIn config (payloads_on kept) events nodes
    → StandAfter (job config run [] kept) events nodes
stand_as config run kept events nodes stand = record { all = stand.all; each = stand.each }

-- a history that begins with the opening begins with the starts
starts_so : (config : Shape) (events : List Event) → BeginWithOpening config events → BeginWithStarts config events
starts_so config events begins number low =
    let first = begins number (record { 0 = number }, Restart) (restart_asked config number low) in
    (first.0, first.1, ap (λ (n : NodeId). n.0) first.2, first.3)

module _ {D P : Type 0} (by : Disks D) (config : Shape) (range : InRange config) (run : ℕ) (old new : ℕ → Lying D)
    (before after : List (Standing (OnDisk D) P)) (kept : List Kept) (back : IsBack by config run old new before after kept) where
  module _ (events : List Event) (stand : StandIn config (payloads_on kept) events (nodes_in after)) where
    stand_here : StandAfter (job config run [] kept) events (nodes_in after)
    stand_here = stand_as config run kept events (nodes_in after) stand

    over : IsLegal config run (payloads_on kept) events → AreServedOver by config run (payloads_on kept) events old new
    over legal = record {
      found = back.start.found;
      legal = legal;
      left = left_by by config run [] kept events after new (few_replicas config range) stand_here back.back;
    }

    went : AllWentOver by config old new (told_in by before) (told_in by after)
    went = over_disks by config range run [] old new before after kept back (all_stand by (job config run [] kept) events after stand_here)

    later : AreLater by config old new
    later = later_back by config range run [] old new before after kept back events stand_here

  -- it served all items
  pub served_run : (items : List Item) (workers : ℕ) (history : History) (replies : List Reply) → history.kept ≡ kept
      → AllByRecursion (IsItem config) items
      → IsClusterRun config run items workers kept history replies → StandIn config (payloads_on kept) history.events (nodes_in after)
      → (DisksRise 0 kept → AllByRecursion IsKept kept → IsHistory history)
      → StartsAreClean config history.events (told_in by before) (told_in by after) → HaveCauses config history.events (told_in by before) (told_in by after)
      → IsServedRun by config run items workers history replies old new
  served_run items workers history replies kept_is items_are ran stand spelled clean causes =
      let gone = went history.events stand in
      record {
        ran = subst (λ (k : List Kept). IsClusterRun config run items workers k history replies) (sym kept_is) ran;
        over = subst (λ (k : List Kept). AreServedOver by config run (payloads_on k) history.events old new) (sym kept_is)
            (over history.events stand ran.legal);
        few = subst (λ (k : List Kept). bytes_in k ≤ kept_limit) (sym kept_is) back.start.few;
        each = ran.shared.in_order.each ∙ length-map items lane_of;
        fit = served_replies_fit config run (payloads_on kept) items workers history.events replies ran.legal ran.shared items_are;
        streams = subst (λ (k : List Kept). IsFounded config run (payloads_on k) → StreamsAgree config (payloads_on k) history.events replies) (sym kept_is)
            (served_streams_agree config run (payloads_on kept) items workers history.events replies ran.legal ran.shared);
        spelled = spelled back.start.order back.start.fit;
        opening = disk_opening by config history.events old new (told_in by before) (told_in by after) gone (starts_so config history.events ran.opening) clean;
        causes = disk_causes by config history.events old new (told_in by before) (told_in by after) gone causes;
        later = later history.events stand;
      }

  -- it stopped
  pub half_served : (stop : DriveStop) (fault : RunFault) → fault ≡ stopping_fault stop
      → IsHaltedWith config run (payloads_on kept) (nodes_in after) (told_in by before) (told_in by after) stop → IsNotServed by config run fault old new
  half_served stop fault is stopped =
      let halted = stopped.halted in
      inr (inl (record {
        stop = stop;
        fault_is = is;
        halted = record {
          kept = kept;
          events = halted.events;
          few = back.start.few;
          over = over halted.events halted.stand halted.legal;
          causes = disk_causes by config halted.events old new (told_in by before) (told_in by after) (went halted.events halted.stand) stopped.causes;
          later = later halted.events halted.stand;
          stops = halted.stops;
        };
      }))

-- it could not be closed
pub dropped : {D : Type 0} (by : Disks D) (config : Shape) (run : ℕ) (old new : ℕ → Lying D) (nodes : List ClusterNode) (kept : List Kept) → IsStart by config run old nodes kept
    → (stop : DriveStop) (fault : RunFault) → fault ≡ stopping_fault stop → stop ≡ NoMemory → IsNotServed by config run fault old new
dropped by config run old new nodes kept start stop fault is memory = inr (inr (record {
  fault_is = is ∙ ap stopping_fault memory;
  kept = kept;
  found = start.found;
  few = start.few;
  sound = start.sound;
}))

module _ {D : Type 0} (by : Disks D) (config : Shape) (range : InRange config) (run : ℕ) (old new : ℕ → Lying D) where
  -- it did not begin
  pub not_begun : (stop : OpenStop) (fault : RunFault) → fault ≡ opening_fault stop → OpensNot by config old new stop ⊎ IsRejected by config run stop old new
      → AreLater by config old new → IsNotServed by config run fault old new
  not_begun stop fault is why later = inl (record { stop = stop; fault_is = is; why = with_empty why; later = later })
    where
      with_empty : OpensNot by config old new stop ⊎ IsRejected by config run stop old new → OpensNot by config old new stop ⊎ IsUnserved by config run stop old new
      with_empty (inl opens) = inl opens
      with_empty (inr rejected) = inr (record {
        rejected = rejected;
        empty = λ sound.
            let over = empty_over by config run [] rejected.kept old new range (few_replicas config range) sound rejected.found rejected.held in
            record { found = over.found; legal = over.legal; left = over.left };
      })

  -- its output could not be written
  pub unwritten : (items : List Item) (workers : ℕ) (history : History) (replies : List Reply) → IsServedRun by config run items workers history replies old new
      → IsNotServed by config run Memory old new
  unwritten items workers history replies served = inr (inl (record {
    stop = NoMemory;
    fault_is = refl;
    halted = record {
      kept = history.kept;
      events = history.events;
      few = served.few;
      over = served.over;
      causes = served.causes;
      later = served.later;
      stops = tt;
    };
  }))
