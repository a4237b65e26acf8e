-- What a closed cluster leaves is the run of its lanes and workers, or a stop.
use Rattle.std.proofs.Common.{◌≡◌, ◌<◌, ◌≤◌, ◌⊎◌, ℕ, ◌+◌, List, [], ◌∷◌, length, map, slice_get, Some, inl, inr, true, refl, sym, ap, ◌∙◌, subst, arith}
use Rattle.std.specs.List.{AllByRecursion, list_any}
use Rattle.answer_law.proofs.Spelled.{events_spelled}
use Rattle.atomic_table.specs.Seated.{TableId}
use Rattle.cluster.specs.History.{IsClosed}
use Rattle.cluster.proofs.Fitting.{all_fit}
use Rattle.command_frame.specs.Items.{IsItem}
use Rattle.command_frame.specs.declared.items.Item.{Item}
use Rattle.counted_node.specs.Causes.{BeginWithStarts, HaveCauses}
use Rattle.counted_node.specs.Counted.{counted_meanings}
use Rattle.history_frame.specs.Spelling.{event_size}
use Rattle.history_frame.specs.declared.events.Happened.{Happened}
use Rattle.history_frame.specs.declared.events.History.{History}
use Rattle.history_frame.specs.declared.events.Kept.{Kept}
use Rattle.log_base.specs.ClusterShape.{Shape}
use Rattle.log_base.specs.declared.outside.Memory.{Memory}
use Rattle.node_model.specs.Durable.{IsFounded}
use Rattle.node_model.specs.Legal.{IsLegal}
use Rattle.node_model.specs.Machine.{ClusterNode, node_meanings}
use Rattle.node_model.specs.Sound.{payloads_on}
use Rattle.node_table.specs.Numbering.{nodes_of}
use Rattle.quiet_run.specs.declared.outcomes.DriveStop.{DriveStop}
use Rattle.quiet_run.specs.declared.outcomes.DriveStop.TheVariants.{Limit, Memory as Want}
use Rattle.reply_frame.specs.declared.replies.Reply.{Reply}
use Rattle.reply_frame.specs.Replies.{HasSpelling}
use Rattle.sequence_law.specs.Safe.{IsSafe}
use Rattle.shard_replica.specs.Lists.{Medium}
use Rattle.std.proofs.Common.{Result}
use Rattle.tied_cells.specs.Sizes.{sizes_of}
use Rattle.tied_cells.specs.declared.board.Own.{Own}
use Rattle.cluster_run.specs.Makers.{Counts, maker_of}
use Rattle.cluster_run.specs.Ordering.{AreGathered, AreLanes}
use Rattle.cluster_run.specs.Passes.{AreNew, HaveRun}
use Rattle.cluster_run.specs.Runs.{BeginWithOpening, IsClusterRun, IsHaltedWith, StopsWith, known_after, lanes_in}
use Rattle.cluster_run.specs.Seats.{PassNow}
use Rattle.cluster_run.proofs.Beginning.{begins_so, starts_so}
use Rattle.cluster_run.proofs.Full.{knows_most, most_known}
use Rattle.cluster_run.proofs.Handing.{passes_still, there_is}
use Rattle.cluster_run.proofs.Made.{replies_spelled, shared}
use Rattle.cluster_run.proofs.Spoken.{all_told}

module _ {A : Type 0} (config : Shape) (run : ℕ) (kept : List Kept) (after : List (PassNow A)) (nodes : List ClusterNode) (history : History) (closed : IsClosed config run kept after nodes history) where
  pub legal_so : IsLegal config run (payloads_on kept) history.events
  legal_so =
      subst (λ (x : Shape × ℕ × List Kept). IsLegal x.0 x.1 (payloads_on x.2) history.events) (λ i. (closed.config_is i, closed.run_is i, closed.kept_is i)) closed.lawful

  -- it stopped once it was closed
  pub halted_so : (first now : List (List Medium)) (stop : DriveStop) → HaveCauses config history.events first now → StopsWith config (payloads_on kept) history.events stop
      → IsHaltedWith config run (payloads_on kept) nodes first now stop
  halted_so first now stop causes stops = record {
    halted = record { events = history.events; legal = legal_so; stand = closed.stand; stops = stops };
    causes = causes;
  }

  module _ (table : TableId) (items : List Item) (lanes workers : ℕ) (before : List (PassNow A)) (answers : List (Result (List Reply) Memory)) (turned : List (Result (Unit {0}) Memory))
      (new : AreNew config run (payloads_on kept) table (lanes + workers) before)
      (ran : HaveRun config run (payloads_on kept) table items lanes workers before after answers turned) where
    opening_so : BeginWithOpening config history.events
    opening_so =
        let size = ran.as_many in
        let pass = there_is after (lanes + workers) (omega arith) in
        begins_so config history.events pass.0.0.me.0.own (new.last pass.0 (sym ran.last ∙ pass.1)) (closed.events_are.each (lanes + workers) pass.0 pass.1)

    pub starts_stand : BeginWithStarts config history.events
    starts_stand = starts_so config history.events opening_so

    module _ (lanes_are : AreLanes (lanes_in items) lanes) (counted : (k : ℕ) (pass : PassNow A) → slice_get after k ≡ Some pass → Counts (maker_of {A = A} pass))
        (replies : List Reply) (gathered : AreGathered (lanes_in items) answers turned replies) where
      pub run_so : (IsFounded config run (payloads_on kept) → IsSafe config (payloads_on kept) history.events)
          → ((number : ℕ) → number < nodes_of config → known_after config (payloads_on kept) history.events number < 16384)
          → IsClusterRun config run items workers kept history replies
      run_so safe few = record {
        config_is = closed.config_is;
        run_is = closed.run_is;
        kept_is = closed.kept_is;
        legal = legal_so;
        safe = safe;
        opening = opening_so;
        shared = shared config run (payloads_on kept) table items lanes workers before after answers turned new ran lanes_are history.events closed.events_are counted replies gathered;
        few = few;
      }

      pub spelled_so : AllByRecursion (IsItem config) items → AllByRecursion HasSpelling replies
      spelled_so each =
          replies_spelled config run (payloads_on kept) table items lanes workers before after answers turned new ran lanes_are history.events closed.events_are counted replies gathered each
          (all_told config run (payloads_on kept) history.events legal_so
          (events_spelled config run (payloads_on kept) history.events legal_so
          (all_fit after (λ k pass there. (passes_still config run (payloads_on kept) table items lanes workers before after answers turned new ran k pass there).fit)
          history.events closed.events_are)))

same_sizes : (own : List (Own Happened)) → sizes_of counted_meanings own ≡ sizes_of node_meanings own
same_sizes [] = refl
same_sizes (event ∷ own) = ap (λ (n : ℕ). event_size event.happened + n) (same_sizes own)

-- an account that counts the events of its pass
pub counts_so : {A : Type 0} (pass : PassNow A) → length pass.0.me.0.own ≡ pass.1.used → sizes_of counted_meanings pass.0.me.0.own ≤ pass.1.bytes → Counts (maker_of {A = A} pass)
counts_so pass used bytes = record { places = sym used; bytes = subst (λ (n : ℕ). n ≤ pass.1.bytes) (same_sizes pass.0.me.0.own) bytes }

-- why a closed cluster stopped
pub stops_so : {N : Type 0} (state : N → ClusterNode) (config : Shape) (run : ℕ) (kept : List Kept) {A : Type 0} (after : List (PassNow A)) (nodes : List N) (history : History)
    → IsClosed config run kept after (map state nodes) history → (stop : DriveStop) → (stop ≡ Want) ⊎ ((stop ≡ Limit 4) × (list_any (knows_most state) nodes ≡ true))
    → StopsWith config (payloads_on kept) history.events stop
stops_so state config run kept after nodes history closed stop (inl want) = subst (StopsWith config (payloads_on kept) history.events) (sym want) tt
stops_so state config run kept after nodes history closed stop (inr limit) =
    let most = most_known state config (payloads_on kept) history.events nodes closed.stand limit.1 in
    subst (StopsWith config (payloads_on kept) history.events) (sym limit.0) (refl, most.0, most.1, most.2)
