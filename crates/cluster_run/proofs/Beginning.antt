-- A cluster that has begun: its passes are new, its history begins with the opening, and where it stopped before its lanes ran its nodes
-- stand after the events so far.
use Rattle.std.proofs.Common.{◌≡◌, ℕ, zero, suc, ◌+◌, List, [], ◌∷◌, map, slice_get, Some, None, inl, inr, refl, sym, ap, ◌∙◌, subst, arith}
use Rattle.std.specs.Option.{option_map}
use Rattle.std.proofs.lemmas.List.{length-map}
use Rattle.std.proofs.lemmas.Option.{none-some, same_Some, slice_get-map}
use Rattle.atomic_table.specs.Seated.{TableId}
use Rattle.cluster.specs.Clusters.{IsBegun, IsPassOf}
use Rattle.cluster.specs.History.{as_event, history_from}
use Rattle.cluster.specs.Counting.{AreLeftWithCauses}
use Rattle.cluster.specs.Opening.{AreHandedOut, opening}
use Rattle.cluster.proofs.Lawful.{lawful, node_is}
use Rattle.cluster.proofs.Left.{restart_asked}
use Rattle.cluster.proofs.Openings.{IsAsked, is_asked}
use Rattle.cluster.proofs.Submits.{AllAgree}
use Rattle.counted_node.specs.Causes.{BeginWithStarts}
use Rattle.counted_node.specs.Counted.{CountedState}
use Rattle.history_frame.specs.declared.events.Event.{Event as HistoryEvent}
use Rattle.history_frame.specs.declared.events.Happened.{Happened}
use Rattle.history_frame.specs.declared.inputs.Input.{Input}
use Rattle.history_frame.specs.declared.inputs.Input.TheVariants.{Restart}
use Rattle.log_base.specs.ClusterShape.{InRange, Shape}
use Rattle.log_base.specs.Machines.{Event, IsLegal as AreRows, of_node, state_after}
use Rattle.log_base.specs.declared.numbers.NodeId.{NodeId}
use Rattle.log_base.proofs.Legal.{at_longer}
use Rattle.node_model.specs.Legal.{submitted}
use Rattle.node_model.specs.Machine.{ClusterNode, node_meanings}
use Rattle.node_model.specs.NodeState.{KeptLists}
use Rattle.quiet_run.specs.declared.outcomes.DriveStop.TheVariants.{Memory}
use Rattle.shard_replica.specs.Lists.{Medium}
use Rattle.tied_cells.specs.History.{Entry, events}
use Rattle.tied_cells.specs.Opening.{AreLeft, asked_by, made_by, owns_from}
use Rattle.tied_cells.specs.declared.board.Deal.{Deal}
use Rattle.tied_cells.specs.declared.board.Own.{Own}
use Rattle.tied_cells.proofs.Closes.{from_map}
use Rattle.cluster_run.specs.Passes.{AreNew, AreOpening}
use Rattle.cluster_run.specs.Runs.{BeginWithOpening, IsHalted, IsHaltedWith}
use Rattle.cluster_run.specs.Seats.{PassNow}
use Rattle.cluster_run.proofs.Handing.{there_is}

-- ---- passes

pub are_new : {A : Type 0} (config : Shape) (run : ℕ) (kept : KeptLists) (table : TableId) (deal : Deal CountedState) (room : ℕ) (passes : List (PassNow A)) (count : ℕ)
    → AreHandedOut config deal table room passes → deal.passes ≡ count + 1
    → ((k : ℕ) (pass : PassNow A) → slice_get passes k ≡ Some pass → IsPassOf config run kept table k pass.0) → AreNew config run kept table count passes
are_new config run kept table deal room passes count handed many each = record {
  as_many = handed.passes_are.as_many ∙ many;
  each = each;
  fresh = λ k pass there below. (handed.passes_are.others k pass there (omega arith)).own_is;
  last = λ pass there. record { log = handed.log; own_is = (handed.passes_are.last count pass there (omega arith)).own_is; asked = handed.asked };
}

-- ---- the opening

owns_at : (place : ℕ) (log : List (Event Happened)) (k last : ℕ) (event : Event Happened) → last ≡ k + place → slice_get log k ≡ Some event
    → slice_get (owns_from place log) k ≡ Some (record { place = last; node = event.node; happened = event.happened })
owns_at place [] k last event at there = absurd (none-some event there)
owns_at place (first ∷ log) zero last event at there =
    let here : place ≡ last = omega arith in let same = same_Some first event there in
    λ i. Some (record { place = here i; node = (same i).node; happened = (same i).happened })
owns_at place (first ∷ log) (suc k) last event at there =
    let next : last ≡ k + suc place = omega arith in owns_at (suc place) log k last event next there

-- where the history has the events of the opening's pass it begins with them
pub begins_so : (config : Shape) (history : List HistoryEvent) (own : List (Own Happened)) → AreOpening config own
    → ((j : ℕ) (o : Own Happened) → slice_get own j ≡ Some o → slice_get history o.place ≡ Some (as_event o)) → BeginWithOpening config history
begins_so config history own is each k asked there =
    let e = from_map (asked_by node_meanings) is.log k asked (ap (λ (l : List (NodeId × Input)). slice_get l k) is.asked ∙ there) in
    let at : k ≡ k + 0 = omega arith in
    let o : Own Happened = record { place = k; node = e.0.node; happened = e.0.happened } in
    let found = each k o (ap (λ (l : List (Own Happened)). slice_get l k) is.own_is ∙ owns_at 0 is.log k k e.0 at e.1) in
    (as_event o, found, ap (λ (a : NodeId × Input). a.0) e.2, ap (λ (a : NodeId × Input). a.1) e.2)

pub starts_so : (config : Shape) (history : List HistoryEvent) → BeginWithOpening config history → BeginWithStarts config history
starts_so config history begins number low =
    let e = begins number (record { 0 = number }, Restart) (restart_asked config number low) in
    (e.0, e.1, ap (λ (n : NodeId). n.0) e.2, e.3)

-- ---- a stop before the lanes ran

made_events : (log : List (Event Happened)) → events (made_by 0 log) ≡ log
made_events [] = refl
made_events (event ∷ log) = ap (λ (l : List (Event Happened)). event ∷ l) (made_events log)

submits_none : (config : Shape) (asked : NodeId × Input) → IsAsked config asked → submitted asked.1 ≡ None
submits_none config asked (inl h) = ap submitted h.1
submits_none config asked (inr h) = ap submitted h.1

module _ {A : Type 0} (state : A → ClusterNode) (config : Shape) (run : ℕ) (kept : KeptLists) (range : InRange config) (starts : List ClusterNode) (begun : IsBegun config run kept starts) where
  module _ (machines : List A) (left : AreLeft state node_meanings starts (opening config) machines) where
    silent : (k : ℕ) (entry : Entry Happened) → slice_get (made_by 0 left.log) k ≡ Some entry → submitted entry.event.happened.input ≡ None
    silent k entry there =
        let e = from_map (λ (event : Event Happened). record { maker = 0; event = event }) left.log k entry there in
        let asked : slice_get (map (asked_by node_meanings) left.log) k ≡ Some (asked_by node_meanings e.0) =
        slice_get-map (asked_by node_meanings) left.log k ∙ ap (option_map (asked_by node_meanings)) e.1 in
        let among = ap (λ (l : List (NodeId × Input)). slice_get l k) left.begins ∙ (at_longer (map (asked_by node_meanings) left.log) left.rest k (asked_by node_meanings e.0) asked).0 in
        subst (λ (x : Entry Happened). submitted x.event.happened.input ≡ None) e.2
        (submits_none config (asked_by node_meanings e.0) (is_asked config k (asked_by node_meanings e.0) among))

    agree : AllAgree run (made_by 0 left.log)
    agree = record {
      of_run = λ k entry there submission e. absurd (none-some submission (sym (silent k entry there) ∙ e));
      agree = λ k j entry earlier there before one other e f clients numbers. absurd (none-some one (sym (silent k entry there) ∙ e));
    }

    -- the nodes stand after the events of the opening that were made
    pub left_halted : IsHalted config run kept (map state machines) Memory
    left_halted = record {
      events = history_from 0 (made_by 0 left.log);
      legal = lawful config run kept range begun.sound starts begun.first (made_by 0 left.log) (subst (AreRows node_meanings starts) (sym (made_events left.log)) left.legal) agree;
      stand = record {
        all = length-map machines state ∙ (left.as_many ∙ begun.first.all);
        each = λ number below.
            let size = left.as_many in let count = begun.first.all in
            let machine = there_is machines number (omega arith) in
            let node = left.each number machine.0 machine.1 in
            let now = node.2 ∙ (ap (λ (l : List (Event Happened)). state_after node_meanings node.0 (of_node number l)) (sym (made_events left.log))
            ∙ node_is config run kept range begun.sound starts begun.first (made_by 0 left.log) number node.0 node.1) in
            slice_get-map state machines number ∙ (ap (option_map state) machine.1 ∙ (λ i. Some (now i)));
      };
      stops = tt;
    }

-- so they do where that came to a stop
pub left_halted_with : {A : Type 0} (state : A → ClusterNode) (told : A → List Medium) (config : Shape) (run : ℕ) (kept : KeptLists) → InRange config → (before now : List A)
    → IsBegun config run kept (map state before) → AreLeftWithCauses config state told before now → IsHaltedWith config run kept (map state now) (map told before) (map told now) Memory
unfolding left_halted
left_halted_with state told config run kept range before now begun left =
    record { halted = left_halted state config run kept range (map state before) begun now left.left; causes = left.causes }
