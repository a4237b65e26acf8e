-- What closed cells leave is a legal history with the events of the passes, and nodes that stand after it.
use Rattle.std.proofs.Common.{◌≡◌, ◌<◌, ◌≤◌, ℕ, ◌+◌, List, map, length, slice_get, Some, eq-eqb, refl, sym, ap, ◌∙◌, subst, arith}
use Rattle.std.specs.List.{AllByRecursion}
use Rattle.std.specs.Option.{option_map}
use Rattle.std.proofs.lemmas.List.{length-map}
use Rattle.std.proofs.lemmas.Option.{slice_get-map}
use Rattle.answer_law.specs.Frames.{FitsFrame}
use Rattle.answer_law.proofs.Spelled.{events_spelled}
use Rattle.counted_node.specs.Counted.{CountedState, counted_meanings, node_in}
use Rattle.counted_node.specs.Projected.{legal_projects, node_after, node_at}
use Rattle.history_frame.specs.declared.events.Event.{Event}
use Rattle.history_frame.specs.declared.events.Happened.{Happened}
use Rattle.history_frame.specs.declared.events.History.{History}
use Rattle.history_frame.specs.declared.events.Kept.{Kept}
use Rattle.history_frame.specs.Spelling.{DisksRise, InPlace, IsHistory, IsKept}
use Rattle.log_base.specs.ClusterShape.{InRange, Shape}
use Rattle.log_base.specs.Shape.{shape}
use Rattle.log_base.specs.Machines.{of_node, state_after as machine_after}
use Rattle.log_base.specs.declared.machine.Committed.{Committed}
use Rattle.node_model.specs.Legal.{IsLawful, IsLegal}
use Rattle.node_model.specs.Sound.{payloads_on}
use Rattle.node_table.specs.Numbering.{nodes_of}
use Rattle.tied_cells.specs.Closing.{AreAll, IsOneHistory}
use Rattle.tied_cells.specs.History.{Entry, events, is_made_by, own_of}
use Rattle.tied_cells.specs.declared.account.Account.{Account}
use Rattle.tied_cells.specs.declared.board.Own.{Own}
use Rattle.tied_cells.proofs.Picked.{cell_happened, own_stands, stands_picked}
use Rattle.cluster.specs.Clusters.{IsBegun, PassSeat}
use Rattle.cluster.specs.History.{AreAllEvents, IsClosed, StandAfter, as_event, event_at, history_from}
use Rattle.cluster.specs.Submitting.{SubmitsAlone}
use Rattle.cluster.proofs.Lawful.{lawful, node_is}
use Rattle.cluster.proofs.Places.{history_entry, history_get}
use Rattle.cluster.proofs.Submits.{all_agree}

module _ {A : Type 0} (passes : List (PassSeat A × Account)) (log : List (Entry Happened)) (all : AreAll passes log) where
  pub events_of_passes : AreAllEvents passes (history_from 0 log)
  events_of_passes = record {
    each = λ k pass there j own among.
        let e = all.each k pass there in
        let s = own_stands pass.1.number log j own (ap (λ (l : List (Own Happened)). slice_get l j) (sym e.0) ∙ among) in
        let at : s.index ≡ s.index + 0 = omega arith in
        subst (λ (x : Own Happened). slice_get (history_from 0 log) x.place ≡ Some (as_event x)) (sym s.own_is)
        (subst (λ (n : ℕ). slice_get (history_from 0 log) n ≡ Some (event_at (s.index + 0) s.entry)) at (history_get 0 log s.index (s.index + 0) s.entry refl s.there));
    rise = λ k pass there. (all.each k pass there).1;
    all = λ place event there.
        let h = history_entry 0 log place event there in
        let a = all.all place h.entry h.there in
        let e = all.each a.0 a.1 a.2 in
        let p = stands_picked (is_made_by a.1.1.number) 0 log place h.entry h.there (eq-eqb h.entry.maker a.1.1.number a.3) in
        record { k = a.0; pass = a.1; there = a.2; j = p.at; own = own_of (place + 0) h.entry; among = ap (λ (l : List (Own Happened)). slice_get l p.at) e.0 ∙ p.there; event_is = h.event_is };
  }

module _ {A : Type 0} (state : A → CountedState) (config : Shape) (run : ℕ) (kept : List Kept) (range : InRange config) (starts : List CountedState) (begun : IsBegun config run (payloads_on kept) (map node_in starts))
    (machines : List A) (lists : List (List (Committed Happened))) (log : List (Entry Happened)) (one : IsOneHistory state counted_meanings starts machines lists log)
    (passes : List (PassSeat A × Account)) (all : AreAll passes log)
    (alone : (k : ℕ) (pass : PassSeat A × Account) → slice_get passes k ≡ Some pass → SubmitsAlone run pass.1.number pass.0.me.0.own) where
  legal : IsLegal config run (payloads_on kept) (history_from 0 log)
  legal =
      lawful config run (payloads_on kept) range begun.sound (map node_in starts) begun.first log (legal_projects starts (events log) one.legal) (all_agree run passes log all alone)

  all_starts : length starts ≡ nodes_of config
  all_starts = sym (length-map starts node_in) ∙ begun.first.all

  -- a node after its events
  stood : (number : ℕ) (within : number < length starts) → state (one.nodes number within).0 ≡ machine_after counted_meanings (one.nodes number within).3.0 (of_node number (events log))
  stood number within = let node = one.nodes number within in node.3.2 ∙ ap (machine_after counted_meanings node.3.0) (sym (cell_happened number 0 log))

  nodes_stand : StandAfter config (payloads_on kept) (history_from 0 log) (map (λ (m : A). (state m).node) machines)
  nodes_stand = record {
    all = length-map machines (λ (m : A). (state m).node) ∙ (one.machines_are ∙ all_starts);
    each = λ number below.
        let within : number < length starts = omega (arith, below, all_starts) in
        let node = one.nodes number within in
        let now = ap (λ (s : CountedState). s.node) (stood number within)
        ∙ (node_after node.3.0 (of_node number (events log))
        ∙ node_is config run (payloads_on kept) range begun.sound (map node_in starts) begun.first log number node.3.0.node (node_at starts number node.3.0 node.3.1)) in
        slice_get-map (λ (m : A). (state m).node) machines number ∙ (ap (option_map (λ (m : A). (state m).node)) node.1 ∙ (λ i. Some (now i)));
  }

  module _ (history : History) (config_is : shape history.config ≡ config) (run_is : history.run ≡ run) (kept_is : history.kept ≡ kept) (events_are : history.events ≡ history_from 0 log) where
    pub closed_so : IsClosed config run kept passes (map (λ (m : A). (state m).node) machines) history
    closed_so = record {
      config_is = config_is;
      run_is = run_is;
      kept_is = kept_is;
      lawful = subst (λ (x : Shape × ℕ × List Kept × List Event). IsLegal x.0 x.1 (payloads_on x.2) x.3) (λ i. (sym config_is i, sym run_is i, sym kept_is i, sym events_are i)) legal;
      events_are = subst (AreAllEvents passes) (sym events_are) (events_of_passes passes log all);
      stand = subst (λ (es : List Event). StandAfter config (payloads_on kept) es (map (λ (m : A). (state m).node) machines)) (sym events_are) nodes_stand;
    }

    pub legal_so : IsLegal config run (payloads_on kept) history.events
    legal_so = subst (IsLegal config run (payloads_on kept)) (sym events_are) legal

-- a lawful history of events that fit their frames has a spelling, where what was kept has
pub spelled_so : (run : ℕ) (kept : List Kept) (history : History) → (1 ≤ run) × (run ≤ 1000000) → history.run ≡ run → history.kept ≡ kept → IsLawful history
    → AllByRecursion (λ (event : Event). FitsFrame event.happened) history.events → InPlace 0 history.events → DisksRise 0 kept → AllByRecursion IsKept kept → IsHistory history
spelled_so run kept history numbered run_is kept_is lawful fit places rise fits = record {
  some_run = subst (λ (n : ℕ). 1 ≤ n) (sym run_is) numbered.0;
  run = subst (λ (n : ℕ). n ≤ 1000000) (sym run_is) numbered.1;
  disks = subst (DisksRise 0) (sym kept_is) rise;
  kept = subst (AllByRecursion IsKept) (sym kept_is) fits;
  places = places;
  events = events_spelled (shape history.config) history.run (payloads_on history.kept) history.events lawful fit;
}
