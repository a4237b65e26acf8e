-- The events of the opening stand at the front of a history that has the events of the pass which made them.
use Rattle.std.proofs.Common.{◌≡◌, ℕ, zero, suc, ◌+◌, List, [], ◌∷◌, ◌++◌, append-nil, length, map, slice_get, Some, sym, ap, ◌∙◌, arith}
use Rattle.std.proofs.lemmas.List.{length-map}
use Rattle.std.proofs.lemmas.Option.{none-some, same_Some}
use Rattle.atomic_table.specs.Seated.{TableId}
use Rattle.counted_node.specs.Causes.{BeginWithStarts}
use Rattle.counted_node.specs.Counted.{CountedState, counted_meanings}
use Rattle.history_frame.specs.declared.events.Event.{Event}
use Rattle.history_frame.specs.declared.events.Happened.{Happened}
use Rattle.history_frame.specs.declared.inputs.Input.{Input}
use Rattle.history_frame.specs.declared.inputs.Input.TheVariants.{Restart}
use Rattle.log_base.specs.ClusterShape.{Shape}
use Rattle.log_base.specs.Machines.{Event as NodeEvent}
use Rattle.log_base.specs.declared.numbers.NodeId.{NodeId}
use Rattle.log_base.proofs.Legal.{at_longer}
use Rattle.node_table.specs.Numbering.{nodes_of}
use Rattle.tied_cells.specs.Opening.{asked_by, owns_from}
use Rattle.tied_cells.specs.declared.account.Account.{Account}
use Rattle.tied_cells.specs.declared.board.Deal.{Deal}
use Rattle.tied_cells.specs.declared.board.Own.{Own}
use Rattle.cluster.specs.Clusters.{PassSeat}
use Rattle.cluster.specs.Events.{own_event}
use Rattle.cluster.specs.History.{AreAllEvents, as_event}
use Rattle.cluster.specs.Opening.{AreHandedOut, opening}
use Rattle.cluster.proofs.Begins.{got_at}
use Rattle.cluster.proofs.Left.{asked_at, restart_asked}
use Rattle.cluster.proofs.Openings.{length_opening}

-- the pass that made the opening has its events at their places
owns_at : (place : ℕ) (log : List (NodeEvent Happened)) (k : ℕ) (event : NodeEvent Happened) → slice_get log k ≡ Some event
    → slice_get (owns_from place log) k ≡ Some (own_event (place + k) event.node event.happened)
owns_at place [] k event there = absurd (none-some event there)
owns_at place (first ∷ log) zero event there =
    let here : place ≡ place + 0 = omega arith in let is = same_Some first event there in λ i. Some (own_event (here i) (is i).node (is i).happened)
owns_at place (first ∷ log) (suc k) event there =
    let same : suc place + k ≡ place + suc k = omega arith in
    owns_at (suc place) log k event there ∙ (λ i. Some (own_event (same i) event.node event.happened))

pub begin_with_starts : (config : Shape) (log : List (NodeEvent Happened)) → map (asked_by counted_meanings) log ≡ opening config → (own more : List (Own Happened)) → own ≡ owns_from 0 log ++ more
    → (events : List Event) → ((j : ℕ) (one : Own Happened) → slice_get own j ≡ Some one → slice_get events one.place ≡ Some (as_event one)) → BeginWithStarts config events
begin_with_starts config log asked own more own_is events stand number low =
    let size : length log ≡ nodes_of config + 1 = sym (length-map log (asked_by counted_meanings)) ∙ (ap (length {A = NodeId × Input}) asked ∙ length_opening config) in
    let got = got_at log number (omega (arith, low, size)) in
    let event = got.0 in
    let zero_with : 0 + number ≡ number = omega arith in
    let there : slice_get own number ≡ Some (own_event number event.node event.happened) =
    ap (λ (l : List (Own Happened)). slice_get l number) own_is
    ∙ ((at_longer (owns_from 0 log) more number (own_event (0 + number) event.node event.happened) (owns_at 0 log number event got.1)).0
    ∙ (λ i. Some (own_event (zero_with i) event.node event.happened))) in
    let same : (record { 0 = number }, Restart) ≡ asked_by counted_meanings event =
    same_Some _ (asked_by counted_meanings event) (sym (restart_asked config number low) ∙ asked_at config log [] (sym asked ∙ sym (append-nil (map (asked_by counted_meanings) log))) number event got.1) in (
      as_event (own_event number event.node event.happened),
      stand number (own_event number event.node event.happened) there,
      λ i. (sym same i).0.0,
      λ i. (sym same i).1,
    )

-- so a closed history begins with them, where the last pass went on from what it was handed
pub opening_stands : {A : Type 0} (config : Shape) (deal : Deal CountedState) (table : TableId) (room : ℕ) (given : List (PassSeat A × Account)) → AreHandedOut config deal table room given
    → (k : ℕ) (first : PassSeat A × Account) → slice_get given k ≡ Some first → k + 1 ≡ deal.passes
    → (passes : List (PassSeat A × Account)) (events : List Event) → AreAllEvents passes events
    → (j : ℕ) (last : PassSeat A × Account) → slice_get passes j ≡ Some last → (more : List (Own Happened)) → last.0.me.0.own ≡ first.0.me.0.own ++ more → BeginWithStarts config events
opening_stands config deal table room given handed k first there is_last passes events all j last among more went =
    begin_with_starts config handed.log handed.asked last.0.me.0.own more (went ∙ ap (λ (l : List (Own Happened)). l ++ more) (handed.passes_are.last k first there is_last).own_is) events
    (all.each j last among)
