-- The lists of the nodes, put in order of place, are the history.
use Rattle.std.proofs.Common.{◌≡◌, ℕ, zero, suc, ◌+◌, ◌<◌, ◌≤◌, Bool, true, false, cond, List, [], ◌∷◌, ◌++◌, map, length, slice_get, Some, ◌⊎◌, inl, inr, nat_eq, eq-eqb, refl, sym, ap, ◌∙◌, subst, arith}
use Rattle.std.specs.List.Sorted.{IsPermutation}
use Rattle.std.proofs.lemmas.Bool.{cases_lt, ne_eqb}
use Rattle.std.proofs.lemmas.Option.{same_Some, slice_get-map, slice_get_within}
use Rattle.std.specs.Option.{option_map}
use Rattle.std.proofs.lemmas.List.Sorted.{IsPermutation-refl, IsPermutation-cons, IsPermutation-append_right, IsPermutation-middle, IsPermutation-trans, length_permutation}
use Rattle.counted_node.specs.Counted.{CountedState, counted_meanings}
use Rattle.history_frame.specs.declared.events.Event.{Event}
use Rattle.history_frame.specs.declared.events.Happened.{Happened}
use Rattle.history_frame.specs.Merging.{IsComplete, IsMerged, events_from}
use Rattle.history_frame.specs.Merging.{event_at as committed_at}
use Rattle.history_frame.proofs.MergeLaws.{one_order}
use Rattle.log_base.specs.declared.machine.Committed.{Committed}
use Rattle.tied_cells.specs.Closing.{IsOneHistory}
use Rattle.tied_cells.specs.History.{Entry, committed_of, is_at, own_of, picked}
use Rattle.tied_cells.specs.History.{events as events_of}
use Rattle.cluster.specs.History.{event_at, history_from}
use Rattle.cluster.proofs.Places.{history_in_place, length_history}

-- lists that have the same at each place are the same
pub same_gets : {X : Type 0} (xs ys : List X) → length xs ≡ length ys → ((k : ℕ) → k < length xs → slice_get xs k ≡ slice_get ys k) → xs ≡ ys
same_gets [] [] size same = refl
same_gets [] (y ∷ ys) size same = absurd (omega arith)
same_gets (x ∷ xs) [] size same = absurd (omega arith)
same_gets (x ∷ xs) (y ∷ ys) size same =
    let head : x ≡ y = same_Some x y (same zero (omega arith)) in
    let tail = same_gets xs ys (omega arith) (λ k below. same (suc k) (omega arith)) in
    λ i. head i ∷ tail i

-- the events of a node, where the first of the log stands at this place
abbrev cell_from : ℕ → ℕ → List (Entry Happened) → List (Committed Happened)
cell_from place node log = map committed_of (picked (is_at node) place log)

-- those of so many nodes, from one on
abbrev cells_from : ℕ → ℕ → ℕ → List (Entry Happened) → List (List (Committed Happened))
cells_from place node zero log = []
cells_from place node (suc count) log = cell_from place node log ∷ cells_from place (node + 1) count log

length_cells : (place node count : ℕ) (log : List (Entry Happened)) → length (cells_from place node count log) ≡ count
length_cells place node zero log = refl
length_cells place node (suc count) log = ap suc (length_cells place (node + 1) count log)

cells_get : (place node count : ℕ) (log : List (Entry Happened)) (k at : ℕ) → at ≡ node + k → k < count → slice_get (cells_from place node count log) k ≡ Some (cell_from place at log)
cells_get place node zero log k at is below = absurd (omega arith)
cells_get place node (suc count) log zero at is below =
    let here : node ≡ at = omega arith in ap (λ (n : ℕ). Some (cell_from place n log)) here
cells_get place node (suc count) log (suc k) at is below =
    let next : at ≡ node + 1 + k = omega arith in cells_get place (node + 1) count log k at next (omega arith)

-- no node has events of an empty log
none_from : (place node count : ℕ) → events_from node (cells_from place node count []) ≡ []
none_from place node zero = refl
none_from place node (suc count) = none_from place (node + 1) count

-- an entry is in no list of later nodes
cell_other : (place node : ℕ) (entry : Entry Happened) (log : List (Entry Happened)) → nat_eq entry.event.node node ≡ false
    → cell_from place node (entry ∷ log) ≡ cell_from (suc place) node log
cell_other place node entry log is =
    ap (λ (b : Bool). map committed_of (cond b (own_of place entry ∷ picked (is_at node) (suc place) log) (picked (is_at node) (suc place) log))) is

cell_own : (place node : ℕ) (entry : Entry Happened) (log : List (Entry Happened)) → nat_eq entry.event.node node ≡ true
    → cell_from place node (entry ∷ log) ≡ committed_of (own_of place entry) ∷ cell_from (suc place) node log
cell_own place node entry log is =
    ap (λ (b : Bool). map committed_of (cond b (own_of place entry ∷ picked (is_at node) (suc place) log) (picked (is_at node) (suc place) log))) is

cells_later : (place node count : ℕ) (entry : Entry Happened) (log : List (Entry Happened)) → entry.event.node < node
    → cells_from place node count (entry ∷ log) ≡ cells_from (suc place) node count log
cells_later place node zero entry log below = refl
cells_later place node (suc count) entry log below =
    let this = cell_other place node entry log (ne_eqb entry.event.node node (λ e. omega arith)) in
    let rest = cells_later place (node + 1) count entry log (omega arith) in
    λ i. this i ∷ rest i

-- an entry moves to the front
moved : (place node count : ℕ) (entry : Entry Happened) (log : List (Entry Happened)) → node ≤ entry.event.node → entry.event.node < node + count
    → IsPermutation (events_from node (cells_from place node count (entry ∷ log))) (event_at place entry ∷ events_from node (cells_from (suc place) node count log))
moved place node zero entry log low high = absurd (omega arith)
moved place node (suc count) entry log low high =
    at (λ above below. moved place (node + 1) count entry log above below) (cases_lt node entry.event.node)
  where
    front : List Event
    front = map (committed_at node) (cell_from (suc place) node log)

    rest : List Event
    rest = events_from (node + 1) (cells_from (suc place) (node + 1) count log)

    at : (node + 1 ≤ entry.event.node → entry.event.node < node + 1 + count
        → IsPermutation (events_from (node + 1) (cells_from place (node + 1) count (entry ∷ log))) (event_at place entry ∷ rest))
        → (node < entry.event.node) ⊎ (entry.event.node ≤ node)
        → IsPermutation (events_from node (cells_from place node (suc count) (entry ∷ log))) (event_at place entry ∷ events_from node (cells_from (suc place) node (suc count) log))
    at later (inr le) =
        let here : entry.event.node ≡ node = omega arith in
        let own = cell_own place node entry log (eq-eqb entry.event.node node here) in
        let others = cells_later place (node + 1) count entry log (omega arith) in
        let this : committed_at node (committed_of (own_of place entry)) ≡ event_at place entry = λ i. record { place = place; node = record { 0 = sym here i }; happened = entry.event.happened } in
        let same : event_at place entry ∷ (front ++ rest) ≡ events_from node (cells_from place node (suc count) (entry ∷ log)) =
        (λ i. sym this i ∷ (front ++ rest)) ∙ (λ i. map (committed_at node) (sym own i) ++ events_from (node + 1) (sym others i)) in
        subst (λ (l : List Event). IsPermutation l (event_at place entry ∷ (front ++ rest))) same (IsPermutation-refl (event_at place entry ∷ (front ++ rest)))
    at later (inl lt) =
        let inner = later (omega arith) (omega arith) in
        let other = cell_other place node entry log (ne_eqb entry.event.node node (λ e. omega arith)) in
        let after = events_from (node + 1) (cells_from place (node + 1) count (entry ∷ log)) in
        subst (λ (l : List (Committed Happened)). IsPermutation (map (committed_at node) l ++ after) (event_at place entry ∷ (front ++ rest))) (sym other)
        (IsPermutation-trans (front ++ after) (front ++ event_at place entry ∷ rest) (event_at place entry ∷ (front ++ rest))
        (IsPermutation-append_right front after (event_at place entry ∷ rest) inner) (IsPermutation-middle front (event_at place entry) rest))

-- all of them
all_moved : (place count : ℕ) (log : List (Entry Happened)) → ((k : ℕ) (entry : Entry Happened) → slice_get log k ≡ Some entry → entry.event.node < count)
    → IsPermutation (events_from 0 (cells_from place 0 count log)) (history_from place log)
all_moved place count [] within = subst (λ (l : List Event). IsPermutation l []) (sym (none_from place 0 count)) (IsPermutation-refl [])
all_moved place count (entry ∷ log) within =
    let high : entry.event.node < 0 + count = let w = within zero entry refl in omega arith in
    IsPermutation-trans (events_from 0 (cells_from place 0 count (entry ∷ log))) (event_at place entry ∷ events_from 0 (cells_from (suc place) 0 count log)) (history_from place (entry ∷ log))
    (moved place 0 count entry log (omega arith) high)
    (IsPermutation-cons (event_at place entry) (events_from 0 (cells_from (suc place) 0 count log)) (history_from (suc place) log)
    (all_moved (suc place) count log (λ k e there. within (suc k) e there)))

module _ {A : Type 0} (state : A → CountedState) (starts : List CountedState) (machines : List A) (lists : List (List (Committed Happened))) (log : List (Entry Happened))
    (one : IsOneHistory state counted_meanings starts machines lists log) where
  -- the nodes of the log are among those that there are
  pub nodes_within : (k : ℕ) (entry : Entry Happened) → slice_get log k ≡ Some entry → entry.event.node < length starts
  nodes_within k entry there =
      let next = one.legal k entry.event (slice_get-map-at k entry there) in slice_get_within starts entry.event.node next.0 next.1
    where
      slice_get-map-at : (k : ℕ) (entry : Entry Happened) → slice_get log k ≡ Some entry → slice_get (events_of log) k ≡ Some entry.event
      slice_get-map-at k entry there = slice_get-map (λ (e : Entry Happened). e.event) log k ∙ ap (option_map (λ (e : Entry Happened). e.event)) there

  lists_so : lists ≡ cells_from 0 0 (length starts) log
  lists_so = same_gets lists (cells_from 0 0 (length starts) log) (one.lists_are ∙ sym (length_cells 0 0 (length starts) log))
      (λ k below. let within : k < length starts = let size = one.lists_are in omega arith in
      let at : k ≡ 0 + k = omega arith in (one.nodes k within).2 ∙ sym (cells_get 0 0 (length starts) log k k at within))

  merged : IsMerged lists (history_from 0 log)
  merged = record {
    events_are = subst (λ (l : List (List (Committed Happened))). IsPermutation (events_from 0 l) (history_from 0 log)) (sym lists_so) (all_moved 0 (length starts) log nodes_within);
    places = history_in_place 0 log;
  }

  pub is_complete : IsComplete lists
  is_complete = record { events = history_from 0 log; merged = merged }

  pub events_fit : (room : ℕ) → 131072 ≤ room → length (events_from 0 lists) ≤ room
  events_fit room enough =
      let all = length_permutation (events_from 0 lists) (history_from 0 log) merged.events_are in
      let size = length_history 0 log in let few = one.few in omega arith

  -- what was merged is the history
  pub merged_so : (events : List Event) → IsMerged lists events → events ≡ history_from 0 log
  merged_so events m = one_order (events_from 0 lists) events (history_from 0 log) m.events_are m.places merged.events_are merged.places
