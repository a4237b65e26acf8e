-- What is told of the disks at the end of a cluster, and where its opening ended for want of memory.
use Rattle.std.proofs.Common.{◌≡◌, ◌<◌, ◌≤◌, ℕ, zero, suc, ◌+◌, List, ◌++◌, length, length-append, map, slice_get, Some, None, sym, ap, ◌∙◌, subst, arith}
use Rattle.std.specs.List.{AllByRecursion}
use Rattle.std.specs.Option.{option_map}
use Rattle.std.proofs.lemmas.List.{length-map}
use Rattle.std.proofs.lemmas.Option.{none-some, same_Some, slice_get-map}
use Rattle.std.proofs.lemmas.Simd.{map-map}
use Rattle.core_step.specs.Standing.{Standing, cluster_node}
use Rattle.counted_node.specs.Causes.{HaveCauses, StartsAreClean, node_media}
use Rattle.counted_node.specs.Counted.{Counted, CountedState, counted_meanings, counted_node, first_in, node_in}
use Rattle.counted_node.proofs.Failures.{no_causes}
use Rattle.counted_node.specs.Projected.{legal_projects, node_after}
use Rattle.counted_node.proofs.Starts.{starts_are_clean}
use Rattle.history_frame.specs.declared.events.Event.{Event}
use Rattle.history_frame.specs.declared.events.Happened.{Happened}
use Rattle.history_frame.specs.declared.inputs.Input.{Input}
use Rattle.history_frame.specs.declared.inputs.Input.TheVariants.{Restart}
use Rattle.log_base.specs.ClusterShape.{InRange, Shape}
use Rattle.log_base.specs.Machines.{Event as NodeEvent, IsLegal as AreRows, of_node, state_after}
use Rattle.log_base.specs.declared.machine.Committed.{Committed}
use Rattle.log_base.specs.declared.numbers.NodeId.{NodeId}
use Rattle.log_base.proofs.Legal.{at_longer}
use Rattle.node_model.specs.Legal.{submitted}
use Rattle.node_model.specs.Machine.{ClusterNode, node_meanings}
use Rattle.node_model.specs.NodeState.{KeptLists}
use Rattle.node_table.specs.Numbering.{nodes_of}
use Rattle.segment_journal.specs.Journalled.{Journalled, Turns}
use Rattle.shard_replica.specs.Lists.{Medium}
use Rattle.std.specs.Prelude.{Bool, Option}
use Rattle.tied_cells.specs.Closing.{IsOneHistory}
use Rattle.tied_cells.specs.History.{Entry, events}
use Rattle.tied_cells.specs.Opening.{AreLeft, asked_by, made_by}
use Rattle.tied_cells.proofs.Closes.{from_map}
use Rattle.tied_cells.proofs.Picked.{cell_happened}
use Rattle.tied_cells.proofs.Starts.{events_made, length-made}
use Rattle.cluster.specs.Clusters.{AreFirst, IsBegun}
use Rattle.cluster.specs.Counting.{AreLeftWithCauses, HasCounted, fresh_state, history_of}
use Rattle.cluster.specs.History.{history_from}
use Rattle.cluster.specs.Opening.{opening, restarts_from}
use Rattle.cluster.proofs.Begins.{got_at}
use Rattle.cluster.proofs.Causing.{AreUncounted, StandsCounted, causes_of, fresh_nodes, fresh_uncounted}
use Rattle.cluster.proofs.Giving.{stays, stays_numbered}
use Rattle.cluster.proofs.Lawful.{lawful}
use Rattle.cluster.proofs.Openings.{few_nodes, is_asked, length_opening, none_left, quiet_asked}
use Rattle.cluster.proofs.Places.{history_entry}
use Rattle.cluster.proofs.Submits.{AllAgree}

pub all_starts : (config : Shape) (kept : KeptLists) (starts : List CountedState) → AreFirst config kept (map node_in starts) → length starts ≡ nodes_of config
all_starts config kept starts first = sym (length-map starts node_in) ∙ first.all

module _ {J P : Type 0} (state : J → Journalled) (faults : J → ℕ) (keeps_synced : J → Bool) (turns : J → Option Turns) (config : Shape) (kept : KeptLists) where
  abbrev told : Standing J P → List Medium
  told node = node_media state faults keeps_synced turns node

  abbrev node_of : Counted J P → Standing J P
  node_of counted = counted.node

  module _ (starts : List CountedState) (first : AreFirst config kept (map node_in starts)) where
    -- a node that stands after its events counted from its start on
    stands_counted : (machines : List (Counted J P)) (log : List (Entry Happened)) (number : ℕ) (machine : Counted J P) → slice_get machines number ≡ Some machine
        → (start : CountedState) → slice_get starts number ≡ Some start → counted_node state machine ≡ state_after counted_meanings start (of_node number (events log))
        → StandsCounted state faults keeps_synced turns config starts machines log number
    stands_counted machines log number machine there start starts_so stands = record {
      machine = machine;
      there = there;
      start = start;
      starts_so = starts_so;
      stands = stands;
      in_cluster = (λ i. (stands i).node.config) ∙ stays config kept starts first number start starts_so (of_node number (events log));
      numbered = (λ i. (stands i).node.number) ∙ stays_numbered config kept starts first number start starts_so (of_node number (events log));
    }

    -- the history of closed cells has its causes
    module _ (fresh : AreUncounted starts) (machines : List (Counted J P)) (counted : AllByRecursion (HasCounted state faults keeps_synced turns) machines) where
      pub closed_causes : (lists : List (List (Committed Happened))) (log : List (Entry Happened)) → IsOneHistory (counted_node state) counted_meanings starts machines lists log
          → HaveCauses config (history_from 0 log) (map first_in starts) (map told (map node_of machines))
      closed_causes lists log one =
          causes_of state faults keeps_synced turns config starts fresh machines log one.few (all_starts config kept starts first) one.machines_are counted (λ number low.
          let node = one.nodes number (omega (arith, low, (all_starts config kept starts first))) in
          stands_counted machines log number node.0 node.1 node.3.0 node.3.1 (node.3.2 ∙ ap (state_after counted_meanings node.3.0) (sym (cell_happened number 0 log))))

      -- and so have the events of an opening that ended
      pub left_causes : (asked : List (NodeId × Input)) → (left : AreLeft (counted_node state) counted_meanings starts asked machines) → length left.log ≤ 131072
          → HaveCauses config (history_of left.log) (map first_in starts) (map told (map node_of machines))
      left_causes asked left few =
          let log = made_by 0 left.log in
          causes_of state faults keeps_synced turns config starts fresh machines log (omega (arith, few, length-made 0 left.log)) (all_starts config kept starts first) left.as_many counted (λ number low.
          let size = left.as_many in
          let got = got_at machines number (omega (arith, low, (all_starts config kept starts first), size)) in
          let node = left.each number got.0 got.1 in
          stands_counted machines log number got.0 got.1 node.0 node.1
          (node.2 ∙ ap (λ (l : List (NodeEvent Happened)). state_after counted_meanings node.0 (of_node number l)) (sym (events_made 0 left.log))))

-- ---- the events of an opening that ended

restart_at : (node count k : ℕ) → k < count → slice_get (restarts_from node count) k ≡ Some (record { 0 = node + k }, Restart)
restart_at node zero k below = absurd (omega arith)
restart_at node (suc count) zero below = let here : node ≡ node + 0 = omega arith in λ i. Some (record { 0 = here i }, Restart)
restart_at node (suc count) (suc k) below =
    let same : suc node + k ≡ node + suc k = omega arith in
    restart_at (suc node) count k (omega (arith, below)) ∙ (λ i. Some (record { 0 = same i }, Restart))

-- the opening begins with the starts of the nodes
pub restart_asked : (config : Shape) (number : ℕ) → number < nodes_of config → slice_get (opening config) number ≡ Some (record { 0 = number }, Restart)
restart_asked config number low =
    let zero_with : 0 + number ≡ number = omega arith in
    (at_longer (restarts_from 0 (nodes_of config)) _ number (record { 0 = 0 + number }, Restart) (restart_at 0 (nodes_of config) number low)).0 ∙ (λ i. Some (record { 0 = zero_with i }, Restart))

-- those that were made are asked for in the opening
module _ (config : Shape) (log : List (NodeEvent Happened)) (rest : List (NodeId × Input)) (begins : opening config ≡ map (asked_by counted_meanings) log ++ rest) where
  pub asked_at : (k : ℕ) (event : NodeEvent Happened) → slice_get log k ≡ Some event → slice_get (opening config) k ≡ Some (asked_by counted_meanings event)
  asked_at k event there =
      ap (λ (l : List (NodeId × Input)). slice_get l k) begins
      ∙ (at_longer (map (asked_by counted_meanings) log) rest k (asked_by counted_meanings event) (slice_get-map (asked_by counted_meanings) log k ∙ ap (option_map (asked_by counted_meanings)) there)).0

  silent_at : (k : ℕ) (event : NodeEvent Happened) → slice_get log k ≡ Some event → submitted event.happened.input ≡ None
  silent_at k event there = (quiet_asked config (asked_by counted_meanings event) (is_asked config k (asked_by counted_meanings event) (asked_at k event there))).1

  few_made : length log ≤ nodes_of config + 1
  few_made =
      let made : length (map (asked_by counted_meanings) log ++ rest) ≡ length log + length rest =
      length-append (map (asked_by counted_meanings) log) rest ∙ ap (λ (n : ℕ). n + length rest) (length-map log (asked_by counted_meanings)) in
      let all : length (map (asked_by counted_meanings) log ++ rest) ≡ nodes_of config + 1 = ap (length {A = NodeId × Input}) (sym begins) ∙ length_opening config in
      omega (arith, made, all)

  few_events : InRange config → length log ≤ 131072
  few_events range = let few = few_made in let nodes = (few_nodes config range).1 in omega (arith, few, nodes)

  made_silent : (k : ℕ) (entry : Entry Happened) → slice_get (made_by 0 log) k ≡ Some entry → submitted entry.event.happened.input ≡ None
  made_silent k entry there =
      let from = from_map (λ (e : NodeEvent Happened). record { maker = 0; event = e }) log k entry there in
      ap (λ (e : Entry Happened). submitted e.event.happened.input) (sym from.2) ∙ silent_at k from.0 from.1

  agree : (run : ℕ) → AllAgree run (made_by 0 log)
  agree run = record {
    of_run = λ k entry there submission e. absurd (none-some submission (sym (made_silent k entry there) ∙ e));
    agree = λ k j entry earlier there before one other e f. absurd (none-some one (sym (made_silent k entry there) ∙ e));
  }

  -- the first of them are the starts of the nodes
  starts_at : (number : ℕ) (event : Event) → number < nodes_of config → slice_get (history_of log) number ≡ Some event → (event.node.0 ≡ number) × (event.happened.input ≡ Restart)
  starts_at number event low there =
      let h = history_entry 0 (made_by 0 log) number event there in
      let from = from_map (λ (e : NodeEvent Happened). record { maker = 0; event = e }) log number h.entry h.there in
      let same : (record { 0 = number }, Restart) ≡ asked_by counted_meanings from.0 = same_Some _ (asked_by counted_meanings from.0) (sym (restart_asked config number low) ∙ asked_at number from.0 from.1) in
      let node : from.0.node ≡ number = λ i. (sym same i).0.0 in
      let input : from.0.happened.input ≡ Restart = λ i. (sym same i).1 in (
        (λ i. (h.event_is i).node.0) ∙ ((λ i. (sym from.2 i).event.node) ∙ node),
        (λ i. (h.event_is i).happened.input) ∙ ((λ i. (sym from.2 i).event.happened.input) ∙ input),
      )

  -- so the starts are clean, where nothing failed
  opening_clean : (run : ℕ) (kept : KeptLists) → InRange config → (starts : List CountedState) → IsBegun config run kept (map node_in starts) → AreRows counted_meanings starts log
      → (old new : List (List Medium)) → HaveCauses config (history_of log) old new → StartsAreClean config (history_of log) old new
  opening_clean run kept range starts begun legal old new causes =
      starts_are_clean config run kept (history_of log)
      (lawful config run kept range begun.sound (map node_in starts) begun.first (made_by 0 log)
      (subst (AreRows node_meanings (map node_in starts)) (sym (events_made 0 log)) (legal_projects starts log legal)) (agree run))
      starts_at old new causes

-- ---- the nodes

module _ {J P : Type 0} (state : J → Journalled) (faults : J → ℕ) (keeps_synced : J → Bool) (turns : J → Option Turns) (config : Shape) where
  abbrev start_of : Standing J P → CountedState
  start_of node = fresh_state state faults keeps_synced turns node

  abbrev media : Standing J P → List Medium
  media node = node_media state faults keeps_synced turns node

  -- nodes taken out of those that count stand where these stood
  abbrev left_nodes : (nodes : List (Standing J P)) (machines : List (Counted J P)) → AreLeft (counted_node state) counted_meanings (map start_of nodes) (opening config) machines
      → AreLeft (cluster_node state) node_meanings (map (cluster_node state) nodes) (opening config) (map (λ (c : Counted J P). c.node) machines)
  left_nodes nodes machines left = record {
    log = left.log;
    rest = left.rest;
    begins = left.begins;
    legal = subst (λ (l : List ClusterNode). AreRows node_meanings l left.log) (fresh_nodes state faults keeps_synced turns nodes) (legal_projects (map start_of nodes) left.log left.legal);
    as_many = length-map machines (λ (c : Counted J P). c.node) ∙ (left.as_many ∙ (length-map nodes start_of ∙ sym (length-map nodes (cluster_node state))));
    each = λ n node there.
        let from = from_map (λ (c : Counted J P). c.node) machines n node there in
        let e = left.each n from.0 from.1 in
        let back = from_map start_of nodes n e.0 e.1 in (
          cluster_node state back.0,
          slice_get-map (cluster_node state) nodes n ∙ ap (option_map (cluster_node state)) back.1,
          ap (cluster_node state) (sym from.2) ∙ ((λ i. (e.2 i).node) ∙ (node_after e.0 (of_node n left.log) ∙ ap (λ (s : CountedState). state_after node_meanings s.node (of_node n left.log)) (sym back.2))),
        );
  }

  pub left_with_causes : (run : ℕ) (kept : KeptLists) → InRange config → (nodes : List (Standing J P)) → IsBegun config run kept (map (cluster_node state) nodes) → (machines : List (Counted J P))
      → AllByRecursion (HasCounted state faults keeps_synced turns) machines → AreLeft (counted_node state) counted_meanings (map start_of nodes) (opening config) machines
      → AreLeftWithCauses config (cluster_node state) media nodes (map (λ (c : Counted J P). c.node) machines)
  left_with_causes run kept range nodes begun machines counted left =
      let begun' : IsBegun config run kept (map node_in (map start_of nodes)) = subst (IsBegun config run kept) (sym (fresh_nodes state faults keeps_synced turns nodes)) begun in
      let same : map first_in (map start_of nodes) ≡ map media nodes = map-map first_in start_of nodes in
      let now = map media (map (λ (c : Counted J P). c.node) machines) in
      let causes = left_causes state faults keeps_synced turns config kept (map start_of nodes) begun'.first (fresh_uncounted state faults keeps_synced turns nodes) machines counted (opening config) left
      (few_events config left.log left.rest left.begins range) in
      record {
        left = left_nodes nodes machines left;
        causes = subst (λ (old : List (List Medium)). HaveCauses config (history_of left.log) old now) same causes;
        clean = subst (λ (old : List (List Medium)). StartsAreClean config (history_of left.log) old now) same
            (opening_clean config left.log left.rest left.begins run kept range (map start_of nodes) begun' left.legal (map first_in (map start_of nodes)) now causes);
      }

  -- where nothing was made an event there is nothing to tell
  pub none_with_causes : (nodes : List (Standing J P)) → AreLeftWithCauses config (cluster_node state) media nodes nodes
  none_with_causes nodes = record {
    left = none_left (cluster_node state) nodes (opening config);
    causes = no_causes config (map media nodes);
    clean = λ number event low keep quiet there. absurd (none-some event there);
  }
