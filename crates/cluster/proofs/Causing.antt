-- What the nodes of a cluster counted says what their events come from.
use Rattle.std.proofs.Common.{◌≡◌, ◌<◌, ◌≤◌, ◌^◌, ◌-◌, ℕ, zero, suc, Bool, true, false, cond, List, [], ◌∷◌, ◌++◌, length, map, slice_get, Option, Some, nat_eq, refl, sym, ap, ◌∙◌, subst, arith}
use Rattle.std.specs.List.{AllByRecursion}
use Rattle.std.specs.Option.{option_map}
use Rattle.std.proofs.lemmas.List.{length-map}
use Rattle.std.proofs.lemmas.Option.{none-some, same_Some, slice_get-map}
use Rattle.std.proofs.lemmas.Simd.{map-map}
use Rattle.core_step.specs.Standing.{Standing, cluster_node}
use Rattle.counted_node.specs.Causes.{BeginWithStarts, HaveCauses, StartsAreClean, journals_at, media_at, node_media}
use Rattle.counted_node.specs.Counted.{AreCaused, AreCounted, Counted, CountedState, counted_meanings, counted_node, first_in, node_in}
use Rattle.counted_node.proofs.Shown.{caused_by, have_causes}
use Rattle.counted_node.proofs.Starts.{starts_are_clean}
use Rattle.history_frame.specs.declared.events.Event.{Event}
use Rattle.history_frame.specs.declared.events.Happened.{Happened}
use Rattle.history_frame.specs.declared.inputs.Input.TheVariants.{Restart}
use Rattle.log_base.specs.ClusterShape.{Shape}
use Rattle.log_base.specs.Machines.{of_node, state_after}
use Rattle.node_model.specs.Histories.{events_at}
use Rattle.node_model.specs.Legal.{IsLegal}
use Rattle.node_model.specs.NodeState.{KeptLists}
use Rattle.node_table.specs.Numbering.{nodes_of}
use Rattle.segment_journal.specs.Journalled.{Journalled, Turns}
use Rattle.shard_replica.specs.Lists.{Medium}
use Rattle.tied_cells.specs.History.{Entry, events}
use Rattle.tied_cells.proofs.Closes.{from_map}
use Rattle.cluster.specs.Counting.{HasCounted, NoneCounted, fresh_node, fresh_state}
use Rattle.cluster.specs.History.{event_at, history_from}

-- what happened at a node, in the history and in the log
pub happened_at : (n place : ℕ) (log : List (Entry Happened)) → map (λ (e : Event). e.happened) (events_at n (history_from place log)) ≡ of_node n (events log)
happened_at n place [] = refl
happened_at n place (entry ∷ log) = step (nat_eq entry.event.node n) (happened_at n (suc place) log)
  where
    step : (b : Bool) → map (λ (e : Event). e.happened) (events_at n (history_from (suc place) log)) ≡ of_node n (events log)
        → map (λ (e : Event). e.happened) (cond b (event_at place entry ∷ events_at n (history_from (suc place) log)) (events_at n (history_from (suc place) log)))
        ≡ cond b (entry.event.happened ∷ of_node n (events log)) (of_node n (events log))
    step true rest = ap (λ (l : List Happened). entry.event.happened ∷ l) rest
    step false rest = rest

-- a node has no more events than all
pub few_at : (n : ℕ) (log : List (Entry Happened)) → length (of_node n (events log)) ≤ length log
few_at n [] = omega arith
few_at n (entry ∷ log) = step (nat_eq entry.event.node n) (few_at n log)
  where
    step : (b : Bool) → length (of_node n (events log)) ≤ length log
        → length (cond b (entry.event.happened ∷ of_node n (events log)) (of_node n (events log))) ≤ suc (length log)
    step true rest = omega (arith, rest)
    step false rest = omega (arith, rest)

small_count : (n few last : ℕ) → n ≤ few → few ≤ last → n ≤ last
small_count n few last low within = omega arith

-- a part of what is told of some nodes
told_at : {A : Type 0} (told : A → List Medium) (nodes : List A) (n : ℕ) (node : A) → slice_get nodes n ≡ Some node → media_at (map told nodes) n ≡ told node
told_at told [] n node there = absurd (none-some node there)
told_at told (x ∷ nodes) zero node there = ap told (same_Some x node there)
told_at told (x ∷ nodes) (suc n) node there = told_at told nodes n node there

-- of each node nothing was counted at first
abbrev pub AreUncounted : List CountedState → Type 0
AreUncounted starts = (n : ℕ) (start : CountedState) → slice_get starts n ≡ Some start → (start.halted ≡ 0) × (start.stayed ≡ 0)

module _ {J P : Type 0} (state : J → Journalled) (nodes : List (Counted J P)) where
  pub uncounted_in : NoneCounted nodes → AreUncounted (map (counted_node state) nodes)
  uncounted_in none n start there =
      let from = from_map (counted_node state) nodes n start there in let h = none n from.0 from.1 in
      ((λ i. (sym from.2 i).halted) ∙ h.0, (λ i. (sym from.2 i).stayed) ∙ h.1)

  pub none_counted_in : AreUncounted (map (counted_node state) nodes) → NoneCounted nodes
  none_counted_in none n node there = none n (counted_node state node) (slice_get-map (counted_node state) nodes n ∙ ap (option_map (counted_node state)) there)

-- ---- lists of nodes

module _ {J P : Type 0} (state : J → Journalled) (faults : J → ℕ) (keeps_synced : J → Bool) (turns : J → Option Turns) where
  abbrev told : Standing J P → List Medium
  told node = node_media state faults keeps_synced turns node

  -- a node that is put into one that counts, of all the same
  pub fresh_first : (nodes : List (Standing J P)) → map first_in (map (fresh_state state faults keeps_synced turns) nodes) ≡ map told nodes
  fresh_first nodes = map-map first_in (fresh_state state faults keeps_synced turns) nodes

  pub fresh_nodes : (nodes : List (Standing J P)) → map node_in (map (fresh_state state faults keeps_synced turns) nodes) ≡ map (cluster_node state) nodes
  fresh_nodes nodes = map-map node_in (fresh_state state faults keeps_synced turns) nodes

  pub fresh_states : (nodes : List (Standing J P)) → map (counted_node state) (map (fresh_node state faults keeps_synced turns) nodes) ≡ map (fresh_state state faults keeps_synced turns) nodes
  fresh_states nodes = map-map (counted_node state) (fresh_node state faults keeps_synced turns) nodes

  pub fresh_uncounted : (nodes : List (Standing J P)) → AreUncounted (map (fresh_state state faults keeps_synced turns) nodes)
  fresh_uncounted [] n start there = absurd (none-some start there)
  fresh_uncounted (node ∷ nodes) zero start there =
      let is = same_Some (fresh_state state faults keeps_synced turns node) start there in
      (ap (λ (s : CountedState). s.halted) (sym is), ap (λ (s : CountedState). s.stayed) (sym is))
  fresh_uncounted (node ∷ nodes) (suc n) start there = fresh_uncounted nodes n start there

  pub counted_push : (nodes : List (Counted J P)) (node : Counted J P) → AllByRecursion (HasCounted state faults keeps_synced turns) nodes → HasCounted state faults keeps_synced turns node
      → AllByRecursion (HasCounted state faults keeps_synced turns) (nodes ++ node ∷ [])
  counted_push [] node all here = (here, tt)
  counted_push (other ∷ nodes) node all here = (all.0, counted_push nodes node all.1 here)

  counted_at : (nodes : List (Counted J P)) (n : ℕ) (node : Counted J P) → AllByRecursion (HasCounted state faults keeps_synced turns) nodes → slice_get nodes n ≡ Some node
      → HasCounted state faults keeps_synced turns node
  counted_at [] n node all there = absurd (none-some node there)
  counted_at (x ∷ nodes) zero node all there = subst (HasCounted state faults keeps_synced turns) (same_Some x node there) all.0
  counted_at (x ∷ nodes) (suc n) node all there = counted_at nodes n node all.1 there

  -- a node of the cluster that counted from its start on
  pub record StandsCounted (config : Shape) (starts : List CountedState) (machines : List (Counted J P)) (log : List (Entry Happened)) (number : ℕ) : Type 0 where
    pub machine : Counted J P
    pub there : slice_get machines number ≡ Some machine
    pub start : CountedState
    pub starts_so : slice_get starts number ≡ Some start
    pub stands : counted_node state machine ≡ state_after counted_meanings start (of_node number (events log))
    pub in_cluster : machine.node.config ≡ config
    pub numbered : machine.node.number ≡ number

  module _ (config : Shape) (starts : List CountedState) (fresh : AreUncounted starts) (machines : List (Counted J P)) (log : List (Entry Happened))
      (few : length log ≤ 131072) (all : length starts ≡ nodes_of config) (as_many : length machines ≡ length starts)
      (counted : AllByRecursion (HasCounted state faults keeps_synced turns) machines)
      (each : (number : ℕ) → number < nodes_of config → StandsCounted config starts machines log number) where
    node_caused : (number : ℕ) → number < nodes_of config
        → AreCaused (journals_at config number) (media_at (map first_in starts) number) (media_at (map told (map (λ (c : Counted J P). c.node) machines)) number)
        (map (λ (e : Event). e.happened) (events_at number (history_from 0 log)))
    node_caused number low =
        let s = each number low in
        let h = fresh number s.start s.starts_so in
        let hs = of_node number (events log) in
        let first = told_at first_in starts number s.start s.starts_so in
        let node_there : slice_get (map (λ (c : Counted J P). c.node) machines) number ≡ Some s.machine.node =
        slice_get-map (λ (c : Counted J P). c.node) machines number ∙ ap (option_map (λ (c : Counted J P). c.node)) s.there in
        let now = told_at told (map (λ (c : Counted J P). c.node) machines) number s.machine.node node_there in
        let is = counted_at machines number s.machine counted s.there in
        let count : journals_at s.machine.node.config s.machine.node.number ≡ journals_at config number = λ i. journals_at (s.in_cluster i) (s.numbered i) in
        let caused = caused_by (journals_at config number) s.start (counted_node state s.machine) hs (told s.machine.node) h.0 h.1
        (small_count (length hs) 131072 (2 ^ 64 - 1) (let low' = few_at number log in omega (arith, low', few)) (omega arith)) s.stands
        (subst (λ (n : ℕ). AreCounted n s.machine.first (told s.machine.node) s.machine.halted s.machine.stayed) count is) in
        subst (λ (x : List Medium × List Medium × List Happened). AreCaused (journals_at config number) x.0 x.1 x.2)
        (λ i. (sym first i, sym now i, sym (happened_at number 0 log) i)) caused

    pub causes_of : HaveCauses config (history_from 0 log) (map first_in starts) (map told (map (λ (c : Counted J P). c.node) machines))
    causes_of =
        have_causes config (history_from 0 log) (map first_in starts) (map told (map (λ (c : Counted J P). c.node) machines)) (length-map starts first_in ∙ all)
        (length-map (map (λ (c : Counted J P). c.node) machines) told ∙ (length-map machines (λ (c : Counted J P). c.node) ∙ (as_many ∙ all))) node_caused

-- a history that begins with starts finds them clean, where nothing failed
pub clean_starts : (config : Shape) (run : ℕ) (kept : KeptLists) (es : List Event) → IsLegal config run kept es → (old new : List (List Medium)) → HaveCauses config es old new
    → BeginWithStarts config es → StartsAreClean config es old new
clean_starts config run kept es legal old new causes begin =
    starts_are_clean config run kept es legal (λ number event low at.
    let one = begin number low in let is : one.0 ≡ event = same_Some one.0 event (sym one.1 ∙ at) in
    subst (λ (e : Event). (e.node.0 ≡ number) × (e.happened.input ≡ Restart)) is (one.2, one.3)) old new causes
