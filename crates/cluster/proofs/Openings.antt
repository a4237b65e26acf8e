-- The inputs of the opening may be made events, and the passes that have them are a cluster's.
use Rattle.std.proofs.Common.{◌≡◌, ◌⊎◌, ◌<◌, ◌≤◌, ℕ, zero, suc, ◌+◌, ◌*◌, ◌/◌, ◌%◌, List, [], ◌∷◌, ◌++◌, map, take, length, length-append, slice_get, Some, None, refl, sym, ap, ◌∙◌, subst, inl, inr, ⊎_elim, arith}
use Rattle.std.proofs.lemmas.List.{length-map}
use Rattle.std.specs.Option.{option_map}
use Rattle.std.proofs.lemmas.Option.{none-some, same_Some, slice_get-map}
use Rattle.answer_law.specs.Frames.{FitsFrame}
use Rattle.counted_node.specs.Counted.{CountedState, counted_meanings, node_in}
use Rattle.history_frame.specs.declared.events.Happened.{Happened}
use Rattle.history_frame.specs.declared.inputs.Input.{Input}
use Rattle.history_frame.specs.declared.inputs.Input.TheVariants.{Lead, Restart}
use Rattle.history_frame.specs.Spelling.{event_size}
use Rattle.std.proofs.Math.Nat.{mul_comm, mul-le-mul_left}
use Rattle.std.proofs.lemmas.Nat.{le-div}
use Rattle.log_base.proofs.Legal.{at_push, legal_none}
use Rattle.log_base.specs.ClusterShape.{InRange, Shape}
use Rattle.log_base.specs.Machines.{Event, IsLegal, of_node, state_after}
use Rattle.log_base.specs.declared.numbers.NodeId.{NodeId}
use Rattle.node_table.specs.Numbering.{nodes_of, orderer_node, role_at}
use Rattle.node_table.specs.declared.role.Role.{Role}
use Rattle.node_table.specs.declared.role.Role.TheVariants.{Storage, Gatherer, Orderer}
use Rattle.node_model.specs.Legal.{submitted}
use Rattle.node_model.specs.Machine.{ClusterNode, IsAny, IsSoundStart, delivery, node_meanings}
use Rattle.node_model.specs.NodeState.{KeptLists}
use Rattle.node_model.specs.Sound.{AreSound, IsBefore, IsSound, IsSoundAs}
use Rattle.tied_cells.specs.Opening.{AreLeft, HasRoomFor, MayOpen, asked_by, owns_from, sizes_of_events}
use Rattle.tied_cells.specs.declared.board.Own.{Own}
use Rattle.cluster.specs.Clusters.{AllFit, AreFirst, IsBegun}
use Rattle.cluster.specs.Opening.{opening, opening_room, restarts_from}
use Rattle.cluster.specs.Submitting.{SubmitsAlone}
use Rattle.cluster.proofs.Brief.{brief_row}
use Rattle.cluster.proofs.Choosing.{restart_fits}
use Rattle.cluster.proofs.Fitting.{brief_fits}
use Rattle.cluster.proofs.Giving.{given_lead, stays}

-- lists that are sound before a run are so whatever their numbers
any_number : (config : Shape) (run : ℕ) (kept : KeptLists) → IsSound config run kept → AreSound config IsAny kept
any_number config run kept sound disk offset payload there = let s = sound disk offset payload there in (s.0, as_role (role_at config (disk / 8)) (disk % 8) s.1)
  where
    as_role : (role : Role) (segment : ℕ) → IsSoundAs config (IsBefore run) kept role segment offset payload → IsSoundAs config IsAny kept role segment offset payload
    as_role (Storage shard replica) segment h = (h.0, record { spelled = h.1.spelled; number = tt; few = h.1.few; primary = h.1.primary })
    as_role (Gatherer index) segment h = h
    as_role (Orderer index) segment h = h

pub sound_start : (config : Shape) (run : ℕ) (kept : KeptLists) (starts : List ClusterNode) → InRange config → IsBegun config run kept starts → IsSoundStart starts
sound_start config run kept starts range begun = record {
  config = config;
  kept = kept;
  in_range = range;
  sound = any_number config run kept begun.sound;
  all = begun.first.all;
  each = begun.first.each;
}

-- one more node starts
pub restarts_more : (node count : ℕ) → restarts_from node (suc count) ≡ restarts_from node count ++ (record { 0 = node + count }, Restart) ∷ []
restarts_more node zero = let here : node ≡ node + 0 = omega arith in λ i. (record { 0 = here i }, Restart) ∷ []
restarts_more node (suc count) =
    let same : suc node + count ≡ node + suc count = omega arith in
    ap (λ (l : List (NodeId × Input)). (record { 0 = node }, Restart) ∷ l) (restarts_more (suc node) count)
    ∙ (λ i. (record { 0 = node }, Restart) ∷ (restarts_from (suc node) count ++ (record { 0 = same i }, Restart) ∷ []))

pub length_restarts : (node count : ℕ) → length (restarts_from node count) ≡ count
length_restarts node zero = refl
length_restarts node (suc count) = ap suc (length_restarts (suc node) count)

-- an input of the opening
abbrev pub IsAsked : Shape → NodeId × Input → Type 0
IsAsked config asked = ((asked.0.0 < nodes_of config) × (asked.1 ≡ Restart)) ⊎ ((asked.0.0 ≡ orderer_node config 0) × (asked.1 ≡ Lead))

a_restart : (node count k : ℕ) (asked : NodeId × Input) → slice_get (restarts_from node count) k ≡ Some asked → (asked.0.0 < node + count) × (asked.1 ≡ Restart)
a_restart node zero k asked there = absurd (none-some asked there)
a_restart node (suc count) zero asked there =
    let same = same_Some _ asked there in let at : asked.0.0 ≡ node = ap (λ (a : NodeId × Input). a.0.0) (sym same) in
    (omega arith, ap (λ (a : NodeId × Input). a.1) (sym same))
a_restart node (suc count) (suc k) asked there = let rest = a_restart (suc node) count k asked there in let below = rest.0 in (omega arith, rest.1)

pub is_asked : (config : Shape) (k : ℕ) (asked : NodeId × Input) → slice_get (opening config) k ≡ Some asked → IsAsked config asked
is_asked config k asked there =
    ⊎_elim
    (λ (old : (slice_get (restarts_from 0 (nodes_of config)) k ≡ Some asked) × (take k (opening config) ≡ take k (restarts_from 0 (nodes_of config)))).
    let r = a_restart 0 (nodes_of config) k asked old.0 in let below = r.0 in let within : asked.0.0 < nodes_of config = omega arith in inl (within, r.1))
    (λ (last : ((record { 0 = orderer_node config 0 }, Lead) ≡ asked) × (take k (opening config) ≡ restarts_from 0 (nodes_of config))).
    inr (ap (λ (a : NodeId × Input). a.0.0) (sym last.0), ap (λ (a : NodeId × Input). a.1) (sym last.0)))
    (at_push (restarts_from 0 (nodes_of config)) (record { 0 = orderer_node config 0 }, Lead) k asked there)

pub length_opening : (config : Shape) → length (opening config) ≡ nodes_of config + 1
length_opening config = length-append (restarts_from 0 (nodes_of config)) ((record { 0 = orderer_node config 0 }, Lead) ∷ []) ∙ ap (λ (n : ℕ). n + 1) (length_restarts 0 (nodes_of config))

pub few_nodes : (config : Shape) → InRange config → (0 < nodes_of config) × (nodes_of config ≤ 43)
few_nodes config range = (omega arith, omega arith)

orderer_within : (config : Shape) → InRange config → orderer_node config 0 < nodes_of config
orderer_within config range = let odd = range.odd in omega arith

first_orderer : (config : Shape) → InRange config → 0 < config.orderers
first_orderer config range = let odd = range.odd in omega arith

pub quiet_asked : (config : Shape) (asked : NodeId × Input) → IsAsked config asked → (delivery asked.1 ≡ None) × (submitted asked.1 ≡ None)
quiet_asked config asked (inl h) = (ap delivery h.1, ap submitted h.1)
quiet_asked config asked (inr h) = (ap delivery h.1, ap submitted h.1)

at_map : {A B : Type 0} (f : A → B) (xs : List A) (y : B) (ys : List B) → slice_get (map f xs ++ y ∷ ys) (length xs) ≡ Some y
at_map f [] y ys = refl
at_map f (x ∷ xs) y ys = at_map f xs y ys

-- what is so of each event is so of those of the pass that made them
owns_fit : (place : ℕ) (log : List (Event Happened)) → ((k : ℕ) (event : Event Happened) → slice_get log k ≡ Some event → FitsFrame event.happened) → AllFit (owns_from place log)
owns_fit place [] fit k own there = absurd (none-some own there)
owns_fit place (event ∷ log) fit zero own there = subst (λ (o : Own Happened). FitsFrame o.happened) (same_Some _ own there) (fit zero event refl)
owns_fit place (event ∷ log) fit (suc k) own there = owns_fit (suc place) log (λ j e at. fit (suc j) e at) k own there

module _ (config : Shape) (kept : KeptLists) (range : InRange config) (starts : List CountedState) (first : AreFirst config kept (map node_in starts)) where
  fits_asked : (asked : NodeId × Input) → IsAsked config asked → (log : List (Event Happened)) (start : CountedState) → slice_get starts asked.0.0 ≡ Some start
      → counted_meanings.fits (state_after counted_meanings start (of_node asked.0.0 log)) asked.1
  fits_asked asked (inl h) log start there =
      let now = state_after counted_meanings start (of_node asked.0.0 log) in subst (counted_meanings.fits now) (sym h.1) (restart_fits now.node)
  fits_asked asked (inr h) log start there =
      let at = subst (λ (n : ℕ). slice_get starts n ≡ Some start) h.0 there in
      subst (counted_meanings.fits (state_after counted_meanings start (of_node asked.0.0 log))) (sym h.1)
      (given_lead config kept starts first 0 (first_orderer config range) (orderer_within config range) start at (of_node asked.0.0 log))

  pub may_open : MayOpen counted_meanings starts (opening config)
  may_open = record {
    nodes = λ k asked there. let all = first.all in let within = orderer_within config range in
        ⊎_elim (λ (h : (asked.0.0 < nodes_of config) × (asked.1 ≡ Restart)). let below = h.0 in let size = length-map starts node_in in let w : asked.0.0 < length starts = omega arith in w)
        (λ (h : (asked.0.0 ≡ orderer_node config 0) × (asked.1 ≡ Lead)). let at = h.0 in let size = length-map starts node_in in let w : asked.0.0 < length starts = omega arith in w) (is_asked config k asked there);
    quiet = λ k asked there. (quiet_asked config asked (is_asked config k asked there)).0;
    fits = λ log asked rest all legal start there.
        fits_asked asked (is_asked config (length log) asked (ap (λ (l : List (NodeId × Input)). slice_get l (length log)) all ∙ at_map (asked_by counted_meanings) log asked rest)) log start there;
  }

  -- each event of the opening is small
  small_event : (log : List (Event Happened)) → IsLegal counted_meanings starts log → map (asked_by counted_meanings) log ≡ opening config → (k : ℕ) (event : Event Happened) → slice_get log k ≡ Some event
      → event_size event.happened ≤ 200
  small_event log legal all k event there =
      let next = legal k event there in
      let asked : slice_get (opening config) k ≡ Some (asked_by counted_meanings event) =
      ap (λ (l : List (NodeId × Input)). slice_get l k) (sym all) ∙ (slice_get-map (asked_by counted_meanings) log k ∙ ap (option_map (asked_by counted_meanings)) there) in
      let is = is_asked config k (asked_by counted_meanings event) asked in
      let now = state_after counted_meanings next.0 (of_node event.node (take k log)) in
      let same : now.node.config ≡ config = stays config kept starts first event.node next.0 next.1 (of_node event.node (take k log)) in
      let orderers : now.node.config.orderers ≡ config.orderers = ap (λ (s : Shape). s.orderers) same in
      let few = range.orderers in
      brief_row now.node.config now.node.number now.node.state event.happened (omega arith) (⊎_elim (λ (h : (event.node < nodes_of config) × (event.happened.input ≡ Restart)). inl h.1) (λ (h : (event.node ≡ orderer_node config 0) × (event.happened.input ≡ Lead)). inr h.1) is) next.2.row

  -- and fits a frame
  pub opening_fits : (log : List (Event Happened)) → IsLegal counted_meanings starts log → map (asked_by counted_meanings) log ≡ opening config → AllFit (owns_from 0 log)
  opening_fits log legal all = owns_fit 0 log (λ k event there. brief_fits event.happened (small_event log legal all k event there))

  sizes_small : (log : List (Event Happened)) → ((k : ℕ) (event : Event Happened) → slice_get log k ≡ Some event → event_size event.happened ≤ 200)
      → sizes_of_events counted_meanings log ≤ 200 * length log
  sizes_small [] small = omega arith
  sizes_small (event ∷ log) small =
      let here = small zero event refl in let rest = sizes_small log (λ k e there. small (suc k) e there) in omega arith

  pub has_room : HasRoomFor counted_meanings starts (opening config) opening_room
  has_room log all legal =
      let size : length log ≡ nodes_of config + 1 = sym (length-map log (asked_by counted_meanings)) ∙ (ap (length {A = NodeId × Input}) (sym all) ∙ length_opening config) in
      let few = (few_nodes config range).1 in
      let sizes = sizes_small log (small_event log legal (sym all)) in
      omega arith

-- what the last pass has submits nothing
pub owns_none : (run number place : ℕ) (log : List (Event Happened)) → ((k : ℕ) (event : Event Happened) → slice_get log k ≡ Some event → submitted event.happened.input ≡ None)
    → SubmitsAlone run number (owns_from place log)
owns_none run number place log none = record {
  of_pass = λ k own there entry e. absurd (none-some entry (sym (silent place log none k own there) ∙ e));
  like = λ k j own other there also one two e f. absurd (none-some one (sym (silent place log none k own there) ∙ e));
}
  where
    silent : (place : ℕ) (log : List (Event Happened)) → ((k : ℕ) (event : Event Happened) → slice_get log k ≡ Some event → submitted event.happened.input ≡ None)
        → (k : ℕ) (own : Own Happened) → slice_get (owns_from place log) k ≡ Some own → submitted own.happened.input ≡ None
    silent place [] none k own there = absurd (none-some own there)
    silent place (event ∷ log) none zero own there = ap (λ (o : Own Happened). submitted o.happened.input) (sym (same_Some _ own there)) ∙ none zero event refl
    silent place (event ∷ log) none (suc k) own there = silent (suc place) log (λ j e at. none (suc j) e at) k own there

pub opening_submits : (config : Shape) (run number : ℕ) (log : List (Event Happened)) → map (asked_by counted_meanings) log ≡ opening config → SubmitsAlone run number (owns_from 0 log)
opening_submits config run number log all = owns_none run number 0 log (λ k event there.
    let asked : slice_get (opening config) k ≡ Some (asked_by counted_meanings event) =
    ap (λ (l : List (NodeId × Input)). slice_get l k) (sym all) ∙ (slice_get-map (asked_by counted_meanings) log k ∙ ap (option_map (asked_by counted_meanings)) there) in
    (quiet_asked config (asked_by counted_meanings event) (is_asked config k (asked_by counted_meanings event) asked)).1)

-- the opening is within what each pass may use
pub room_there : (passes : ℕ) → 0 < passes → passes ≤ 73 → opening_room ≤ 536870912 / passes
room_there passes some few = le-div opening_room 536870912 passes some (omega arith)

pub places_there : (config : Shape) → InRange config → (passes n : ℕ) → 0 < passes → passes ≤ 73 → n ≡ nodes_of config + 1 → n ≤ 131072 / passes
places_there config range passes n some few is =
    let nodes = (few_nodes config range).1 in
    let small : n ≤ 44 = omega arith in
    let most : passes * n ≤ passes * 44 = mul-le-mul_left passes small in
    let turned : n * passes ≡ passes * n = mul_comm n passes in
    let fits : n * passes ≤ 131072 = omega arith in
    le-div n 131072 passes some fits

-- where nothing was made an event the machines are as they were
abbrev pub none_left : {A : Type 0} (state : A → ClusterNode) (machines : List A) (asked : List (NodeId × Input)) → AreLeft state node_meanings (map state machines) asked machines
none_left state machines asked = record {
  log = [];
  rest = asked;
  begins = refl;
  legal = legal_none node_meanings (map state machines);
  as_many = sym (length-map machines state);
  each = λ n machine there. (state machine, slice_get-map state machines n ∙ ap (option_map state) there, refl);
}
