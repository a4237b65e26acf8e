-- What is given to a node fits it.
use Rattle.std.proofs.Common.{◌≡◌, ◌<◌, ℕ, List, [], ◌∷◌, map, slice_get, true, Some, refl, sym, subst, ◌∙◌, arith}
use Rattle.std.proofs.lemmas.List.{length-map}
use Rattle.std.proofs.lemmas.Option.{same_Some, slice_get_within}
use Rattle.counted_node.specs.Counted.{CountedState, counted_meanings, node_in}
use Rattle.counted_node.specs.Projected.{node_at}
use Rattle.history_frame.specs.declared.inputs.Call.{Call}
use Rattle.history_frame.specs.declared.inputs.Call.TheVariants.{Submit, Ask, Read, Request, Settled}
use Rattle.history_frame.specs.declared.inputs.Input.{Input}
use Rattle.history_frame.specs.declared.inputs.Input.TheVariants.{Call as ACall, Lead}
use Rattle.history_frame.specs.declared.events.Happened.{Happened}
use Rattle.history_frame.specs.Spelling.{IsInput as IsSpelledInput}
use Rattle.log_base.specs.ClusterShape.{Shape}
use Rattle.log_base.specs.Machines.{state_after}
use Rattle.tied_cells.specs.History.{happened_of}
use Rattle.log_model.specs.Storage.{Member}
use Rattle.record_frame.specs.declared.entries.Entry.{Entry}
use Rattle.node_table.specs.declared.role.Role.{Role}
use Rattle.node_table.specs.declared.role.Role.TheVariants.{Orderer}
use Rattle.node_table.specs.Numbering.{nodes_of, orderer_node, role_at}
use Rattle.node_table.proofs.Roles.{role_at-node_of}
use Rattle.node_model.specs.Fits.{FitsReplica, IsInput, names_of}
use Rattle.node_model.specs.NodeState.{KeptLists}
use Rattle.cluster.specs.Clusters.{AreFirst, first_node}
use Rattle.cluster.specs.Events.{FitsAlways}
use Rattle.cluster.proofs.Choosing.{state_free}

-- a node stays in its cluster, with its number
now_same : (start : CountedState) (hs : List Happened) → ((state_after counted_meanings start hs).node.config ≡ start.node.config) × ((state_after counted_meanings start hs).node.number ≡ start.node.number)
now_same start [] = (refl, refl)
now_same start (h ∷ hs) = now_same (counted_meanings.after start h) hs

module _ (config : Shape) (kept : KeptLists) (starts : List CountedState) (first : AreFirst config kept (map node_in starts)) (node : ℕ) where
  first_is : node < nodes_of config → (start : CountedState) → slice_get starts node ≡ Some start → first_node config kept node ≡ start.node
  first_is within start there = same_Some (first_node config kept node) start.node (sym (first.each node within) ∙ node_at starts node start there)

  pub stays : (start : CountedState) → slice_get starts node ≡ Some start → (hs : List Happened) → (state_after counted_meanings start hs).node.config ≡ config
  stays start there hs =
      let within : node < nodes_of config = let low = slice_get_within starts node start there in let all = first.all in let size = length-map starts node_in in omega arith in
      (now_same start hs).0 ∙ (λ i. (sym (first_is within start there) i).config)

  pub stays_numbered : (start : CountedState) → slice_get starts node ≡ Some start → (hs : List Happened) → (state_after counted_meanings start hs).node.number ≡ node
  stays_numbered start there hs =
      let within : node < nodes_of config = let low = slice_get_within starts node start there in let all = first.all in let size = length-map starts node_in in omega arith in
      (now_same start hs).1 ∙ (λ i. (sym (first_is within start there) i).number)

  pub given_after : node < nodes_of config → (input : Input) → IsInput config (role_at config node) input → ((member : Member) (lists : List (List Entry)) → FitsReplica member lists input)
      → (start : CountedState) → slice_get starts node ≡ Some start → (hs : List Happened) → counted_meanings.fits (state_after counted_meanings start hs) input
  given_after within input allowed free start there hs =
      let is = first_is within start there in
      let now = now_same start hs in let here = (state_after counted_meanings start hs).node in
      let c : config ≡ here.config = (λ i. (is i).config) ∙ sym now.0 in
      let n : node ≡ here.number = (λ i. (is i).number) ∙ sym now.1 in
      record {
        allowed = subst (λ (x : Shape × ℕ). IsInput x.0 (role_at x.0 x.1) input) (λ i. (c i, n i)) allowed;
        held = state_free here.config (role_at here.config here.number) here.state input free;
      }

pub call_fits : (config : Shape) (kept : KeptLists) (starts : List CountedState) → AreFirst config kept (map node_in starts) → (node : ℕ) → node < nodes_of config → (call : Call)
    → IsInput config (role_at config node) (ACall call) → FitsAlways starts node (ACall call)
call_fits config kept starts first node within call allowed start there es =
    given_after config kept starts first node within (ACall call) allowed (λ member lists. tt) start there (map happened_of es)

pub given_lead : (config : Shape) (kept : KeptLists) (starts : List CountedState) → AreFirst config kept (map node_in starts) → (index : ℕ) → index < config.orderers
    → orderer_node config index < nodes_of config → (start : CountedState) → slice_get starts (orderer_node config index) ≡ Some start → (hs : List Happened)
    → counted_meanings.fits (state_after counted_meanings start hs) Lead
given_lead config kept starts first index few within =
    let role = role_at-node_of config (Orderer index) few in
    given_after config kept starts first (orderer_node config index) within Lead
    (record { named = subst (λ (r : Role). (names_of r).lead ≡ true) (sym role) refl; range = tt }) (λ member lists. tt)

pub lead_fits : (config : Shape) (kept : KeptLists) (starts : List CountedState) → AreFirst config kept (map node_in starts) → (index : ℕ) → index < config.orderers
    → orderer_node config index < nodes_of config → FitsAlways starts (orderer_node config index) Lead
lead_fits config kept starts first index few within start there es = given_lead config kept starts first index few within start there (map happened_of es)

pub call_spelled : (config : Shape) (role : Role) (call : Call) → IsInput config role (ACall call) → IsSpelledInput (ACall call)
call_spelled config role (Submit client number bytes) is = is.range.size
call_spelled config role (Ask client number) is = tt
call_spelled config role (Read client position) is = tt
call_spelled config role (Request client value) is = is.range.1
call_spelled config role (Settled client value from) is = is.range
