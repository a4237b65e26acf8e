-- A legal history is legal at its orderers: their states are those that the orderers' part speaks of, and the other nodes
-- send no message of the orderers.
use Rattle.std.proofs.Common.{◌≡◌, ℕ, ◌+◌, ◌-◌, ◌<◌, ◌≤◌, Bool, true, false, cond, ◌&&◌, nat_le, nat_lt, List, [], ◌∷◌, ◌++◌, Option, Some, None, refl, sym, ap, subst, arith, leb-true, ltb-true, lt-ltb, le-leb, ◌∙◌}
use Rattle.std.proofs.lemmas.Bool.{and_parts, cond-true}
use Rattle.history_frame.specs.declared.events.Event.{Event}
use Rattle.history_frame.specs.declared.events.Happened.{Happened}
use Rattle.history_frame.specs.declared.inputs.Input.{Input}
use Rattle.history_frame.specs.declared.inputs.Mark.{Mark}
use Rattle.log_base.specs.ClusterShape.{InRange, Shape}
use Rattle.node_table.specs.declared.role.Role.{Role}
use Rattle.node_table.specs.declared.role.Role.TheVariants.{Storage, Gatherer, Orderer}
use Rattle.node_table.specs.Numbering.{IsRole, node_of, orderer_node, role_at}
use Rattle.node_table.proofs.Roles.{role_at-is, role_at-node_of}
use Rattle.node_model.specs.Fits.{IsInput}
use Rattle.node_model.specs.GathererRow.{outcome as gatherer_outcome}
use Rattle.node_model.specs.Histories.{after_event, after_events, durable_after, events_at, orderer_after}
use Rattle.node_model.specs.Legal.{AreNext, IsLegal, IsNext}
use Rattle.node_model.specs.Marks.{NodeOf, OutcomeOf, node_or}
use Rattle.node_model.specs.Nodes.{before_orderers, orderer_of}
use Rattle.node_model.specs.NodeState.{KeptLists, NodeOutcome, NodeState, Storing, Gathering, Ordering, as_outcome, begun_as, node_after, orderers_kept, outcome_as, state_or, states_after}
use Rattle.node_model.specs.OrdererLegal.{IsEventOf, IsLegalAfter, IsOrdererEvent, IsOrdererLegal}
use Rattle.node_model.specs.OrdererNode.{Node, Outcome, at_first}
use Rattle.node_model.specs.OrdererRow.{outcome}
use Rattle.node_model.specs.Sequence.{orderer_list, promises_of}
use Rattle.node_model.specs.StorageNode.{member_of}
use Rattle.node_model.specs.StorageRow.{outcome as storage_outcome}
use Rattle.node_model.proofs.Others.{AreOthers, gatherer_others, storage_others}

-- which orderer a node is
pub orderer_is : (config : Shape) (x i : ℕ) → orderer_of config x ≡ Some i → (x ≡ orderer_node config i) × (i < config.orderers)
orderer_is config x i e = at (nat_le (before_orderers config) x && nat_lt x (before_orderers config + config.orderers)) refl e
  where
    at : (t : Bool) → (nat_le (before_orderers config) x && nat_lt x (before_orderers config + config.orderers)) ≡ t
        → cond t (Some (x - before_orderers config)) None ≡ Some i → (x ≡ orderer_node config i) × (i < config.orderers)
    at true p f =
        let parts = and_parts _ _ p in
        let low : before_orderers config ≤ x = leb-true (before_orderers config) x parts.0 in
        let high : x < before_orderers config + config.orderers = ltb-true x (before_orderers config + config.orderers) parts.1 in
        let same : x - before_orderers config ≡ i = cc in
        (omega arith, omega arith)
    at false p f = absurd (cc)

pub orderer_of_node : (config : Shape) (i : ℕ) → i < config.orderers → orderer_of config (orderer_node config i) ≡ Some i
orderer_of_node config i inside =
    rw (
      le-leb (before_orderers config) (orderer_node config i) (omega arith),
      lt-ltb (orderer_node config i) (before_orderers config + config.orderers) (omega arith),
    ) (ap (λ k. Some k) (omega arith))

pub orderer_role_at : (config : Shape) (i : ℕ) → i < config.orderers → role_at config (orderer_node config i) ≡ Orderer i
orderer_role_at config i inside = role_at-node_of config (Orderer i) inside

-- an outcome of a node is one of its role
as_outcome_some : {D P K M : Type 0} (state : NodeOf D P K M → NodeState) (o : Option (OutcomeOf D P K M)) (made : NodeOutcome) → as_outcome state o ≡ Some made
    → (inner : OutcomeOf D P K M) × (o ≡ Some inner) × (made.outputs ≡ inner.outputs) × (made.reply ≡ inner.reply)
as_outcome_some state None made e = absurd (cc)
as_outcome_some state (Some inner) made e =
    let same : record { state = state inner.node; outputs = inner.outputs; reply = inner.reply } ≡ made = cc in
    (inner, refl, sym (ap (λ (m : NodeOutcome). m.outputs) same), sym (ap (λ (m : NodeOutcome). m.reply) same))

abbrev IsOrderer : Role → Type 0
IsOrderer (Storage shard replica) = ⊥
IsOrderer (Gatherer index) = ⊥
IsOrderer (Orderer index) = Unit {0}

-- what a node that is no orderer sends
others_as : (config : Shape) (role : Role) (state : NodeState) (input : Input) (mark : Mark) (made : NodeOutcome)
    → outcome_as config role state input mark ≡ Some made → (IsOrderer role → ⊥) → AreOthers made.outputs
others_as config (Storage shard replica) (Storing node) input mark made e other =
    let found = as_outcome_some Storing (storage_outcome config (member_of config shard.0 replica.0) node input mark) made e in
    subst AreOthers (sym found.2) (storage_others config (member_of config shard.0 replica.0) node input mark found.0 found.1)
others_as config (Storage shard replica) (Gathering node) input mark made e other = absurd (cc)
others_as config (Storage shard replica) (Ordering node) input mark made e other = absurd (cc)
others_as config (Gatherer index) (Gathering node) input mark made e other =
    let found = as_outcome_some Gathering (gatherer_outcome config index node input mark) made e in
    subst AreOthers (sym found.2) (gatherer_others config index node input mark found.0 found.1)
others_as config (Gatherer index) (Storing node) input mark made e other = absurd (cc)
others_as config (Gatherer index) (Ordering node) input mark made e other = absurd (cc)
others_as config (Orderer index) state input mark made e other = absurd (other tt)

-- the state of an orderer
ordering_or : (config : Shape) (i : ℕ) (role : Role) → role ≡ Orderer i → (node : Node) (happened : Happened)
    → state_or (Ordering node) (outcome_as config role (Ordering node) happened.input happened.mark)
    ≡ Ordering (node_or node (outcome config i node happened.input happened.mark))
ordering_or config i role is node happened =
    subst (λ r. state_or (Ordering node) (outcome_as config r (Ordering node) happened.input happened.mark) ≡ Ordering (node_or node (outcome config i node happened.input happened.mark))) (sym is)
    (at (outcome config i node happened.input happened.mark))
  where
    at : (o : Option Outcome) → state_or (Ordering node) (as_outcome Ordering o) ≡ Ordering (node_or node o)
    at None = refl
    at (Some made) = refl

ordering_after : (config : Shape) (x i : ℕ) → role_at config x ≡ Orderer i → (node : Node) (es : List Event)
    → states_after config x (Ordering node) es ≡ Ordering (after_events config i node es)
ordering_after config x i is node [] = refl
ordering_after config x i is node (e ∷ es) =
    ap (λ state. states_after config x state es) (ordering_or config i (role_at config x) is node e.happened)
    ∙ ordering_after config x i is (after_event config i node e) es

ordering_state : (config : Shape) (kept : KeptLists) (events : List Event) (i : ℕ) → i < config.orderers
    → node_after config kept events (orderer_node config i)
    ≡ Ordering (after_events config i (at_first (orderers_kept config kept i)) (events_at (orderer_node config i) events))
ordering_state config kept events i inside =
    ap (λ state. states_after config (orderer_node config i) state (events_at (orderer_node config i) events))
    (ap (λ role. begun_as config kept (orderer_node config i) role) (orderer_role_at config i inside))
    ∙ ordering_after config (orderer_node config i) i (orderer_role_at config i inside) (at_first (orderers_kept config kept i)) (events_at (orderer_node config i) events)

pub orderer_state : (config : Shape) (kept : KeptLists) (events : List Event) (i : ℕ) → i < config.orderers
    → node_after config kept events (orderer_node config i) ≡ Ordering (orderer_after config (orderers_kept config kept) events i)
orderer_state config kept events i inside =
    ordering_state config kept events i inside
    ∙ ap (λ node. Ordering node) (sym (cond-true (nat_lt i config.orderers) (after_events config i (at_first (orderers_kept config kept i)) (events_at (orderer_node config i) events)) (at_first []) (lt-ltb i config.orderers inside)))

-- the lists of which the orderers' part speaks are those of the history
pub orderer_lists : (config : Shape) (kept : KeptLists) (events : List Event)
    → orderer_list config kept events ≡ durable_after config (orderers_kept config kept) events
orderer_lists config kept events = λ x i. at i (nat_lt i config.orderers) refl x
  where
    at : (i : ℕ) (t : Bool) → nat_lt i config.orderers ≡ t
        → cond t (promises_of (node_after config kept events (orderer_node config i))) []
        ≡ (cond t (after_events config i (at_first (orderers_kept config kept i)) (events_at (orderer_node config i) events)) (at_first [])).durable
    at i true e = ap promises_of (ordering_state config kept events i (ltb-true i config.orderers e))
    at i false e = refl

module _ (config : Shape) (run : ℕ) (kept : KeptLists) (in_range : InRange config) where
  -- at a node that is no orderer
  elsewhere : (before : List Event) (e : Event) → IsNext config run kept before e → orderer_of config e.node.0 ≡ None → AreOthers e.happened.outputs
  elsewhere before e h none =
      subst AreOthers (sym h.row.outputs)
      (others_as config (role_at config e.node.0) (node_after config kept before e.node.0) e.happened.input e.happened.mark h.row.made h.row.rule (not_orderer (role_at config e.node.0) refl))
    where
      not_orderer : (role : Role) → role_at config e.node.0 ≡ role → IsOrderer role → ⊥
      not_orderer (Storage shard replica) is o = o
      not_orderer (Gatherer index) is o = o
      not_orderer (Orderer index) is o =
          let known = role_at-is config e.node.0 in_range h.node in
          let inside : index < config.orderers = subst (IsRole config) is known.0 in
          let number : orderer_node config index ≡ e.node.0 = subst (λ r. node_of config r ≡ e.node.0) is known.1 in
          let some : orderer_of config e.node.0 ≡ Some index = subst (λ x. orderer_of config x ≡ Some index) number (orderer_of_node config index inside) in
          absurd (cc)

  -- at an orderer
  at_orderer : (before : List Event) (e : Event) (i : ℕ) → IsNext config run kept before e → orderer_of config e.node.0 ≡ Some i
      → IsOrdererEvent config (orderers_kept config kept) before i e
  at_orderer before e i h own = record {
    input = subst (λ role. IsInput config role e.happened.input) is h.allowed;
    delivered = h.delivered;
    made = found.0;
    rule = found.1;
    outputs = h.row.outputs ∙ found.2;
    reply = h.row.reply ∙ found.3;
  }
    where
      where_is : (e.node.0 ≡ orderer_node config i) × (i < config.orderers)
      where_is = orderer_is config e.node.0 i own

      is : role_at config e.node.0 ≡ Orderer i
      is = ap (λ x. role_at config x) where_is.0 ∙ orderer_role_at config i where_is.1

      state : node_after config kept before e.node.0 ≡ Ordering (orderer_after config (orderers_kept config kept) before i)
      state = ap (λ x. node_after config kept before x) where_is.0 ∙ orderer_state config kept before i where_is.1

      rule : as_outcome Ordering (outcome config i (orderer_after config (orderers_kept config kept) before i) e.happened.input e.happened.mark) ≡ Some h.row.made
      rule = subst (λ (x : Role × NodeState). outcome_as config x.0 x.1 e.happened.input e.happened.mark ≡ Some h.row.made) (λ j. (is j, state j)) h.row.rule

      found : (inner : Outcome) × (outcome config i (orderer_after config (orderers_kept config kept) before i) e.happened.input e.happened.mark ≡ Some inner) × (h.row.made.outputs ≡ inner.outputs) × (h.row.made.reply ≡ inner.reply)
      found = as_outcome_some Ordering (outcome config i (orderer_after config (orderers_kept config kept) before i) e.happened.input e.happened.mark) h.row.made rule

  event_of : (before : List Event) (e : Event) → IsNext config run kept before e → (x : Option ℕ) → orderer_of config e.node.0 ≡ x
      → IsEventOf config (orderers_kept config kept) before x e
  event_of before e h None own = elsewhere before e h own
  event_of before e h (Some i) own = at_orderer before e i h own

  pub follows_at_orderers : (before events : List Event) → AreNext config run kept before events → IsLegalAfter config (orderers_kept config kept) before events
  follows_at_orderers before [] h = tt
  follows_at_orderers before (e ∷ events) h =
      ((h.0.place, event_of before e h.0 (orderer_of config e.node.0) refl), follows_at_orderers (before ++ e ∷ []) events h.1)

pub legal_at_orderers : (config : Shape) (run : ℕ) (kept : KeptLists) (events : List Event) → IsLegal config run kept events → IsOrdererLegal config (orderers_kept config kept) events
legal_at_orderers config run kept events h = follows_at_orderers config run kept h.config_in_range [] events h.follow
