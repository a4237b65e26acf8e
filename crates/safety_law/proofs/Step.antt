-- What an event makes of a node, whatever its role, keeps all.
use Rattle.std.proofs.Common.{◌≡◌, ◌<◌, ℕ, List, ◌++◌, Option, Some, None, refl, sym, ap, subst, ◌∙◌}
use Rattle.std.proofs.lemmas.Option.{none-some, same_Some}
use Rattle.history_frame.specs.declared.events.Sent.{Sent}
use Rattle.history_frame.specs.declared.inputs.Input.{Input}
use Rattle.history_frame.specs.declared.inputs.Mark.{Mark}
use Rattle.log_base.specs.ClusterShape.{InRange, Shape}
use Rattle.log_model.specs.Storage.{list_in}
use Rattle.node_table.specs.declared.role.Role.{Role}
use Rattle.node_table.specs.declared.role.Role.TheVariants.{Storage, Gatherer, Orderer}
use Rattle.node_table.specs.Numbering.{IsRole, node_of, nodes_of, role_at, storage_node}
use Rattle.node_table.proofs.Roles.{role_at-is, role_at-node_of}
use Rattle.node_model.specs.GathererRow.{outcome as gatherer_outcome}
use Rattle.node_model.specs.Marks.{NodeOf, OutcomeOf}
use Rattle.node_model.specs.NodeState.{NodeOutcome, NodeState, Storing, Gathering, Ordering, as_outcome, node_outcome, outcome_as}
use Rattle.node_model.specs.OrdererRow.{outcome as orderer_outcome}
use Rattle.node_model.specs.Sequence.{lists_of}
use Rattle.node_model.specs.StorageNode.{member_of}
use Rattle.node_model.specs.StorageRow.{outcome as storage_outcome}
use Rattle.safety_law.specs.Fit.{Fit, IsGoodNode}
use Rattle.safety_law.specs.Lists.{lists_at}
use Rattle.safety_law.proofs.GathererStep.{outcome_good as gatherer_good}
use Rattle.safety_law.specs.Events.{IsGoodInput, with_state}
use Rattle.safety_law.proofs.Install.{install_free, replica_step}
use Rattle.safety_law.proofs.OrdererStep.{orderer_after, orderer_letters}
use Rattle.safety_law.proofs.ReplicaStep.{outcome_good as replica_good}
use Rattle.safety_law.proofs.StorageSends.{IsAt, as_role}

-- an outcome is that of the role
pub of_role : {D P K M : Type 0} (f : NodeOf D P K M → NodeState) (o : Option (OutcomeOf D P K M)) (made : NodeOutcome) → as_outcome f o ≡ Some made
    → (m : OutcomeOf D P K M) × (o ≡ Some m) × ((let as_made : NodeOutcome = record { state = f m.node; outputs = m.outputs; reply = m.reply } in as_made) ≡ made)
of_role f None made e = absurd (none-some made e)
of_role f (Some m) made e = (m, refl, same_Some _ made e)

module _ (config : Shape) (range : InRange config) (state : ℕ → NodeState) (sent : List Sent) (fit : Fit config state sent) (n : ℕ) (within : n < nodes_of config) where
  -- no list of entries stands at a node of another role
  none_here : (role : Role) → role_at config n ≡ role → ((s r : ℕ) → as_role s r ≡ role → ⊥)
      → (s r : ℕ) → s < config.shards → r < config.replicas → storage_node config s r ≡ n → ⊥
  none_here role e other s r a b at = other s r (sym (role_at-node_of config (as_role s r) (a, b)) ∙ ap (role_at config) at ∙ e)

  step_as : (role : Role) → role_at config n ≡ role → IsRole config role → node_of config role ≡ n → (x : NodeState) → state n ≡ x → IsGoodNode config (lists_at config state) role x
      → (input : Input) (mark : Mark) → IsGoodInput config (lists_at config state) role input → (made : NodeOutcome) → outcome_as config role x input mark ≡ Some made
      → Fit config (with_state state n made.state) (sent ++ made.outputs)
  step_as (Storage s r) e is at (Storing node) x h input mark f made o =
      let m = of_role Storing (storage_outcome config (member_of config s.0 r.0) node input mark) made o in
      let here : IsAt config (lists_at config state) s.0 r.0 node.durable = record {
        shard = is.0;
        replica = is.1;
        here = λ j. ap (λ (k : ℕ). list_in (lists_of (state k)) j) at ∙ ap (λ (y : NodeState). list_in (lists_of y) j) x;
        size = h.size;
      } in
      subst (λ (y : NodeOutcome). Fit config (with_state state n y.state) (sent ++ y.outputs)) m.2
      (replica_step config range state sent fit n within s.0 r.0 is.0 is.1 at node x h e m.0
      (replica_good config range (lists_at config state) fit.copies s.0 r.0 node here h.mode input f mark m.0 m.1))
  step_as (Gatherer i) e is at (Gathering node) x h input mark f made o =
      let m = of_role Gathering (gatherer_outcome config i node input mark) made o in
      let good = gatherer_good config range (lists_at config state) i node h input f mark m.0 m.1 in
      subst (λ (y : NodeOutcome). Fit config (with_state state n y.state) (sent ++ y.outputs)) m.2
      (install_free config range state sent fit n within (Gathering m.0.node) (none_here (Gatherer i) e (λ s r c. absurd (cc))) m.0.outputs
      (subst (λ (y : Role). IsGoodNode config (lists_at config state) y (Gathering m.0.node)) (sym e) good.node) good.letters)
  step_as (Orderer i) e is at (Ordering node) x h input mark f made o =
      let m = of_role Ordering (orderer_outcome config i node input mark) made o in
      subst (λ (y : NodeOutcome). Fit config (with_state state n y.state) (sent ++ y.outputs)) m.2
      (install_free config range state sent fit n within (Ordering m.0.node) (none_here (Orderer i) e (λ s r c. absurd (cc))) m.0.outputs
      (subst (λ (y : Role). IsGoodNode config (lists_at config state) y (Ordering m.0.node)) (sym e)
      (orderer_after config range (lists_at config state) i is node h input f mark m.0 m.1))
      (orderer_letters config range (lists_at config state) i is node h input f mark m.0 m.1))
  step_as (Storage s r) e is at (Gathering node) x h input mark f made o = absurd h
  step_as (Storage s r) e is at (Ordering node) x h input mark f made o = absurd h
  step_as (Gatherer i) e is at (Storing node) x h input mark f made o = absurd h
  step_as (Gatherer i) e is at (Ordering node) x h input mark f made o = absurd h
  step_as (Orderer i) e is at (Storing node) x h input mark f made o = absurd h
  step_as (Orderer i) e is at (Gathering node) x h input mark f made o = absurd h

  -- a node takes an input of which all is so
  pub step : (input : Input) (mark : Mark) → IsGoodInput config (lists_at config state) (role_at config n) input → (made : NodeOutcome)
      → node_outcome config n (state n) input mark ≡ Some made → Fit config (with_state state n made.state) (sent ++ made.outputs)
  step input mark f made o =
      let role = role_at-is config n range within in
      step_as (role_at config n) refl role.0 role.1 (state n) refl (fit.nodes n within) input mark f made o
