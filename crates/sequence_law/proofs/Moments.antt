-- Histories event by event, and what an event makes of a replica.
use Rattle.std.proofs.Common.{◌≡◌, ◌<◌, ℕ, List, [], ◌∷◌, ◌++◌, Option, Some, None, refl, sym, ap, subst, ⊎_elim, append_assoc, append-nil, ◌∙◌}
use Rattle.std.proofs.lemmas.Bool.{cases_eq}
use Rattle.std.proofs.lemmas.Option.{none-some, same_Some}
use Rattle.history_frame.specs.declared.events.Event.{Event}
use Rattle.log_base.specs.ClusterShape.{Shape}
use Rattle.log_model.specs.Storage.{list_in}
use Rattle.node_table.specs.declared.role.Role.{Role}
use Rattle.node_table.specs.Numbering.{role_at, storage_node}
use Rattle.node_table.proofs.Roles.{node_of-lt, role_at-node_of}
use Rattle.node_model.specs.Histories.{sent_in}
use Rattle.node_model.specs.Legal.{AreNext, IsLegal, IsNext}
use Rattle.node_model.specs.Marks.{NodeOf, OutcomeOf}
use Rattle.node_model.specs.NodeState.{Gathering, KeptLists, NodeOutcome, NodeState, Ordering, Storing, as_outcome, node_after, outcome_as, state_or}
use Rattle.node_model.specs.Sequence.{lists_of}
use Rattle.node_model.specs.StorageNode.{StorageNode, StorageOutcome, member_of}
use Rattle.node_model.specs.StorageRow.{outcome as storage_outcome, storage_role}
use Rattle.node_model.specs.Turning.{Turned}
use Rattle.node_model.proofs.Following.{front, grown, next_at, node_here, node_there}
use Rattle.node_model.proofs.Turning.{turned}
use Rattle.safety_law.specs.Fit.{Fit, IsGoodNode, IsReplicaNode}
use Rattle.safety_law.specs.Statements.{lists_after}
use Rattle.safety_law.proofs.History.{history_fits}
use Rattle.safety_law.proofs.StorageSends.{as_role}
use Rattle.sequence_law.specs.Answers.{IsAfter}

module _ (config : Shape) (run : ℕ) (kept : KeptLists) where
  pub legal_part : (before more events : List Event) → before ++ more ≡ events → IsLegal config run kept events → IsLegal config run kept before
  legal_part before more events is h = record {
    config_in_range = h.config_in_range;
    sound = h.sound;
    follow = front config run kept [] before more (subst (AreNext config run kept []) (sym is) h.follow);
  }

  pub next_of : (before events : List Event) (e : Event) → IsAfter events before e → IsLegal config run kept events → IsNext config run kept before e
  next_of before events e after h = next_at config run kept [] before e after.more (subst (AreNext config run kept []) (sym after.parts) h.follow)

  pub legal_after : (before events : List Event) (e : Event) → IsAfter events before e → IsLegal config run kept events → IsLegal config run kept before
  legal_after before events e after h = legal_part before (e ∷ after.more) events after.parts h

  pub legal_push : (before : List Event) (e : Event) → IsLegal config run kept before → IsNext config run kept before e → IsLegal config run kept (before ++ e ∷ [])
  legal_push before e h next = record { config_in_range = h.config_in_range; sound = h.sound; follow = grown config run kept [] before e h.follow next }

  pub rest_next : (before more : List Event) (xs : List Event) → AreNext config run kept xs (before ++ more) → AreNext config run kept (xs ++ before) more
  rest_next [] more xs h = subst (λ (b : List Event). AreNext config run kept b more) (sym (append-nil xs)) h
  rest_next (x ∷ before) more xs h =
      subst (λ (b : List Event). AreNext config run kept b more) (append_assoc xs (x ∷ []) before) (rest_next before more (xs ++ x ∷ []) h.1)

  -- from one moment to a later one
  module _ (P : List Event → Type 0) (step : (before : List Event) (e : Event) → IsLegal config run kept before → IsNext config run kept before e → P before → P (before ++ e ∷ [])) where
    pub onward : (before es : List Event) → IsLegal config run kept before → AreNext config run kept before es → P before → P (before ++ es)
    onward before [] h next p = subst P (sym (append-nil before)) p
    onward before (e ∷ es) h next p =
        subst P (append_assoc before (e ∷ []) es) (onward (before ++ e ∷ []) es (legal_push before e h next.0) next.1 (step before e h next.0 p))

    pub along : (events : List Event) → IsLegal config run kept events → P [] → P events
    along events h p = onward [] events (record { config_in_range = h.config_in_range; sound = h.sound; follow = tt }) h.follow p

  fits : (events : List Event) → IsLegal config run kept events → Fit config (node_after config kept events) (sent_in events)
  fits events h = history_fits config run kept events h

  -- a replica, as it is after a history
  pub record IsStoring (events : List Event) (s r : ℕ) : Type 0 where
    pub node : StorageNode
    pub state : node_after config kept events (storage_node config s r) ≡ Storing node
    pub good : IsReplicaNode config (lists_after config kept events) s r node

  storing_as : (events : List Event) (s r : ℕ) (x : NodeState) → node_after config kept events (storage_node config s r) ≡ x
      → IsGoodNode config (lists_after config kept events) (as_role s r) x → IsStoring events s r
  storing_as events s r (Storing node) e h = record { node = node; state = e; good = h }
  storing_as events s r (Gathering node) e h = absurd h
  storing_as events s r (Ordering node) e h = absurd h

  pub storing : (events : List Event) (s r : ℕ) → IsLegal config run kept events → s < config.shards → r < config.replicas → IsStoring events s r
  storing events s r h a b =
      storing_as events s r (node_after config kept events (storage_node config s r)) refl
      (subst (λ (role : Role). IsGoodNode config (lists_after config kept events) role (node_after config kept events (storage_node config s r))) (role_at-node_of config (as_role s r) (a, b))
      ((fits events h).nodes (storage_node config s r) (node_of-lt config (as_role s r) (a, b))))

  -- the lists of a replica
  pub list_is : (events : List Event) (s r j : ℕ) (node : StorageNode) → node_after config kept events (storage_node config s r) ≡ Storing node
      → lists_after config kept events s r j ≡ list_in node.durable j
  list_is events s r j node e = ap (λ (x : NodeState). list_in (lists_of x) j) e

  -- an event elsewhere leaves a replica as it was; one at the replica turns out in one of the ways
  pub data ReplicaTurns (before : List Event) (e : Event) (s r : ℕ) (node : StorageNode) : Type 0 where
    Stayed : node_after config kept (before ++ e ∷ []) (storage_node config s r) ≡ Storing node → ReplicaTurns before e s r node
    Took : (made : StorageOutcome) → e.node.0 ≡ storage_node config s r → Turned (storage_role config (member_of config s r)) node e.happened.input e.happened.mark made
        → node_after config kept (before ++ e ∷ []) (storage_node config s r) ≡ Storing made.node
        → e.happened.outputs ≡ made.outputs → e.happened.reply ≡ made.reply → ReplicaTurns before e s r node

  -- an outcome is that of the role
  pub of_role : {D P K M : Type 0} (f : NodeOf D P K M → NodeState) (o : Option (OutcomeOf D P K M)) (made : NodeOutcome) → as_outcome f o ≡ Some made
      → (m : OutcomeOf D P K M) × (o ≡ Some m) × ((let as_made : NodeOutcome = record { state = f m.node; outputs = m.outputs; reply = m.reply } in as_made) ≡ made)
  of_role f None made e = absurd (none-some made e)
  of_role f (Some m) made e = (m, refl, same_Some _ made e)

  turned_as : (s r : ℕ) (node : StorageNode) (e : Event) (made : StorageOutcome) → storage_outcome config (member_of config s r) node e.happened.input e.happened.mark ≡ Some made
      → Turned (storage_role config (member_of config s r)) node e.happened.input e.happened.mark made
  unfolding storage_outcome
  turned_as s r node e made o = turned (storage_role config (member_of config s r)) node e.happened.input e.happened.mark made o

  -- what an event at a replica makes
  pub record IsTaken (before : List Event) (e : Event) (s r : ℕ) (node : StorageNode) : Type 0 where
    pub made : StorageOutcome
    pub turned_out : Turned (storage_role config (member_of config s r)) node e.happened.input e.happened.mark made
    pub after : node_after config kept (before ++ e ∷ []) (storage_node config s r) ≡ Storing made.node
    pub outputs : e.happened.outputs ≡ made.outputs
    pub reply : e.happened.reply ≡ made.reply

  pub taken : (before : List Event) (e : Event) (s r : ℕ) (node : StorageNode) → IsNext config run kept before e → s < config.shards → r < config.replicas
      → node_after config kept before (storage_node config s r) ≡ Storing node → e.node.0 ≡ storage_node config s r → IsTaken before e s r node
  taken before e s r node next a b state here = record {
    made = m.0;
    turned_out = turned_as s r node e m.0 m.1;
    after = then;
    outputs = next.row.outputs ∙ ap (λ (y : NodeOutcome). y.outputs) (sym m.2);
    reply = next.row.reply ∙ ap (λ (y : NodeOutcome). y.reply) (sym m.2);
  }
    where
      role : role_at config e.node.0 ≡ as_role s r
      role = ap (role_at config) here ∙ role_at-node_of config (as_role s r) (a, b)

      old : node_after config kept before e.node.0 ≡ Storing node
      old = ap (node_after config kept before) here ∙ state

      rule : as_outcome Storing (storage_outcome config (member_of config s r) node e.happened.input e.happened.mark) ≡ Some next.row.made
      rule = subst (λ (x : Role × NodeState). outcome_as config x.0 x.1 e.happened.input e.happened.mark ≡ Some next.row.made) (λ i. (role i, old i)) next.row.rule

      m : (m : StorageOutcome) × (storage_outcome config (member_of config s r) node e.happened.input e.happened.mark ≡ Some m)
          × ((let as_made : NodeOutcome = record { state = Storing m.node; outputs = m.outputs; reply = m.reply } in as_made) ≡ next.row.made)
      m = of_role Storing (storage_outcome config (member_of config s r) node e.happened.input e.happened.mark) next.row.made rule

      then : node_after config kept (before ++ e ∷ []) (storage_node config s r) ≡ Storing m.0.node
      then =
          ap (node_after config kept (before ++ e ∷ [])) (sym here)
          ∙ node_here config kept before e
          ∙ ap (state_or (node_after config kept before e.node.0)) next.row.rule
          ∙ ap (λ (y : NodeOutcome). y.state) (sym m.2)

  pub turns : (before : List Event) (e : Event) (s r : ℕ) (node : StorageNode) → IsNext config run kept before e → s < config.shards → r < config.replicas
      → node_after config kept before (storage_node config s r) ≡ Storing node → ReplicaTurns before e s r node
  turns before e s r node next a b state =
      ⊎_elim
      (λ here. let t = taken before e s r node next a b state here in Took t.made here t.turned_out t.after t.outputs t.reply)
      (λ other. Stayed (node_there config kept before e (storage_node config s r) other ∙ state))
      (cases_eq e.node.0 (storage_node config s r))
