-- An event at a node keeps all: the node is replaced, and its letters are added.
use Rattle.std.proofs.Common.{◌≡◌, ◌<◌, ℕ, true, ◌==◌, List, [], ◌∷◌, ◌++◌, refl, sym, ap, subst, inl, inr, ⊎_elim, arith, eqb-true, eq-eqb, ◌∙◌}
use Rattle.std.proofs.lemmas.Bool.{cases_eq, cond_both, cond-false, cond-true, ne_eqb}
use Rattle.history_frame.specs.declared.events.Sent.{Sent}
use Rattle.log_base.specs.ClusterShape.{InRange, Shape}
use Rattle.log_model.specs.Storage.{list_in, with_entry}
use Rattle.node_table.specs.declared.role.Role.{Role}
use Rattle.node_table.specs.declared.role.Role.TheVariants.{Storage, Gatherer, Orderer}
use Rattle.node_table.specs.Numbering.{IsRole, node_of, nodes_of, role_at, storage_node}
use Rattle.node_table.proofs.Roles.{role_at-is}
use Rattle.record_frame.specs.declared.entries.Entry.{Entry}
use Rattle.node_model.specs.NodeState.{NodeState, Storing, Gathering, Ordering}
use Rattle.node_model.specs.Sequence.{lists_of}
use Rattle.node_model.specs.StorageNode.{Put, StorageNode, StorageOutcome}
use Rattle.agreement_law.proofs.Elements.{in_append}
use Rattle.safety_law.specs.Fit.{Fit, IsGoodNode, IsReplicaNode}
use Rattle.safety_law.specs.Letters.{AreGoodLetters, IsGoodLetter}
use Rattle.safety_law.specs.Lists.{AreCopies, Grow, IsSegment, Lists, lists_at}
use Rattle.safety_law.proofs.Copies.{OnePut, put_grow, puts_copies, same_copies, same_grow}
use Rattle.safety_law.proofs.GathererRows.{same_cell}
use Rattle.safety_law.proofs.Grows.{gatherer_grows, message_grows, orderer_grows, replica_node_grows}
use Rattle.safety_law.specs.Events.{with_state}
use Rattle.safety_law.proofs.ReplicaStep.{Puts, ReplicaMade, Same, Stores, list_here, list_set, stores_size}
use Rattle.safety_law.proofs.StorageSends.{IsAt, as_role}

module _ (config : Shape) (range : InRange config) (state : ℕ → NodeState) (sent : List Sent) (fit : Fit config state sent) (n : ℕ) (within : n < nodes_of config) where
  abbrev before : Lists
  before = lists_at config state

  abbrev after : NodeState → Lists
  after new = lists_at config (with_state state n new)

  other_lists : (new : NodeState) (s r j : ℕ) → (storage_node config s r ≡ n → ⊥) → after new s r j ≡ before s r j
  other_lists new s r j other =
      ap (λ (x : NodeState). list_in (lists_of x) j) (cond-false (storage_node config s r == n) new (state (storage_node config s r)) (ne_eqb (storage_node config s r) n other))

  here_lists : (new : NodeState) (s r j : ℕ) → storage_node config s r ≡ n → after new s r j ≡ list_in (lists_of new) j
  here_lists new s r j same =
      ap (λ (x : NodeState). list_in (lists_of x) j) (cond-true (storage_node config s r == n) new (state (storage_node config s r)) (eq-eqb (storage_node config s r) n same))

  here_before : (s r j : ℕ) → storage_node config s r ≡ n → before s r j ≡ list_in (lists_of (state n)) j
  here_before s r j same = ap (λ (k : ℕ). list_in (lists_of (state k)) j) same

  -- other nodes stay good
  module _ (new : NodeState) (grow : Grow config (lists_at config state) (lists_at config (with_state state n new))) where
    others : (m : ℕ) → (m ≡ n → ⊥) → (role : Role) → IsRole config role → node_of config role ≡ m → (x : NodeState) → IsGoodNode config before role x → IsGoodNode config (after new) role x
    others m other (Storage s r) is at (Storing node) h =
        replica_node_grows config before (after new) grow s.0 r.0 is.0 is.1 (λ j. other_lists new s.0 r.0 j (λ e. other (sym at ∙ e))) node h
    others m other (Gatherer i) is at (Gathering node) h = gatherer_grows config before (after new) grow node h
    others m other (Orderer i) is at (Ordering node) h = orderer_grows config before (after new) grow node h
    others m other (Storage s r) is at (Gathering node) h = absurd h
    others m other (Storage s r) is at (Ordering node) h = absurd h
    others m other (Gatherer i) is at (Storing node) h = absurd h
    others m other (Gatherer i) is at (Ordering node) h = absurd h
    others m other (Orderer i) is at (Storing node) h = absurd h
    others m other (Orderer i) is at (Gathering node) h = absurd h

    letter_stays : (s : Sent) → IsGoodLetter config before s → IsGoodLetter config (after new) s
    letter_stays s h = record {
      within = h.within;
      good = message_grows config before (after new) grow (role_at config s.to.0) (role_at-is config s.to.0 range h.within).0 s.message h.good;
    }

    -- the one place where all nodes are spoken of
    pub install : (outs : List Sent) → AreCopies config (lists_at config (with_state state n new)) → IsGoodNode config (lists_at config (with_state state n new)) (role_at config n) new
        → AreGoodLetters config (lists_at config (with_state state n new)) outs → Fit config (with_state state n new) (sent ++ outs)
    install outs copies good letters = record {
      copies = copies;
      nodes = λ m inside. cond_both (m == n) new (state m) (IsGoodNode config (after new) (role_at config m))
          (λ e. subst (λ (k : ℕ). IsGoodNode config (after new) (role_at config k) new) (sym (eqb-true m n e)) good)
          (λ e. let role = role_at-is config m range inside in
          others m (λ same. absurd (let yes : (m == n) ≡ true = eq-eqb m n same in cc)) (role_at config m) role.0 role.1 (state m) (fit.nodes m inside));
      letters = λ s a. ⊎_elim (λ b. letter_stays s (fit.letters s b)) (λ b. letters s b) (in_append s sent outs a);
    }

  -- a node without lists of entries
  module _ (new : NodeState) (none : (s r : ℕ) → s < config.shards → r < config.replicas → storage_node config s r ≡ n → ⊥) where
    no_change : (s r j : ℕ) → IsSegment config s r j → after new s r j ≡ before s r j
    no_change s r j inside = other_lists new s r j (none s r inside.shard_below inside.replica_below)

    pub install_free : (outs : List Sent) → IsGoodNode config (lists_at config state) (role_at config n) new → AreGoodLetters config (lists_at config state) outs
        → Fit config (with_state state n new) (sent ++ outs)
    install_free outs good letters =
        install new grow outs (same_copies config before (after new) fit.copies no_change)
        (moved (role_at config n) refl new good)
        (λ s a. letter_stays new grow s (letters s a))
      where
        grow : Grow config (lists_at config state) (lists_at config (with_state state n new))
        grow = same_grow config before (after new) fit.copies no_change

        moved : (role : Role) → role_at config n ≡ role → (x : NodeState) → IsGoodNode config before role x → IsGoodNode config (after new) role x
        moved (Storage s r) e x h =
            let role = role_at-is config n range within in
            let is = subst (λ (y : Role). IsRole config y × (node_of config y ≡ n)) e role in
            absurd (none s.0 r.0 is.0.0 is.0.1 is.1)
        moved (Gatherer i) e (Gathering node) h = gatherer_grows config before (after new) grow node h
        moved (Orderer i) e (Ordering node) h = orderer_grows config before (after new) grow node h
        moved (Gatherer i) e (Storing node) h = absurd h
        moved (Gatherer i) e (Ordering node) h = absurd h
        moved (Orderer i) e (Storing node) h = absurd h
        moved (Orderer i) e (Gathering node) h = absurd h

  -- a replica
  module _ (s r : ℕ) (a : s < config.shards) (b : r < config.replicas) (at : storage_node config s r ≡ n) (node : StorageNode) (is : state n ≡ Storing node)
      (good : IsReplicaNode config (lists_at config state) s r node) where
    old_here : (j : ℕ) → before s r j ≡ list_in node.durable j
    old_here j = here_before s r j at ∙ ap (λ (x : NodeState). list_in (lists_of x) j) is

    only_here : (t q : ℕ) → q < config.replicas → storage_node config t q ≡ n → (t ≡ s) × (q ≡ r)
    only_here t q c e = same_cell config.replicas t q s r c b (e ∙ sym at)

    one_put : (made : StorageNode) (put : Put) → put.segment < config.replicas → made.durable ≡ with_entry node.durable put.segment put.entry → OnePut config before (after (Storing made)) s r put
    one_put made put inside e = record {
      changed = here_lists (Storing made) s r put.segment at
          ∙ ap (λ (l : List (List Entry)). list_in l put.segment) e
          ∙ list_here node.durable put.segment (list_in node.durable put.segment ++ put.entry ∷ []) (omega (arith, good.size, inside))
          ∙ ap (λ (l : List Entry). l ++ put.entry ∷ []) (sym (old_here put.segment));
      others = λ t q j c. ⊎_elim
          (λ same. let cell = only_here t q c.replica_below same in
          ⊎_elim
          (λ stays. inl (here_lists (Storing made) t q j same ∙ ap (λ (l : List (List Entry)). list_in l j) e ∙ stays
          ∙ sym (here_before t q j same ∙ ap (λ (x : NodeState). list_in (lists_of x) j) is)))
          (λ changed. inr (cell.0, cell.1, changed))
          (list_set node.durable put.segment (list_in node.durable put.segment ++ put.entry ∷ []) j))
          (λ other. inl (other_lists (Storing made) t q j other))
          (cases_eq (storage_node config t q) n);
    }

    same_lists : (made : StorageNode) → made.durable ≡ node.durable → (t q j : ℕ) → IsSegment config t q j → after (Storing made) t q j ≡ before t q j
    same_lists made e t q j c = ⊎_elim
        (λ same. here_lists (Storing made) t q j same ∙ ap (λ (l : List (List Entry)). list_in l j) e
        ∙ sym (here_before t q j same ∙ ap (λ (x : NodeState). list_in (lists_of x) j) is))
        (λ other. other_lists (Storing made) t q j other)
        (cases_eq (storage_node config t q) n)

    stored : (made : StorageNode) → Stores config (lists_at config state) s r node.durable made.durable
        → Grow config (lists_at config state) (lists_at config (with_state state n (Storing made))) × AreCopies config (lists_at config (with_state state n (Storing made)))
    stored made (Same e) = (
      same_grow config before (after (Storing made)) fit.copies (same_lists made e),
      same_copies config before (after (Storing made)) fit.copies (same_lists made e),
    )
    stored made (Puts put can e) = (
      put_grow config before (after (Storing made)) fit.copies s r put a b can (one_put made put can.segment e),
      puts_copies config before (after (Storing made)) fit.copies s r put a b can (one_put made put can.segment e),
    )

    at_before : IsAt config before s r node.durable
    at_before = record { shard = a; replica = b; here = old_here; size = good.size }

    pub replica_step : role_at config n ≡ as_role s r → (made : StorageOutcome) → ReplicaMade config (lists_at config state) s r node made
        → Fit config (with_state state n (Storing made.node)) (sent ++ made.outputs)
    replica_step role made m =
        let lists = stored made.node m.stores in
        let size = stores_size config before s r node.durable made.node.durable m.stores ∙ good.size in
        let now : IsAt config (after (Storing made.node)) s r made.node.durable =
        record { shard = a; replica = b; here = λ j. here_lists (Storing made.node) s r j at; size = size } in
        let both = m.then (after (Storing made.node)) lists.1 lists.0 now in
        install (Storing made.node) lists.0 made.outputs lists.1
        (subst (λ (x : Role). IsGoodNode config (after (Storing made.node)) x (Storing made.node)) (sym role) (record { size = size; mode = both.0 }))
        both.1
