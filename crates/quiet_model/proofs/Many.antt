-- Marks of orderers, and letters to all orderers and to all who learn.
use Rattle.std.proofs.Common.{◌≡◌, ◌+◌, ◌-◌, ◌/◌, ◌%◌, ◌<◌, ◌≤◌, ℕ, zero, suc, Bool, true, false, List, ◌++◌, length, sym, subst, inl, inr, ⊎_elim, arith, ◌∙◌}
use Rattle.std.specs.List.{AllByRecursion}
use Rattle.std.proofs.lemmas.Bool.{cases_eq}
use Rattle.std.proofs.lemmas.List.{get_or-set_other, get_or-set_same}
use Rattle.history_frame.specs.declared.events.Sent.{Sent}
use Rattle.message_frame.specs.declared.messages.Message.{Message}
use Rattle.node_table.specs.declared.role.Role.{Role}
use Rattle.node_table.specs.declared.role.Role.TheVariants.{Storage, Gatherer, Orderer}
use Rattle.node_table.specs.Numbering.{IsRole, node_of, orderer_node, storage_node}
use Rattle.node_table.proofs.Roles.{storage_node-lt}
use Rattle.paxos_model.specs.Majority.{is_marked, marked}
use Rattle.node_model.specs.Nodes.{before_orderers, letter, storage_nodes, to_learners, to_nodes, to_orderers}
use Rattle.node_model.proofs.Letters.{all_append, to_nodes_all}
use Rattle.quiet_model.proofs.Decision.{Decision, IsDecision, IsLearner, ToLearner, ToOrderer}
use Rattle.quiet_model.proofs.Follows.{as_role}
use Rattle.quiet_model.proofs.Moving.{replica_of}
use Rattle.quiet_model.proofs.Waiting.{Waits, waits_left, waits_right}

-- ---- marks

module _ (marks : List Bool) (j : ℕ) (h : j < length marks) where
  pub now_marked : is_marked (marked marks j) j ≡ true
  now_marked = get_or-set_same marks j true false h

  pub still_marked : (i : ℕ) → is_marked marks i ≡ true → is_marked (marked marks j) i ≡ true
  still_marked i e =
      ⊎_elim
      (λ same. subst (λ (n : ℕ). is_marked (marked marks j) n ≡ true) (sym same) now_marked)
      (λ differ. get_or-set_other marks j i true false differ ∙ e)
      (cases_eq i j)

-- ---- letters to many

module _ (d : Decision) where
  node_waits : (P : Sent → Type 0) (message : Message) (node first count : ℕ) → P (letter node message) → first ≤ node → node < first + count → Waits P (to_nodes first count message)
  node_waits P message node first zero h low high = absurd (omega arith)
  node_waits P message node first (suc count) h low high =
      ⊎_elim
      (λ e. inl (subst (λ (n : ℕ). P (letter n message)) (sym e) h))
      (λ differ. inr (node_waits P message node (suc first) count h (omega arith) (omega arith)))
      (cases_eq first node)

  pub to_each : (P : Sent → Type 0) (message : Message) (j : ℕ) → j < d.config.orderers → P (letter (orderer_node d.config j) message) → Waits P (to_orderers d.config message)
  unfolding to_orderers
  to_each P message j below h = node_waits P message (orderer_node d.config j) (before_orderers d.config) d.config.orderers h (omega arith) (omega arith)

  pub each_orderer : (P : Sent → Type 0) (message : Message) → ((node : ℕ) → ToOrderer d node → P (letter node message))
      → AllByRecursion P (to_orderers d.config message)
  unfolding to_orderers
  each_orderer P message h =
      to_nodes_all P message (before_orderers d.config) d.config.orderers
      (λ node low high. h node (record { index = node - before_orderers d.config; below = omega arith; at = omega arith }))

module _ (d : Decision) (can : IsDecision d) where
  -- a replica by its number
  storage_learner : (node : ℕ) → node < storage_nodes d.config → ToLearner d node
  storage_learner node h =
      let is = replica_of d.config can.range node h in
      record { role = as_role (node / d.config.replicas) (node % d.config.replicas); is = (is.0, is.1); learns = tt; at = sym is.2 }

  other_learner : (node : ℕ) → orderer_node d.config 1 ≤ node → node < orderer_node d.config 1 + (d.config.orderers - 1) → ToLearner d node
  other_learner node low high = record {
    role = Orderer (suc (node - orderer_node d.config 1));
    is = (let below : suc (node - orderer_node d.config 1) < d.config.orderers = omega arith in below);
    learns = tt;
    at = (let same : node ≡ orderer_node d.config (suc (node - orderer_node d.config 1)) = omega arith in same);
  }

  pub each_learner : (P : Sent → Type 0) (message : Message) → ((node : ℕ) → ToLearner d node → P (letter node message)) → AllByRecursion P (to_learners d.config 0 message)
  unfolding to_learners
  each_learner P message h =
      all_append P (to_nodes 0 (storage_nodes d.config) message ++ to_nodes (before_orderers d.config) 0 message) (to_nodes (orderer_node d.config 1) (d.config.orderers - 1) message)
      (all_append P (to_nodes 0 (storage_nodes d.config) message) (to_nodes (before_orderers d.config) 0 message)
      (to_nodes_all P message 0 (storage_nodes d.config) (λ node low high. h node (storage_learner node (omega arith))))
      tt)
      (to_nodes_all P message (orderer_node d.config 1) (d.config.orderers - 1) (λ node low high. h node (other_learner node low high)))

  pub to_each_learner : (P : Sent → Type 0) (message : Message) (role : Role) → IsRole d.config role → IsLearner role → P (letter (node_of d.config role) message)
      → Waits P (to_learners d.config 0 message)
  unfolding to_learners
  to_each_learner P message (Storage s r) is learns h =
      waits_left P (to_nodes 0 (storage_nodes d.config) message ++ to_nodes (before_orderers d.config) 0 message) (to_nodes (orderer_node d.config 1) (d.config.orderers - 1) message)
      (waits_left P (to_nodes 0 (storage_nodes d.config) message) (to_nodes (before_orderers d.config) 0 message)
      (node_waits d P message (storage_node d.config s.0 r.0) 0 (storage_nodes d.config) h (omega arith) (let below = storage_node-lt d.config s.0 r.0 is.0 is.1 in omega arith)))
  to_each_learner P message (Gatherer i) is learns h = absurd learns
  to_each_learner P message (Orderer zero) is learns h = absurd learns
  to_each_learner P message (Orderer (suc i)) is learns h =
      waits_right P (to_nodes 0 (storage_nodes d.config) message ++ to_nodes (before_orderers d.config) 0 message) (to_nodes (orderer_node d.config 1) (d.config.orderers - 1) message)
      (node_waits d P message (orderer_node d.config (suc i)) (orderer_node d.config 1) (d.config.orderers - 1) h (omega arith) (omega arith))
