-- What holds of all nodes and letters, said in the terms of the laws.
use Rattle.std.proofs.Common.{◌≡◌, ◌<◌, ◌≤◌, ℕ, List, length, ap, subst}
use Rattle.history_frame.specs.declared.events.Event.{Event}
use Rattle.log_base.specs.ClusterShape.{Shape}
use Rattle.log_model.specs.Chain.{covered_of}
use Rattle.log_model.specs.Storage.{HoldsCovered, list_in}
use Rattle.message_frame.specs.declared.messages.Message.{Message}
use Rattle.node_table.specs.declared.role.Role.{Role}
use Rattle.node_table.specs.declared.role.Role.TheVariants.{Gatherer, Orderer}
use Rattle.node_table.specs.Numbering.{IsRole, node_of, role_at, storage_node}
use Rattle.node_table.proofs.Roles.{node_of-lt, role_at-node_of}
use Rattle.record_frame.specs.declared.entries.Entry.{Entry}
use Rattle.node_model.specs.Histories.{sent_in}
use Rattle.node_model.specs.Legal.{IsLegal}
use Rattle.node_model.specs.Marks.{Running, Stopped, known_in}
use Rattle.node_model.specs.Messages.{accept_message, copied_message, copy_message, decide_message, least_message, promised_message, report_message}
use Rattle.node_model.specs.Nodes.{letter}
use Rattle.node_model.specs.NodeState.{Gathering, KeptLists, NodeState, Ordering, Storing, node_after}
use Rattle.node_model.specs.Sequence.{lists_of}
use Rattle.node_model.specs.StorageNode.{Replica, StorageMode, StorageNode, member_of}
use Rattle.node_model.specs.StorageRow.{storage_role}
use Rattle.safety_law.specs.Fit.{Fit, IsGoodNode, IsKnowing, IsReplica, IsReplicaMode, IsReplicaNode}
use Rattle.safety_law.specs.Letters.{IsGoodMessage, IsTrue}
use Rattle.safety_law.specs.Lists.{Lists}
use Rattle.safety_law.specs.Statements.{CopiesAgree, CutsAreHeld, IsSentTo, LengthsAreHeld, LettersAreSpelled, LettersFit, ReplicasHold, lists_after}
use Rattle.safety_law.proofs.Fitting.{letter_fits}
use Rattle.safety_law.proofs.History.{history_fits}
use Rattle.safety_law.proofs.StorageSends.{as_role}

known_covers : (config : Shape) (lists : Lists) (s r : ℕ) (m : StorageMode) → IsReplicaMode config lists s r m → IsKnowing config lists s r (known_in (storage_role config (member_of config s r)) m)
known_covers config lists s r (Stopped flight known) h = h.1
known_covers config lists s r (Running memory) h = h.knows

module _ (config : Shape) (run : ℕ) (kept : KeptLists) (events : List Event) (legal : IsLegal config run kept events) where
  abbrev state : ℕ → NodeState
  state = node_after config kept events

  all : Fit config (node_after config kept events) (sent_in events)
  all = history_fits config run kept events legal

  -- a message to a node of a role, and a node of a role
  sent_to : (role : Role) → IsRole config role → (m : Message) → IsSentTo events (node_of config role) m → IsGoodMessage config (lists_after config kept events) role m
  sent_to role is m a = subst (λ (x : Role). IsGoodMessage config (lists_after config kept events) x m) (role_at-node_of config role is) (all.letters (letter (node_of config role) m) a).good

  node_is : (role : Role) → IsRole config role → (x : NodeState) → state (node_of config role) ≡ x → IsGoodNode config (lists_after config kept events) role x
  node_is role is x e =
      subst (λ (y : NodeState). IsGoodNode config (lists_after config kept events) role y) e
      (subst (λ (y : Role). IsGoodNode config (lists_after config kept events) y (state (node_of config role))) (role_at-node_of config role is)
      (all.nodes (node_of config role) (node_of-lt config role is)))

  -- what a message says, whoever it is for
  truth_of : (node : ℕ) (m : Message) → IsSentTo events node m → IsTrue config (lists_after config kept events) (role_at config node) m
  truth_of node m a = (all.letters (letter node m) a).good.truth

  pub copies_agree : CopiesAgree config kept events
  copies_agree = record {
    prefix = λ s r j inside. (all.copies s r j inside).prefix;
    stands = λ s r segment offset entry a b sent. (sent_to (as_role s r) (a, b) (copy_message segment offset entry) sent).truth.1;
  }

  replica_is : (s r : ℕ) (node : StorageNode) → s < config.shards → r < config.replicas → state (storage_node config s r) ≡ Storing node → IsReplicaNode config (lists_after config kept events) s r node
  replica_is s r node a b e = node_is (as_role s r) (a, b) (Storing node) e

  running : (s r : ℕ) (node : StorageNode) (memory : Replica) → s < config.shards → r < config.replicas → state (storage_node config s r) ≡ Storing node → node.mode ≡ Running memory
      → IsReplica config (lists_after config kept events) s r memory
  running s r node memory a b e m = subst (IsReplicaMode config (lists_after config kept events) s r) m (replica_is s r node a b e).mode

  pub lengths_are_held : LengthsAreHeld config kept events
  lengths_are_held = record {
    reported = λ node s r lengths sent. truth_of node (report_message s r lengths) sent;
    acknowledged = λ s primary peer held a b sent. (sent_to (as_role s primary) (a, b) (copied_message peer held) sent).truth.1;
    acked = λ s r node memory a b e m peer inside other. (running s r node memory a b e m).acked peer inside other;
    noted = λ index node hearing inside e m s r a b said cell. ((node_is (Gatherer index) inside (Gathering node) e hearing m).heard s r a b said cell).held;
  }

  pub cuts_are_held : CutsAreHeld config kept events
  cuts_are_held = record {
    leasts = λ node s lengths sent. truth_of node (least_message s lengths) sent;
    accepts = λ node b k v sent. truth_of node (accept_message b k v) sent;
    decides = λ node k v sent. truth_of node (decide_message k v) sent;
    promises = λ node b k who vs sent. truth_of node (promised_message b k who vs) sent;
    orderers = λ i node inside e. (node_is (Orderer i) inside (Ordering node) e).values;
  }

  -- what a replica knows covers no more than its own lists
  covers : (s r : ℕ) (node : StorageNode) → s < config.shards → r < config.replicas → state (storage_node config s r) ≡ Storing node
      → HoldsCovered (member_of config s r) node.durable (known_in (storage_role config (member_of config s r)) node.mode)
  covers s r node a b e j below =
      let knows = known_covers config (lists_after config kept events) s r node.mode (replica_is s r node a b e).mode in
      subst (λ (l : List Entry). covered_of (known_in (storage_role config (member_of config s r)) node.mode).chain s j ≤ length l)
      (ap (λ (y : NodeState). list_in (lists_of y) j) e) (knows.covered j below)

  pub replicas_hold : ReplicasHold config kept events
  replicas_hold = record {
    covered = covers;
    in_flight = λ s r node put known a b e m. (subst (IsReplicaMode config (lists_after config kept events) s r) m (replica_is s r node a b e).mode).0;
  }

  pub letters_are_spelled : LettersAreSpelled config events
  letters_are_spelled node m sent = let good = (all.letters (letter node m) sent).good in (good.range, good.of_config)

  pub letters_fit : LettersFit config kept events
  letters_fit node place index m sent = letter_fits config legal.config_in_range (node_after config kept events) (sent_in events) all (letter node m) sent place index
