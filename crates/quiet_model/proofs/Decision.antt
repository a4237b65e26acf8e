-- A decision under way: what is so of each node and of each letter, and how far the decision has come.
use Rattle.std.proofs.Common.{◌≡◌, ◌≢◌, ◌⊎◌, ◌+◌, ◌%◌, ◌<◌, ◌≤◌, ℕ, zero, suc, Bool, true, false, List, [], ◌∷◌, ◌++◌, length, Option, Some, None}
use Rattle.std.specs.Prelude.{slice_index}
use Rattle.std.specs.List.{AllByRecursion}
use Rattle.history_frame.specs.declared.events.Sent.{Sent}
use Rattle.log_base.specs.ClusterShape.{InRange, Shape}
use Rattle.log_model.specs.Storage.{knowledge_of}
use Rattle.message_frame.specs.declared.messages.Message.{Message}
use Rattle.message_frame.specs.declared.messages.Message.TheVariants.{Prepare, Promised, Accept, Accepted, Decide, Want}
use Rattle.node_table.specs.declared.role.Role.{Role}
use Rattle.node_table.specs.declared.role.Role.TheVariants.{Storage, Gatherer, Orderer}
use Rattle.node_table.specs.Numbering.{IsRole, node_of, orderer_node}
use Rattle.paxos_model.specs.Leader.{Leader, Pending, no_votes, slot_limit}
use Rattle.paxos_model.specs.Majority.{is_marked, most}
use Rattle.paxos_model.specs.Votes.{window_size}
use Rattle.record_frame.specs.declared.values.Value.{Value}
use Rattle.node_model.specs.Marks.{Running, Stopped}
use Rattle.node_model.specs.NodeState.{NodeState, Storing, Gathering, Ordering}
use Rattle.node_model.specs.OrdererNode.{Mode as OrdererMode, Node, Orderer as OrdererMemory}
use Rattle.node_model.specs.StorageNode.{Replica, StorageMode, StorageNode, member_of}
use Rattle.quiet_model.specs.Deciding.{IsNextDecision}
use Rattle.quiet_model.specs.Moments.{Moment}
use Rattle.quiet_model.specs.Settled.{Agreed, IsAcceptor, IsGatherer, IsHeardCut, ListsOf, all_lengths, list_at}
use Rattle.quiet_model.proofs.Waiting.{Waits}

-- the cluster, what its orderers agree on before, the lists, and the value that is decided
pub record Decision : Type 0 where
  pub config : Shape
  pub agreed : Agreed
  pub lists : ListsOf
  pub value : Value

abbrev pub slot_of : Decision → ℕ
slot_of d = length d.agreed.values

abbrev pub values_of : Decision → List Value
values_of d = d.agreed.values ++ d.value ∷ []

-- ---- nodes

-- a replica that knows the values before or after
pub record IsLearning (d : Decision) (s r : ℕ) (node : StorageNode) : Type 0 where
  pub memory : Replica
  pub runs : node.mode ≡ Running memory
  pub holds : node.durable ≡ d.lists s
  pub knows : (memory.known ≡ knowledge_of (member_of d.config s r) d.agreed.values) ⊎ (memory.known ≡ knowledge_of (member_of d.config s r) (values_of d))
  pub peers : length memory.copying.acked ≡ d.config.replicas
  pub acks : (peer : ℕ) → peer < d.config.replicas → peer ≢ r → slice_index memory.copying.acked peer ≡ length (list_at d.lists s r)

-- an orderer that does not lead
pub record IsFollower (d : Decision) (o : OrdererMemory) : Type 0 where
  pub no_wish : o.wishes ≡ []
  pub heard : IsHeardCut d.config d.lists o.heard
  pub no_leader : o.leader ≡ None

abbrev pub IsFollowerAt : Decision → ℕ → OrdererMemory → Type 0
IsFollowerAt d zero o = Unit {0}
IsFollowerAt d (suc i) o = IsFollower d o

pub record IsVoter (d : Decision) (i : ℕ) (node : Node) : Type 0 where
  pub orderer : OrdererMemory
  pub runs : node.mode ≡ Running orderer
  pub cast : IsAcceptor d.agreed.ballot (suc (slot_of d)) node.durable
  pub knows : (orderer.known ≡ d.agreed.values) ⊎ (orderer.known ≡ values_of d)
  pub follows : IsFollowerAt d i orderer

abbrev pub IsVoting : Decision → Role → NodeState → Type 0
IsVoting d (Storage s r) (Storing node) = IsLearning d s.0 r.0 node
IsVoting d (Gatherer i) (Gathering node) = IsGatherer d.config d.lists node
IsVoting d (Orderer i) (Ordering node) = IsVoter d i node
IsVoting d _ _ = ⊥

-- the leader that proposed the value
pub record IsProposing (d : Decision) (o : OrdererMemory) : Type 0 where
  pub knows : o.known ≡ d.agreed.values
  pub wishes : o.wishes ≡ d.agreed.wishes
  pub told : o.heard ≡ all_lengths d.config d.lists
  pub heard : IsHeardCut d.config d.lists o.heard
  pub leader : Leader
  pub leads : o.leader ≡ Some leader
  pub owns : leader.ballot ≡ d.agreed.ballot
  pub answered : most d.config.orderers leader.answered ≡ true
  pub none_reported : leader.best ≡ no_votes
  pub begun : leader.window ≤ slot_of d
  pub within : slot_of d < leader.window + window_size
  pub pending : Pending
  pub waits : leader.pending ≡ Some pending
  pub slot : pending.slot ≡ slot_of d
  pub value : pending.value ≡ d.value
  pub marks : length pending.accepted ≡ 7
  pub few : most d.config.orderers pending.accepted ≡ false

-- the leader that decided it
pub record IsDone (d : Decision) (o : OrdererMemory) : Type 0 where
  pub knows : o.known ≡ values_of d
  pub no_wish : o.wishes ≡ []
  pub told : o.heard ≡ all_lengths d.config d.lists
  pub heard : IsHeardCut d.config d.lists o.heard
  pub leader : Leader
  pub leads : o.leader ≡ Some leader
  pub owns : leader.ballot ≡ d.agreed.ballot
  pub none_reported : leader.best ≡ no_votes
  pub none_pending : leader.pending ≡ None
  pub begun : leader.window ≤ suc (slot_of d)
  pub within : suc (slot_of d) < slot_limit → suc (slot_of d) < leader.window + window_size

-- what a node knows and remembers
abbrev pub known_by : StorageMode → ℕ
known_by (Stopped flight known) = 0
known_by (Running memory) = memory.known.count

abbrev pub memory_by : OrdererMode → Option OrdererMemory
memory_by (Stopped flight known) = None
memory_by (Running orderer) = Some orderer

abbrev pub memory_in : NodeState → Option OrdererMemory
memory_in (Storing node) = None
memory_in (Gathering node) = None
memory_in (Ordering node) = memory_by node.mode

abbrev pub known_of : Option OrdererMemory → ℕ
known_of None = 0
known_of (Some orderer) = length orderer.known

abbrev pub count_in : NodeState → ℕ
count_in (Storing node) = known_by node.mode
count_in (Gathering node) = 0
count_in (Ordering node) = known_of (memory_by node.mode)

-- ---- letters

-- those who are told what was decided
abbrev pub IsLearner : Role → Type 0
IsLearner (Storage s r) = Unit {0}
IsLearner (Gatherer i) = ⊥
IsLearner (Orderer zero) = ⊥
IsLearner (Orderer (suc i)) = Unit {0}

pub record ToLearner (d : Decision) (node : ℕ) : Type 0 where
  pub role : Role
  pub is : IsRole d.config role
  pub learns : IsLearner role
  pub at : node ≡ node_of d.config role

pub record ToOrderer (d : Decision) (node : ℕ) : Type 0 where
  pub index : ℕ
  pub below : index < d.config.orderers
  pub at : node ≡ orderer_node d.config index

abbrev pub IsVotingMessage : Decision → ℕ → Message → Type 0
IsVotingMessage d node (Accept ballot slot value) = ToOrderer d node × (ballot.0 ≡ d.agreed.ballot) × (slot.0 ≡ slot_of d) × (value ≡ d.value)
IsVotingMessage d node (Accepted ballot slot who) = (node ≡ orderer_node d.config 0) × (ballot.0 ≡ d.agreed.ballot) × (slot.0 ≡ slot_of d) × (who < d.config.orderers)
IsVotingMessage d node (Decide slot value) = ToLearner d node × (slot.0 ≡ slot_of d) × (value ≡ d.value)
IsVotingMessage d node (Want slot asker) = ToOrderer d node × ToLearner d asker.0 × (slot.0 ≡ slot_of d)
IsVotingMessage d node (Prepare ballot slot) = ToOrderer d node × (ballot.0 ≡ d.agreed.ballot) × (slot.0 ≡ suc (slot_of d))
IsVotingMessage d node (Promised ballot slot who votes) =
    (node ≡ orderer_node d.config 0) × (ballot.0 ≡ d.agreed.ballot) × (slot.0 ≡ suc (slot_of d)) × (who < d.config.orderers) × (votes ≡ [])
IsVotingMessage d node _ = ⊥

abbrev pub IsVotingLetter : Decision → Sent → Type 0
IsVotingLetter d sent = IsVotingMessage d sent.to.0 sent.message

abbrev pub AreVotingLetters : Decision → List Sent → Type 0
AreVotingLetters d letters = AllByRecursion (IsVotingLetter d) letters

abbrev pub IsAccept : Message → Type 0
IsAccept (Accept ballot slot value) = Unit {0}
IsAccept _ = ⊥

abbrev pub IsAcceptedBy : ℕ → Message → Type 0
IsAcceptedBy j (Accepted ballot slot who) = who ≡ j
IsAcceptedBy j _ = ⊥

abbrev pub IsDecide : Message → Type 0
IsDecide (Decide slot value) = Unit {0}
IsDecide _ = ⊥

abbrev pub IsPrepare : Message → Type 0
IsPrepare (Prepare ballot slot) = Unit {0}
IsPrepare _ = ⊥

abbrev pub IsPromisedBy : ℕ → Message → Type 0
IsPromisedBy j (Promised ballot slot who votes) = who ≡ j
IsPromisedBy j _ = ⊥

abbrev pub AcceptTo : Decision → ℕ → Sent → Type 0
AcceptTo d j x = (x.to.0 ≡ orderer_node d.config j) × IsAccept x.message

abbrev pub AcceptedFrom : ℕ → Sent → Type 0
AcceptedFrom j x = IsAcceptedBy j x.message

abbrev pub DecideTo : Decision → Role → Sent → Type 0
DecideTo d role x = (x.to.0 ≡ node_of d.config role) × IsDecide x.message

abbrev pub PrepareTo : Decision → ℕ → Sent → Type 0
PrepareTo d j x = (x.to.0 ≡ orderer_node d.config j) × IsPrepare x.message

abbrev pub PromisedFrom : ℕ → Sent → Type 0
PromisedFrom j x = IsPromisedBy j x.message

-- ---- how far the decision has come

-- an orderer's acceptance is marked, or it comes, or the proposal comes to it
pub data Counts (d : Decision) (queue : List Sent) (marks : List Bool) (j : ℕ) : Type 0 where
  Marked : is_marked marks j ≡ true → Counts d queue marks j
  Accepts_it : Waits (AcceptedFrom j) queue → Counts d queue marks j
  Is_asked : Waits (AcceptTo d j) queue → Counts d queue marks j

-- a learner knows the value, or it comes
pub data Learns (d : Decision) (nodes : ℕ → NodeState) (queue : List Sent) (role : Role) : Type 0 where
  Knows : count_in (nodes (node_of d.config role)) ≡ suc (slot_of d) → Learns d nodes queue role
  Is_told : Waits (DecideTo d role) queue → Learns d nodes queue role

-- an orderer's promise of the next window is marked, or it comes, or the request comes to it
pub data Renews (d : Decision) (queue : List Sent) (marks : List Bool) (j : ℕ) : Type 0 where
  Promised_it : is_marked marks j ≡ true → Renews d queue marks j
  Promises_it : Waits (PromisedFrom j) queue → Renews d queue marks j
  Is_prepared : Waits (PrepareTo d j) queue → Renews d queue marks j

-- the leader has its window, or asked for the next one
pub data IsReady (d : Decision) (queue : List Sent) (leader : Leader) : Type 0 where
  In_window : leader.window ≤ slot_of d → most d.config.orderers leader.answered ≡ true → IsReady d queue leader
  Renewing : leader.window ≡ suc (slot_of d) → length leader.answered ≡ 7
      → ((j : ℕ) → j < d.config.orderers → Renews d queue leader.answered j) → IsReady d queue leader

pub data Stage (d : Decision) (nodes : ℕ → NodeState) (queue : List Sent) (o : OrdererMemory) : Type 0 where
  Proposed : (p : IsProposing d o) → ((j : ℕ) → j < d.config.orderers → Counts d queue p.pending.accepted j) → Stage d nodes queue o
  Decided : (p : IsDone d o) → ((role : Role) → IsRole d.config role → IsLearner role → Learns d nodes queue role) → IsReady d queue p.leader → Stage d nodes queue o

pub record UnderVote (d : Decision) (moment : Moment) : Type 0 where
  pub nodes : (role : Role) → IsRole d.config role → IsVoting d role (moment.nodes (node_of d.config role))
  pub letters : AreVotingLetters d moment.queue
  pub orderer : OrdererMemory
  pub leads : memory_in (moment.nodes (orderer_node d.config 0)) ≡ Some orderer
  pub stage : Stage d moment.nodes moment.queue orderer

-- what holds while a decision is under way
pub record IsDecision (d : Decision) : Type 0 where
  pub range : InRange d.config
  pub owner : d.agreed.ballot % d.config.orderers ≡ 0
  pub some : 1 ≤ d.config.orderers
  pub next : IsNextDecision d.config d.agreed d.lists d.value
