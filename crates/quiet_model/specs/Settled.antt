-- What is so of every node at a settled moment: all replicas of a shard hold the same lists, all nodes know the same values, only
-- orderer 0 leads, no proposal waits, and no letter is under way.
use Rattle.std.specs.Prelude.{◌≡◌, ◌≢◌, ℕ, zero, suc, ◌+◌, ◌*◌, ◌%◌, ◌<◌, ◌≤◌, List, [], ◌++◌, length, true, Option, Some, None, slice_index, slice_index_or}
use Rattle.std.specs.List.{AllByRecursion}
use Rattle.aggregator.specs.Hearing.{Hearing}
use Rattle.log_base.specs.ClusterShape.{Shape}
use Rattle.log_model.specs.Lookup.{segment_index}
use Rattle.log_model.specs.Storage.{knowledge_of, list_in, report_of}
use Rattle.message_frame.specs.declared.messages.Vote.{Vote}
use Rattle.node_table.specs.declared.role.Role.{Role}
use Rattle.node_table.specs.declared.role.Role.TheVariants.{Storage, Gatherer, Orderer}
use Rattle.node_table.specs.Numbering.{IsRole, gatherer_of, node_of, orderer_node}
use Rattle.paxos_model.specs.Leader.{Leader, no_votes, slot_limit}
use Rattle.paxos_model.specs.Learner.{Wish}
use Rattle.paxos_model.specs.Majority.{most}
use Rattle.paxos_model.specs.Votes.{Payload, promised, votes, window_size}
use Rattle.record_frame.specs.declared.entries.Entry.{Entry}
use Rattle.record_frame.specs.declared.values.Lengths.{Lengths}
use Rattle.record_frame.specs.declared.values.Value.{Value}
use Rattle.node_model.specs.GathererRow.{GathererNode}
use Rattle.node_model.specs.Marks.{Mode, Running, Stopped}
use Rattle.node_model.specs.NodeState.{NodeState, Storing, Gathering, Ordering}
use Rattle.node_model.specs.OrdererNode.{Mode as OrdererMode, Node, Orderer as OrdererMemory}
use Rattle.node_model.specs.StorageNode.{Replica, StorageNode, member_of}
use Rattle.quiet_model.specs.Moments.{Moment}

-- the lists of the segments of each shard
abbrev pub ListsOf : Type 0
ListsOf = ℕ → List (List Entry)

abbrev pub list_at : ListsOf → ℕ → ℕ → List Entry
list_at lists shard segment = list_in (lists shard) segment

-- each shard has a list for each of its replicas
abbrev pub AreLists : Shape → ListsOf → Type 0
AreLists config lists = (shard : ℕ) → shard < config.shards → length (lists shard) ≡ config.replicas

-- A replica runs. It holds these lists and knows these values, and each peer acknowledged so many entries of its own list.
pub record IsReplica (config : Shape) (shard own : ℕ) (lists : List (List Entry)) (acked : ℕ) (values : List Value) (node : StorageNode) : Type 0 where
  pub memory : Replica
  pub runs : node.mode ≡ Running memory
  pub holds : node.durable ≡ lists
  pub knows : memory.known ≡ knowledge_of (member_of config shard own) values
  pub peers : length memory.copying.acked ≡ config.replicas
  pub acks : (peer : ℕ) → peer < config.replicas → peer ≢ own → slice_index memory.copying.acked peer ≡ acked

-- a replica said lengths, none of which is greater than that of the list
pub record IsHeard (replicas : ℕ) (lists : List (List Entry)) (said : Lengths) : Type 0 where
  pub count : said.count ≡ replicas
  pub cells : length said.length ≡ 32
  pub held : (segment : ℕ) → slice_index said.length segment ≤ length (list_in lists segment)

abbrev pub IsHeardOrNone : ℕ → List (List Entry) → Option Lengths → Type 0
IsHeardOrNone replicas lists None = Unit {0}
IsHeardOrNone replicas lists (Some said) = IsHeard replicas lists said

-- a gatherer runs, and what it heard is in the lists
pub record IsGatherer (config : Shape) (lists : ListsOf) (node : GathererNode) : Type 0 where
  pub hearing : Hearing
  pub runs : node.mode ≡ Running hearing
  pub replicas : hearing.replicas ≡ config.replicas
  pub cells : length hearing.cells ≡ 32
  pub heard : (shard replica : ℕ) → shard < config.shards → replica < config.replicas
      → IsHeardOrNone config.replicas (lists shard) (slice_index_or hearing.cells (shard * config.replicas + replica) None)

-- the lengths that an orderer heard of are in the lists
pub record IsHeardCut (config : Shape) (lists : ListsOf) (heard : Lengths) : Type 0 where
  pub count : heard.count ≡ config.shards * config.replicas
  pub cells : length heard.length ≡ 32
  pub held : (shard segment : ℕ) → shard < config.shards → segment < config.replicas
      → slice_index heard.length (segment_index config.replicas shard segment) ≤ length (list_at lists shard segment)
  pub rest : (place : ℕ) → config.shards * config.replicas ≤ place → slice_index heard.length place ≡ 0

-- what the orderers agree on: the ballot of the one leader and the decided values; and the wishes that wait for their decision
pub record Agreed : Type 0 where
  pub ballot : ℕ
  pub values : List Value
  pub wishes : List Wish

-- A leader that most have promised its ballot, with a window for the next slot. No vote was reported, and no proposal waits.
pub record IsLeader (config : Shape) (ballot known : ℕ) (leader : Leader) : Type 0 where
  pub owns : leader.ballot ≡ ballot
  pub owner : ballot % config.orderers ≡ 0
  pub answered : most config.orderers leader.answered ≡ true
  pub none_reported : leader.best ≡ no_votes
  pub none_pending : leader.pending ≡ None
  pub begun : leader.window ≤ known
  pub within : known < slot_limit → known < leader.window + window_size

-- only orderer 0 leads
abbrev pub LeadsAlone : Shape → ℕ → ℕ → ℕ → Option Leader → Type 0
LeadsAlone config ballot known zero None = ⊥
LeadsAlone config ballot known zero (Some leader) = IsLeader config ballot known leader
LeadsAlone config ballot known (suc i) None = Unit {0}
LeadsAlone config ballot known (suc i) (Some leader) = ⊥

-- a vote in the one ballot for a slot that is known
abbrev pub IsOldVote : ℕ → ℕ → Vote → Type 0
IsOldVote ballot known vote = (vote.ballot.0 ≡ ballot) × (vote.slot.0 < known)

-- an acceptor that promised the one ballot, and voted in it for slots below one alone
pub record IsAcceptor (ballot slots : ℕ) (list : List Payload) : Type 0 where
  pub promise : promised list ≡ ballot
  pub voted : AllByRecursion (IsOldVote ballot slots) (votes list)

-- the wishes wait at orderer 0
abbrev pub wishes_at : ℕ → List Wish → List Wish
wishes_at zero wishes = wishes
wishes_at (suc i) wishes = []

-- An orderer runs. It promised the one ballot and voted in it for known slots alone, and knows these values.
pub record IsOrderer (config : Shape) (agreed : Agreed) (index : ℕ) (lists : ListsOf) (node : Node) : Type 0 where
  pub orderer : OrdererMemory
  pub runs : node.mode ≡ Running orderer
  pub knows : orderer.known ≡ agreed.values
  pub wishes : orderer.wishes ≡ wishes_at index agreed.wishes
  pub heard : IsHeardCut config lists orderer.heard
  pub leads : LeadsAlone config agreed.ballot (length agreed.values) index orderer.leader
  pub cast : IsAcceptor agreed.ballot (length agreed.values) node.durable

-- A node of a role stands: a replica holds its lists and was acknowledged so much, and what was heard is in the lists.
abbrev pub Stands : Shape → Agreed → (ℕ → ℕ → List (List Entry)) → (ℕ → ℕ → ℕ) → ListsOf → Role → NodeState → Type 0
Stands config agreed held acked lists (Storage shard replica) (Storing node) =
    IsReplica config shard.0 replica.0 (held shard.0 replica.0) (acked shard.0 replica.0) agreed.values node
Stands config agreed held acked lists (Gatherer index) (Gathering node) = IsGatherer config lists node
Stands config agreed held acked lists (Orderer index) (Ordering node) = IsOrderer config agreed index lists node
Stands config agreed held acked lists _ _ = ⊥

-- each replica holds the lists of its shard, and all of its own list is acknowledged
abbrev pub lists_held : ListsOf → ℕ → ℕ → List (List Entry)
lists_held lists shard replica = lists shard

abbrev pub all_acked : ListsOf → ℕ → ℕ → ℕ
all_acked lists shard replica = length (list_at lists shard replica)

-- a settled moment, but for wishes that wait
pub record IsSettled (config : Shape) (agreed : Agreed) (lists : ListsOf) (moment : Moment) : Type 0 where
  pub sizes : AreLists config lists
  pub nodes : (role : Role) → IsRole config role → Stands config agreed (lists_held lists) (all_acked lists) lists role (moment.nodes (node_of config role))
  pub queue : moment.queue ≡ []

-- what a gatherer heard from a replica whose cell stands at a place
abbrev pub cell_by : {P K : Type 0} → Mode P K Hearing → ℕ → Option Lengths
cell_by (Stopped flight known) place = None
cell_by (Running hearing) place = slice_index_or hearing.cells place None

abbrev pub cell_in : NodeState → ℕ → Option Lengths
cell_in (Storing node) place = None
cell_in (Gathering node) place = cell_by node.mode place
cell_in (Ordering node) place = None

-- every gatherer has heard from each replica of its shards how much it holds
abbrev pub AreHeard : Shape → ListsOf → Moment → Type 0
AreHeard config lists moment = (shard replica : ℕ) → shard < config.shards → replica < config.replicas
    → cell_in (moment.nodes (gatherer_of config shard)) (shard * config.replicas + replica) ≡ Some (report_of (lists shard))

-- what an orderer heard of
abbrev pub heard_by : OrdererMode → Option Lengths
heard_by (Stopped flight known) = None
heard_by (Running orderer) = Some orderer.heard

abbrev pub heard_in : NodeState → Option Lengths
heard_in (Storing node) = None
heard_in (Gathering node) = None
heard_in (Ordering node) = heard_by node.mode

-- the lists of so many shards from one on, in order, and the lengths of all lists
abbrev pub lists_from : ListsOf → ℕ → ℕ → List (List Entry)
lists_from lists shard zero = []
lists_from lists shard (suc count) = lists shard ++ lists_from lists (suc shard) count

abbrev pub all_lengths : Shape → ListsOf → Lengths
all_lengths config lists = report_of (lists_from lists 0 config.shards)

-- every orderer has heard of the lengths of all lists
abbrev pub AreTold : Shape → ListsOf → Moment → Type 0
AreTold config lists moment = (i : ℕ) → i < config.orderers → heard_in (moment.nodes (orderer_node config i)) ≡ Some (all_lengths config lists)
