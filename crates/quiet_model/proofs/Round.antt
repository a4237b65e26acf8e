-- A round of copying under way: what is so of each node and of each letter, and how far each segment has come at each replica.
use Rattle.std.proofs.Common.{◌≡◌, ◌≢◌, ◌⊎◌, ◌+◌, ◌*◌, ◌<◌, ◌≤◌, ℕ, List, [], ◌∷◌, ◌++◌, length, Option, Some, None}
use Rattle.std.specs.Prelude.{slice_index}
use Rattle.std.specs.List.{AllByRecursion}
use Rattle.history_frame.specs.declared.events.Sent.{Sent}
use Rattle.log_base.specs.ClusterShape.{Shape}
use Rattle.log_model.specs.Storage.{knowledge_of, list_in}
use Rattle.message_frame.specs.declared.messages.Message.{Message}
use Rattle.message_frame.specs.declared.messages.Message.TheVariants.{Copy, CopyAck, Report, Want}
use Rattle.node_table.specs.declared.role.Role.{Role}
use Rattle.node_table.specs.declared.role.Role.TheVariants.{Storage, Gatherer, Orderer}
use Rattle.node_table.specs.Numbering.{IsRole, gatherer_of, node_of, orderer_node, storage_node}
use Rattle.record_frame.specs.declared.entries.Entry.{Entry}
use Rattle.record_frame.specs.declared.values.Lengths.{Lengths}
use Rattle.node_model.specs.Marks.{Running, Stopped}
use Rattle.node_model.specs.NodeState.{NodeState, Storing, Gathering, Ordering}
use Rattle.node_model.specs.Sequence.{lists_of}
use Rattle.node_model.specs.StorageNode.{Replica, StorageMode, StorageNode, member_of}
use Rattle.quiet_model.specs.Ahead.{AreAsOrMore}
use Rattle.quiet_model.specs.Moments.{Moment}
use Rattle.quiet_model.specs.Settled.{Agreed, AreLists, IsGatherer, IsHeard, IsOrderer, ListsOf, cell_in, list_at}
use Rattle.quiet_model.proofs.Waiting.{Waits}

-- the cluster, what its orderers agree on, and the lists before and after the round
pub record Round : Type 0 where
  pub config : Shape
  pub agreed : Agreed
  pub from : ListsOf
  pub to : ListsOf

-- the length that a segment comes to
abbrev pub goal_of : Round → ℕ → ℕ → ℕ
goal_of round s p = length (list_at round.to s p)

-- ---- nodes

-- a replica that has each segment as before or as after, and so each acknowledged length
pub record IsCatchingUp (round : Round) (s r : ℕ) (node : StorageNode) : Type 0 where
  pub memory : Replica
  pub runs : node.mode ≡ Running memory
  pub size : length node.durable ≡ round.config.replicas
  pub own : list_in node.durable r ≡ list_at round.to s r
  pub copies : (p : ℕ) → p < round.config.replicas → (list_in node.durable p ≡ list_at round.from s p) ⊎ (list_in node.durable p ≡ list_at round.to s p)
  pub knows : memory.known ≡ knowledge_of (member_of round.config s r) round.agreed.values
  pub peers : length memory.copying.acked ≡ round.config.replicas
  pub low : (p : ℕ) → p < round.config.replicas → p ≢ r → length (list_at round.from s r) ≤ slice_index memory.copying.acked p
  pub high : (p : ℕ) → p < round.config.replicas → p ≢ r → slice_index memory.copying.acked p ≤ goal_of round s r

abbrev pub IsIn : Round → Role → NodeState → Type 0
IsIn round (Storage s r) (Storing node) = IsCatchingUp round s.0 r.0 node
IsIn round (Gatherer i) (Gathering node) = IsGatherer round.config round.to node
IsIn round (Orderer i) (Ordering node) = IsOrderer round.config round.agreed i round.to node
IsIn round _ _ = ⊥

-- what a replica was acknowledged by a peer
abbrev pub acked_by : StorageMode → ℕ → ℕ
acked_by (Stopped flight known) peer = 0
acked_by (Running memory) peer = slice_index memory.copying.acked peer

abbrev pub acked_in : NodeState → ℕ → ℕ
acked_in (Storing node) peer = acked_by node.mode peer
acked_in (Gathering node) peer = 0
acked_in (Ordering node) peer = 0

-- the list of a segment at a node
abbrev pub copy_in : NodeState → ℕ → List Entry
copy_in state p = list_in (lists_of state) p

-- lengths were heard, and one of them is this
abbrev pub Says : Option Lengths → ℕ → ℕ → Type 0
Says None p n = ⊥
Says (Some said) p n = slice_index said.length p ≡ n

-- ---- letters

-- a copy of the one entry more
pub record IsGoodCopy (round : Round) (node segment offset : ℕ) (entry : Entry) : Type 0 where
  pub shard : ℕ
  pub replica : ℕ
  pub shard_below : shard < round.config.shards
  pub replica_below : replica < round.config.replicas
  pub segment_below : segment < round.config.replicas
  pub other : segment ≢ replica
  pub at : node ≡ storage_node round.config shard replica
  pub offset_is : offset ≡ length (list_at round.from shard segment)
  pub entry_is : list_at round.to shard segment ≡ list_at round.from shard segment ++ entry ∷ []

pub record IsGoodAck (round : Round) (node peer held : ℕ) : Type 0 where
  pub shard : ℕ
  pub primary : ℕ
  pub shard_below : shard < round.config.shards
  pub primary_below : primary < round.config.replicas
  pub peer_below : peer < round.config.replicas
  pub other : peer ≢ primary
  pub at : node ≡ storage_node round.config shard primary
  pub most : held ≤ goal_of round shard primary

pub record IsGoodReport (round : Round) (node shard replica : ℕ) (said : Lengths) : Type 0 where
  pub shard_below : shard < round.config.shards
  pub replica_below : replica < round.config.replicas
  pub at : node ≡ gatherer_of round.config shard
  pub heard : IsHeard round.config.replicas (round.to shard) said

-- a node wants the values from a slot on that none has
pub record IsGoodWant (round : Round) (node slot : ℕ) : Type 0 where
  pub index : ℕ
  pub below : index < round.config.orderers
  pub at : node ≡ orderer_node round.config index
  pub past : length round.agreed.values ≤ slot

abbrev pub IsGoodMessage : Round → ℕ → Message → Type 0
IsGoodMessage round node (Copy segment offset entry) = IsGoodCopy round node segment.0 offset entry
IsGoodMessage round node (CopyAck peer held) = IsGoodAck round node peer.0 held
IsGoodMessage round node (Report shard replica said) = IsGoodReport round node shard.0 replica.0 said
IsGoodMessage round node (Want slot asker) = IsGoodWant round node slot.0
IsGoodMessage round node _ = ⊥

abbrev pub IsGoodLetter : Round → Sent → Type 0
IsGoodLetter round sent = IsGoodMessage round sent.to.0 sent.message

abbrev pub AreGoodLetters : Round → List Sent → Type 0
AreGoodLetters round letters = AllByRecursion (IsGoodLetter round) letters

-- the letters that bring a segment of a shard on: its copy to a replica, the acknowledgement of all of it, and the report
abbrev pub IsCopyOf : ℕ → Message → Type 0
IsCopyOf p (Copy segment offset entry) = segment.0 ≡ p
IsCopyOf p _ = ⊥

abbrev pub IsAckOf : ℕ → ℕ → Message → Type 0
IsAckOf r n (CopyAck peer held) = (peer.0 ≡ r) × (held ≡ n)
IsAckOf r n _ = ⊥

abbrev pub IsReportOf : ℕ → ℕ → ℕ → ℕ → Message → Type 0
IsReportOf s r p n (Report shard replica said) = (shard.0 ≡ s) × (replica.0 ≡ r) × (slice_index said.length p ≡ n)
IsReportOf s r p n _ = ⊥

abbrev pub IsCopyTo : Round → ℕ → ℕ → ℕ → Sent → Type 0
IsCopyTo round s p r x = (x.to.0 ≡ storage_node round.config s r) × IsCopyOf p x.message

abbrev pub IsAckTo : Round → ℕ → ℕ → ℕ → Sent → Type 0
IsAckTo round s p r x = (x.to.0 ≡ storage_node round.config s p) × IsAckOf r (goal_of round s p) x.message

abbrev pub IsReportTo : Round → ℕ → ℕ → ℕ → Sent → Type 0
IsReportTo round s r p x = (x.to.0 ≡ gatherer_of round.config s) × IsReportOf s r p (goal_of round s p) x.message

-- ---- how far a segment has come

-- the replica has all of it, or the copy comes
pub data IsCopied (round : Round) (moment : Moment) (s p r : ℕ) : Type 0 where
  Copied : copy_in (moment.nodes (storage_node round.config s r)) p ≡ list_at round.to s p → IsCopied round moment s p r
  Copies : Waits (IsCopyTo round s p r) moment.queue → IsCopied round moment s p r

-- the primary knows that it has, or the acknowledgement or the copy comes
pub data IsAcked (round : Round) (moment : Moment) (s p r : ℕ) : Type 0 where
  Acked : acked_in (moment.nodes (storage_node round.config s p)) r ≡ goal_of round s p → IsAcked round moment s p r
  Acks : Waits (IsAckTo round s p r) moment.queue → IsAcked round moment s p r
  Copies_first : Waits (IsCopyTo round s p r) moment.queue → IsAcked round moment s p r

-- the gatherer knows that it has, or the report comes, or the copy comes and is not there yet
pub data IsTold (round : Round) (moment : Moment) (s r p : ℕ) : Type 0 where
  Told : Says (cell_in (moment.nodes (gatherer_of round.config s)) (s * round.config.replicas + r)) p (goal_of round s p) → IsTold round moment s r p
  Tells : Waits (IsReportTo round s r p) moment.queue → IsTold round moment s r p
  Copies_new : copy_in (moment.nodes (storage_node round.config s r)) p ≢ list_at round.to s p → Waits (IsCopyTo round s p r) moment.queue → IsTold round moment s r p

-- a shard, a segment and a replica of the cluster
pub record IsPlace (config : Shape) (s p r : ℕ) : Type 0 where
  pub shard : s < config.shards
  pub segment : p < config.replicas
  pub replica : r < config.replicas

pub record IsUnderWay (round : Round) (moment : Moment) : Type 0 where
  pub nodes : (role : Role) → IsRole round.config role → IsIn round role (moment.nodes (node_of round.config role))
  pub letters : AreGoodLetters round moment.queue
  pub copied : (s p r : ℕ) → IsPlace round.config s p r → p ≢ r → IsCopied round moment s p r
  pub acked : (s p r : ℕ) → IsPlace round.config s p r → p ≢ r → IsAcked round moment s p r
  pub told : (s p r : ℕ) → IsPlace round.config s p r → IsTold round moment s r p

-- the lists of a round: each shard has one for each replica, and each is as before or has one entry more
pub record IsRoundOf (round : Round) : Type 0 where
  pub old_sizes : AreLists round.config round.from
  pub new_sizes : AreLists round.config round.to
  pub more : AreAsOrMore round.config round.from round.to
