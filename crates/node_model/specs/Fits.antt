-- Which inputs a node may take: those that are named for its role, with numbers in the ranges of the formats and of
-- the config; and which of them fit the lists that the node has.
use Rattle.std.specs.Prelude.{◌≡◌, ◌≢◌, ℕ, ◌*◌, ◌<◌, ◌≤◌, List, length, true, Some, None, slice_index}
use Rattle.std.specs.List.{AllByRecursion}
use Rattle.history_frame.specs.declared.inputs.Call.{Call}
use Rattle.history_frame.specs.declared.inputs.Call.TheVariants.{Submit, Ask, Read, Request, Settled}
use Rattle.history_frame.specs.declared.inputs.Input.{Input}
use Rattle.history_frame.specs.declared.inputs.Input.TheVariants.{Deliver, Call as ACall, Tick, Lead, Stop, Restart}
use Rattle.log_base.specs.ClusterShape.{Shape}
use Rattle.log_model.specs.Lookup.{segment_index}
use Rattle.log_model.specs.Storage.{Member, list_in}
use Rattle.message_frame.specs.declared.messages.Message.{Message}
use Rattle.message_frame.specs.declared.messages.Message.TheVariants.{Copy, CopyAck, Report, Least, Prepare, Promised, Lower, Accept, Accepted, Decide, Want}
use Rattle.message_frame.specs.declared.messages.Vote.{Vote}
use Rattle.message_frame.specs.Spelling.{IsMessage}
use Rattle.node_table.specs.declared.role.Role.{Role}
use Rattle.node_table.specs.declared.role.Role.TheVariants.{Storage, Gatherer, Orderer}
use Rattle.node_table.specs.Numbering.{nodes_of}
use Rattle.record_frame.specs.declared.entries.Entry.{Entry}
use Rattle.record_frame.specs.declared.values.Value.{Value}
use Rattle.record_frame.specs.declared.values.Value.TheVariants.{Noop, Cut, Add, Finalise, Trim}
use Rattle.record_frame.specs.Entries.{IsEntry, entry_of}
use Rattle.record_frame.specs.Values.{IsValue}
use Rattle.node_model.specs.GathererRow.{names as gatherer_names}
use Rattle.node_model.specs.Marks.{Names, is_named}
use Rattle.node_model.specs.NodeState.{NodeState, Storing}
use Rattle.node_model.specs.OrdererRow.{names as orderer_names}
use Rattle.node_model.specs.StorageNode.{member_of}
use Rattle.node_model.specs.StorageRow.{names as storage_names}

-- what is named for a role
abbrev pub names_of : Role → Names
names_of (Storage shard replica) = storage_names
names_of (Gatherer index) = gatherer_names
names_of (Orderer index) = orderer_names

-- a value of a cluster: a cut has a length for each segment, and shards are below the number of shards
abbrev pub IsValueOf : Shape → Value → Type 0
IsValueOf config Noop = Unit {0}
IsValueOf config (Cut lengths) = lengths.count ≡ config.replicas * config.shards
IsValueOf config (Add shard) = shard.0 < config.shards
IsValueOf config (Finalise shard) = shard.0 < config.shards
IsValueOf config (Trim position) = Unit {0}

abbrev pub IsVoteOf : Shape → Vote → Type 0
IsVoteOf config vote = IsValueOf config vote.value

-- the numbers of a message are a cluster's, and it has a length for each of a shard's segments
abbrev pub IsMessageOf : Shape → Message → Type 0
IsMessageOf config (Copy segment offset entry) = segment.0 < config.replicas
IsMessageOf config (CopyAck peer held) = peer.0 < config.replicas
IsMessageOf config (Report shard replica lengths) = (shard.0 < config.shards) × (replica.0 < config.replicas) × (lengths.count ≡ config.replicas)
IsMessageOf config (Least shard lengths) = (shard.0 < config.shards) × (lengths.count ≡ config.replicas)
IsMessageOf config (Prepare ballot slot) = Unit {0}
IsMessageOf config (Promised ballot slot who votes) = (who < config.orderers) × AllByRecursion (IsVoteOf config) votes
IsMessageOf config (Lower ballot promise) = Unit {0}
IsMessageOf config (Accept ballot slot value) = IsValueOf config value
IsMessageOf config (Accepted ballot slot who) = who < config.orderers
IsMessageOf config (Decide slot value) = IsValueOf config value
IsMessageOf config (Want slot node) = node.0 < nodes_of config

-- only an addition, a finalisation or a trim is asked for
abbrev pub IsRequested : Value → Type 0
IsRequested Noop = ⊥
IsRequested (Cut lengths) = ⊥
IsRequested (Add shard) = Unit {0}
IsRequested (Finalise shard) = Unit {0}
IsRequested (Trim position) = Unit {0}

-- The numbers of a call are in range. Whether a value is settled may be asked of any value.
abbrev pub IsCallOf : Shape → Call → Type 0
IsCallOf config (Submit client number bytes) = IsEntry (entry_of client number bytes)
IsCallOf config (Ask client number) = Unit {0}
IsCallOf config (Read client position) = Unit {0}
IsCallOf config (Request client value) = IsRequested value × IsValue value × IsValueOf config value
IsCallOf config (Settled client value from) = IsValue value

abbrev pub HasRange : Shape → Input → Type 0
HasRange config (Deliver place index None) = Unit {0}
HasRange config (Deliver place index (Some message)) = IsMessage message × IsMessageOf config message
HasRange config (ACall call) = IsCallOf config call
HasRange config Tick = Unit {0}
HasRange config Lead = Unit {0}
HasRange config Stop = Unit {0}
HasRange config Restart = Unit {0}

-- an input of a role: it is named for the role, and its numbers are in range
pub record IsInput (config : Shape) (role : Role) (input : Input) : Type 0 where
  pub named : is_named (names_of role) input ≡ true
  pub range : HasRange config input

-- a value covers no more of a shard than the lists that a replica holds
abbrev pub IsHeldIn : Member → List (List Entry) → Value → Type 0
IsHeldIn member lists (Cut lengths) =
    (segment : ℕ) → segment < member.replicas
    → slice_index lengths.length (segment_index member.replicas member.shard segment) ≤ length (list_in lists segment)
IsHeldIn member lists Noop = Unit {0}
IsHeldIn member lists (Add shard) = Unit {0}
IsHeldIn member lists (Finalise shard) = Unit {0}
IsHeldIn member lists (Trim position) = Unit {0}

-- What a message says is so of a replica's lists: it copies the segment of another, a peer holds no more than the own list,
-- and what is decided is held.
abbrev pub FitsLists : Member → List (List Entry) → Message → Type 0
FitsLists member lists (Copy segment offset entry) = segment.0 ≢ member.own
FitsLists member lists (CopyAck peer held) = (peer.0 ≢ member.own) × (held ≤ length (list_in lists member.own))
FitsLists member lists (Decide slot value) = IsHeldIn member lists value
FitsLists member lists _ = Unit {0}

abbrev pub FitsReplica : Member → List (List Entry) → Input → Type 0
FitsReplica member lists (Deliver place index (Some message)) = FitsLists member lists message
FitsReplica member lists _ = Unit {0}

abbrev pub FitsState : Shape → Role → NodeState → Input → Type 0
FitsState config (Storage shard replica) (Storing node) input = FitsReplica (member_of config shard.0 replica.0) node.durable input
FitsState config _ _ input = Unit {0}

-- an input fits a node
pub record Fits (config : Shape) (role : Role) (state : NodeState) (input : Input) : Type 0 where
  pub allowed : IsInput config role input
  pub held : FitsState config role state input
