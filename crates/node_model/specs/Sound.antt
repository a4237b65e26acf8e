-- Sound kept lists: what the disks of a cluster may have kept before a run. It is said payload by payload, so that the
-- first payload that breaks it can be told.
use Rattle.std.specs.Prelude.{◌≡◌, ℕ, ◌*◌, ◌^◌, ◌/◌, ◌%◌, ◌<◌, ◌≤◌, List, [], ◌∷◌, length, take, ◌==◌, if◌then◌else◌, Some, slice_get, slice_index}
use Rattle.history_frame.specs.declared.events.Kept.{Kept}
use Rattle.log_base.specs.ClusterShape.{Shape}
use Rattle.log_model.specs.Lookup.{segment_index}
use Rattle.log_model.specs.Storage.{IsSpelled as IsEntrySpelled, entry_in, list_limit}
use Rattle.node_table.specs.declared.role.Role.{Role}
use Rattle.node_table.specs.declared.role.Role.TheVariants.{Storage, Gatherer, Orderer}
use Rattle.node_table.specs.Numbering.{disk_of, nodes_of, role_at, storage_node}
use Rattle.paxos_model.specs.Payloads.{IsSpelled, payload_in}
use Rattle.paxos_model.specs.Votes.{Payload, Promise, Voted}
use Rattle.record_frame.specs.declared.values.Value.{Value}
use Rattle.record_frame.specs.declared.values.Value.TheVariants.{Noop, Cut, Add, Finalise, Trim}
use Rattle.node_model.specs.NodeState.{KeptLists}

-- how many payloads an orderer's list may have kept
abbrev pub orderer_limit : ℕ
orderer_limit = 16000000

-- the numbers that entries may have before a run
abbrev pub IsBefore : ℕ → ℕ → Type 0
IsBefore run number = number < run * 2 ^ 32

-- the disk on which a replica of a shard keeps a segment
abbrev pub segment_disk : Shape → ℕ → ℕ → ℕ → ℕ
segment_disk config shard replica segment = disk_of (storage_node config shard replica) segment

-- A payload in the list of a segment: a record entry with such a number, within the limit, and the segment's primary has
-- it at the same offset.
pub record IsSoundEntry (config : Shape) (IsNumber : ℕ → Type 0) (kept : KeptLists) (shard segment offset : ℕ) (payload : List ℕ) : Type 0 where
  pub spelled : IsEntrySpelled payload
  pub number : IsNumber (entry_in payload).number.0
  pub few : offset < list_limit
  pub primary : slice_get (kept (segment_disk config shard segment segment)) offset ≡ Some payload

-- each length of a cut is held by every replica, and the shards of other values are the cluster's
abbrev pub IsKeptCut : Shape → KeptLists → List ℕ → Type 0
IsKeptCut config kept lengths = (shard replica segment : ℕ) → shard < config.shards → replica < config.replicas → segment < config.replicas
    → slice_index lengths (segment_index config.replicas shard segment) ≤ length (kept (segment_disk config shard replica segment))

abbrev pub IsKeptValue : Shape → KeptLists → Value → Type 0
IsKeptValue config kept Noop = Unit {0}
IsKeptValue config kept (Cut lengths) = (lengths.count ≡ config.replicas * config.shards) × IsKeptCut config kept lengths.length
IsKeptValue config kept (Add shard) = shard.0 < config.shards
IsKeptValue config kept (Finalise shard) = shard.0 < config.shards
IsKeptValue config kept (Trim position) = Unit {0}

abbrev pub IsKeptVote : Shape → KeptLists → Payload → Type 0
IsKeptVote config kept (Promise ballot) = Unit {0}
IsKeptVote config kept (Voted vote) = IsKeptValue config kept vote.value

-- a payload in the list of an orderer: a promise or a vote, within the limit
pub record IsSoundPromise (config : Shape) (kept : KeptLists) (offset : ℕ) (payload : List ℕ) : Type 0 where
  pub spelled : IsSpelled payload
  pub few : offset < orderer_limit
  pub value : IsKeptVote config kept (payload_in payload)

-- a payload on a disk of a node
abbrev pub IsSoundAs : Shape → (ℕ → Type 0) → KeptLists → Role → ℕ → ℕ → List ℕ → Type 0
IsSoundAs config IsNumber kept (Storage shard replica) segment offset payload =
    (segment < config.replicas) × IsSoundEntry config IsNumber kept shard.0 segment offset payload
IsSoundAs config IsNumber kept (Gatherer index) segment offset payload = ⊥
IsSoundAs config IsNumber kept (Orderer index) segment offset payload = (segment ≡ 0) × IsSoundPromise config kept offset payload

-- a payload that does not break soundness: its disk is the cluster's, and it may stand there
abbrev pub IsSoundAt : Shape → (ℕ → Type 0) → KeptLists → ℕ → ℕ → List ℕ → Type 0
IsSoundAt config IsNumber kept disk offset payload =
    (disk / 8 < nodes_of config) × IsSoundAs config IsNumber kept (role_at config (disk / 8)) (disk % 8) offset payload

-- no payload breaks soundness, where entries have such numbers
abbrev pub AreSound : Shape → (ℕ → Type 0) → KeptLists → Type 0
AreSound config IsNumber kept = (disk offset : ℕ) (payload : List ℕ) → slice_get (kept disk) offset ≡ Some payload
    → IsSoundAt config IsNumber kept disk offset payload

-- kept lists are sound before a run
abbrev pub IsSound : Shape → ℕ → KeptLists → Type 0
IsSound config run kept = AreSound config (IsBefore run) kept

-- the payloads of a disk among all that were kept, in their order
abbrev pub payloads_on : List Kept → ℕ → List (List ℕ)
payloads_on [] disk = []
payloads_on (kept ∷ rest) disk = if kept.disk == disk then kept.payload ∷ payloads_on rest disk else payloads_on rest disk

-- the payload at an index of all that were kept does not break soundness
abbrev pub IsSoundOne : Shape → ℕ → List Kept → ℕ → Type 0
IsSoundOne config run kept index = (one : Kept) → slice_get kept index ≡ Some one
    → IsSoundAt config (IsBefore run) (payloads_on kept) one.disk (length (payloads_on (take index kept) one.disk)) one.payload

-- the payload at an index breaks soundness, and none before it does
pub record BreaksFirst (config : Shape) (run : ℕ) (kept : List Kept) (index : ℕ) : Type 0 where
  pub within : index < length kept
  pub breaks : IsSoundOne config run kept index → ⊥
  pub before : (earlier : ℕ) → earlier < index → IsSoundOne config run kept earlier
