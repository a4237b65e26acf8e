-- When a settled moment is as the log of one thread has it, and what is so of each state of that log.
use Rattle.std.specs.Prelude.{◌≡◌, ◌<◌, ◌≤◌, ℕ, List, [], length, map, slice_index, slice_index_or, Option, Some, None}
use Rattle.std.specs.List.{AllByRecursion}
use Rattle.log_base.specs.ClusterShape.{Shape}
use Rattle.log_model.specs.Chain.{chain_of}
use Rattle.log_base.specs.Draws.{number_of_draw}
use Rattle.log_base.specs.declared.numbers.NodeId.{NodeId}
use Rattle.node_table.specs.Numbering.{storage_node}
use Rattle.record_frame.specs.declared.entries.Entry.{Entry}
use Rattle.plain_log.specs.Coherent.{IsCoherentState}
use Rattle.plain_log.specs.Log.{LogState, Primary, entries_of, primary_of}
use Rattle.quiet_model.specs.Moments.{Moment}
use Rattle.quiet_model.specs.Settled.{Agreed, IsSettled, ListsOf, list_at}

-- the number of an entry was drawn: its client's lane draws a greater one next
abbrev pub IsDrawn : ℕ → LogState → Entry → Type 0
IsDrawn run state entry = entry.number.0 < number_of_draw run (slice_index state.draws entry.client.0)

-- the primary of a lane's last append, if there is one, is a replica of the cluster
abbrev pub IsOfCluster : Shape → Option Primary → Type 0
IsOfCluster config None = Unit {0}
IsOfCluster config (Some primary) = (primary.shard < config.shards) × (primary.replica < config.replicas)

-- the log has no more positions than values
abbrev pub Reaches : ℕ → LogState → Type 0
Reaches replicas state = (chain_of replicas state.values).end ≤ length state.values

-- What is so of each state of the log: covered lengths are those of the lists, there are 64 lanes, each entry's number was
-- drawn, neither a list has more entries nor the log more positions than there are values, and each lane's last append went to a
-- replica of the cluster.
pub record IsInOrder (config : Shape) (run : ℕ) (state : LogState) : Type 0 where
  pub coherent : IsCoherentState config state
  pub lanes : length state.draws ≡ 64
  pub drawn : (index : ℕ) → AllByRecursion (IsDrawn run state) (slice_index_or state.segments index [])
  pub few : (index : ℕ) → length (slice_index_or state.segments index []) ≤ length state.values
  pub reaches : Reaches config.replicas state
  pub last : (lane : ℕ) → IsOfCluster config (primary_of state lane)

-- the primary of a lane's last append, as the schedule names it: by its node
abbrev pub node_of_primary : Shape → Option Primary → Option NodeId
node_of_primary config None = None
node_of_primary config (Some primary) = Some (record { 0 = storage_node config primary.shard primary.replica })

-- those of all lanes
abbrev pub primaries_in : Shape → LogState → List (Option NodeId)
primaries_in config state = map (node_of_primary config) state.primaries

-- the lists of the shards are those of the log's segments
abbrev pub AreListsOf : Shape → LogState → ListsOf → Type 0
AreListsOf config state lists = (shard segment : ℕ) → shard < config.shards → segment < config.replicas
    → list_at lists shard segment ≡ entries_of config.replicas state shard segment

-- what is agreed on: the values of the log, while no wish waits
abbrev pub agreed_in : ℕ → LogState → Agreed
agreed_in ballot state = record { ballot = ballot; values = state.values; wishes = [] }

-- A moment is settled, at the lists and the values of the log.
pub record Matches (config : Shape) (state : LogState) (moment : Moment) : Type 0 where
  pub ballot : ℕ
  pub lists : ListsOf
  pub same : AreListsOf config state lists
  pub settled : IsSettled config (agreed_in ballot state) lists moment
