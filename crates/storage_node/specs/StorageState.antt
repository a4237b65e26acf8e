-- A storage node as contracts see it, and as a node of the rules.
use Rattle.std.specs.Prelude.{◌≡◌, ◌⊎◌, ℕ, suc, ◌+◌, ◌≤◌, length, List, [], ◌∷◌, false, Option, Some, None, option_to_list}
use Rattle.std.specs.List.{AllByRecursion}
use Rattle.event_letters.specs.Letters.{EventLetters}
use Rattle.history_frame.specs.declared.events.Sent.{Sent}
use Rattle.log_base.specs.ClusterShape.{Shape}
use Rattle.log_model.specs.Storage.{HoldsCovered, Member, list_limit}
use Rattle.node_model.specs.Marks.{Running as Runs, Stopped}
use Rattle.node_model.specs.StorageNode.{Put, Replica, StorageMode, StorageNode}
use Rattle.record_frame.specs.declared.entries.Entry.{Entry}
use Rattle.shard_replica.specs.Lists.{Segment}
use Rattle.shard_replica.specs.Replica.{Replicated, ReplicaState, lists_of, member_of}
use Rattle.storage_node.specs.declared.node.Mode.{Mode}
use Rattle.storage_node.specs.declared.node.Mode.TheVariants.{Down, Running}

-- The replica, its mode and its ticks. Its letters, with the room for more. And what was made ready for the next step: copies
-- that it sends, the payload of a copy that it takes, and room for so many bytes of a record that it answers with.
pub record StorageState : Type 0 where
  pub replica : Replicated
  pub mode : Mode
  pub ticks : ℕ
  pub letters : EventLetters
  pub copies : List Sent
  pub payload : List ℕ
  pub record_room : ℕ

-- its config, which replica it is, and its lists
abbrev pub config_of : StorageState → Shape
config_of node = node.replica.state.config

abbrev pub member_in : StorageState → Member
member_in node = member_of node.replica.state

abbrev pub lists_in : StorageState → List (List Entry)
lists_in node = lists_of node.replica.state

-- the entry in flight to a list, where there is one
abbrev pub put_in_flight : ℕ → Option Entry → Option Put → Option Put
put_in_flight segment None others = others
put_in_flight segment (Some entry) others = Some (record { segment = segment; entry = entry })

-- the first entry in flight, of the lists from a segment on
abbrev pub flight_from : ℕ → List Segment → Option Put
flight_from at [] = None
flight_from at (segment ∷ segments) = put_in_flight at segment.flight (flight_from (suc at) segments)

abbrev pub flight_in : List Segment → Option Put
flight_in segments = flight_from 0 segments

-- what it remembers while it runs
abbrev pub memory_of : ReplicaState → ℕ → Replica
memory_of state ticks = record { known = state.known; copying = state.copying; ticks = ticks }

abbrev pub mode_of : Mode → ReplicaState → ℕ → StorageMode
mode_of Down state ticks = Stopped (flight_in state.segments) state.known
mode_of Running state ticks = Runs (memory_of state ticks)

-- the node of the rules
abbrev pub node_of : StorageState → StorageNode
node_of node = record { durable = lists_in node; mode = mode_of node.mode node.replica.state node.ticks }

-- nothing is in flight to a list, and it is not halted
abbrev pub IsAtRest : Segment → Type 0
IsAtRest segment = (segment.flight ≡ None) × (segment.halted ≡ false)

-- nothing is in flight to any of some lists, and to at most one of them
abbrev pub HasNoFlight : List Segment → Type 0
HasNoFlight segments = AllByRecursion (λ (segment : Segment). segment.flight ≡ None) segments

abbrev pub HasOneFlight : List Segment → Type 0
HasOneFlight [] = Unit {0}
HasOneFlight (segment ∷ segments) = ((segment.flight ≡ None) × HasOneFlight segments) ⊎ HasNoFlight segments

-- a list has at most as many entries as it may have, with the one in flight too
abbrev pub IsFew : Segment → Type 0
IsFew segment = length segment.entries + length (option_to_list segment.flight) ≤ list_limit

-- At most one entry is in flight while the node is down, and none while it runs.
abbrev pub RestsIn : Mode → List Segment → Type 0
RestsIn Down segments = HasOneFlight segments
RestsIn Running segments = AllByRecursion IsAtRest segments

-- What a storage node keeps true of its replica. What is covered is held, and at most 16,384 values are known.
pub record IsSound (mode : Mode) (state : ReplicaState) : Type 0 where
  pub count : length state.segments ≡ state.config.replicas
  pub few : AllByRecursion IsFew state.segments
  pub rests : RestsIn mode state.segments
  pub covered : HoldsCovered (member_of state) (lists_of state) state.known
  pub known : state.known.count ≤ 16384

-- which replica it is
pub record IsOf (config : Shape) (shard own : ℕ) (state : ReplicaState) : Type 0 where
  pub config_is : state.config ≡ config
  pub shard_is : state.shard ≡ shard
  pub own_is : state.own ≡ own

-- What holds of the parts of a storage node. Between two steps it has no letters.
pub record IsStorage (config : Shape) (shard own : ℕ) (mode : Mode) (state : ReplicaState) (sent : List Sent) : Type 0 where
  pub replica : IsOf config shard own state
  pub sound : IsSound mode state
  pub nothing_sent : sent ≡ []
