-- A replica: its lists, what it knows of the decided values, and what its peers acknowledged.
use Rattle.std.specs.Prelude.{◌≡◌, ℕ, ◌+◌, ◌<◌, length, List, [], map, Bool, false, Option, Some, None, slice_set}
use Rattle.log_base.specs.ClusterShape.{Shape}
use Rattle.record_frame.specs.declared.entries.Entry.{Entry}
use Rattle.record_frame.specs.declared.values.Value.{Value}
use Rattle.log_model.specs.Storage.{Member, Knowledge, knowledge_of}
use Rattle.cut_chain.specs.Known.{Known, known_of}
use Rattle.peer_copy.specs.Copying.{Copying, fresh}
use Rattle.shard_replica.specs.declared.lists.LastReload.{LastReload}
use Rattle.shard_replica.specs.declared.lists.LastReload.TheVariants.{Failed, Read}
use Rattle.shard_replica.specs.Indexed.{Stored}
use Rattle.shard_replica.specs.Lists.{Segment, Medium, segment_at, after_put, reopened_all}

pub record ReplicaState : Type 0 where
  pub config : Shape
  pub shard : ℕ
  pub own : ℕ
  pub segments : List Segment
  pub known : Knowledge
  pub copying : Copying

-- What contracts see of a replica: its state; what is told of its journals, and how the last reload ended; for how many
-- runs of places and for how many bytes of a spelling it has room.
pub record Replicated : Type 0 where
  pub state : ReplicaState
  pub media : List Medium
  pub last_reload : Option LastReload
  pub runs : ℕ
  pub spelling : ℕ

abbrev pub member_of : ReplicaState → Member
member_of state = record { shard = state.shard; own = state.own; replicas = state.config.replicas }

-- the entries of the own list, and of all lists
abbrev pub own_entries : ReplicaState → List Entry
own_entries state = (segment_at state.segments state.own).entries

abbrev pub lists_of : ReplicaState → List (List Entry)
lists_of state = map (λ (s : Segment). s.entries) state.segments

-- a replica that has just started
abbrev pub at_first : Shape → ℕ → ℕ → List Segment → ReplicaState
at_first config shard own segments = record {
  config = config;
  shard = shard;
  own = own;
  segments = segments;
  known = knowledge_of (record { shard = shard; own = own; replicas = config.replicas }) [];
  copying = fresh config.replicas own;
}

-- no list is halted
abbrev pub IsRunning : List Segment → Type 0
IsRunning segments = (k : ℕ) → (segment_at segments k).halted ≡ false

-- the state after the put of an entry, if one is put, which failed or not
abbrev pub with_put : ReplicaState → ℕ → Option Entry → Bool → ReplicaState
with_put state segment None failed = state
with_put state segment (Some entry) failed =
    record state { segments = slice_set state.segments segment (after_put (segment_at state.segments segment) entry failed) }

-- what is known, without the config
abbrev pub knowledge_in : Known → Knowledge
knowledge_in known = record { chain = known.chain; places = known.places; count = known.count }

-- What the parts of a replica keep true. The known values are some list of values.
pub record IsReplica (config : Shape) (shard own : ℕ) (lists : Stored) (known : Known) (copying : Copying) : Type 0 where
  pub shard_in : shard < config.shards
  pub own_in : own < config.replicas
  pub own_list : lists.own ≡ own
  pub count : length lists.lists.segments ≡ config.replicas
  pub values : List Value
  pub known_is : known ≡ known_of config values
  pub copier : copying.own ≡ own
  pub peers : length copying.acked ≡ config.replicas

-- the bytes of an entry beside its record
abbrev pub entry_size : ℕ → ℕ
entry_size record_size = record_size + 15

-- the state after what was read is put in place, where the last reload read it all
abbrev pub state_after : Option LastReload → ReplicaState → List Medium → ReplicaState
state_after None state media = state
state_after (Some Failed) state media = state
state_after (Some Read) state media = at_first state.config state.shard state.own (reopened_all state.segments media)
