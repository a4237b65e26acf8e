-- A gatherer with the letters of its event, and the room that an event needs.
use Rattle.std.specs.Prelude.{◌≡◌, ℕ, ◌%◌, ◌≤◌, List, [], map, Bool, true, false, ◌==◌, if◌then◌else◌, Option, Some, None}
use Rattle.std.specs.List.{AllByRecursion}
use Rattle.aggregator.specs.Hearing.{Hearing, least_in}
use Rattle.event_letters.specs.Letters.{EventLetters, HasSpace, message_length}
use Rattle.history_frame.specs.declared.events.Sent.{Sent}
use Rattle.history_frame.specs.declared.inputs.Input.{Input}
use Rattle.history_frame.specs.declared.inputs.Mark.TheVariants.{Done}
use Rattle.log_base.specs.ClusterShape.{Shape}
use Rattle.node_model.specs.GathererRow.{GathererNode, GathererOutcome, least_letters, outcome}
use Rattle.node_model.specs.Marks.{Mode, Stopped, Running}
use Rattle.record_frame.specs.declared.values.Lengths.{Lengths}
use Rattle.record_frame.specs.Values.{IsLengths}
use Rattle.gatherer_node.specs.declared.activity.Activity.{Activity}
use Rattle.gatherer_node.specs.declared.activity.Activity.TheVariants.{Down, Running as Up}

-- which gatherer it is in its cluster, its state, and the letters of its event
pub record Gatherer : Type 0 where
  pub config : Shape
  pub index : ℕ
  pub node : GathererNode
  pub letters : EventLetters

-- the state of a gatherer that is down or runs; one that is down has forgotten what it heard
abbrev pub node_of : Activity → Hearing → GathererNode
node_of Down hearing = record { durable = tt; mode = Stopped None tt }
node_of Up hearing = record { durable = tt; mode = Running hearing }

-- whether it is down
abbrev pub is_stopped : Mode ⊥ (Unit {0}) Hearing → Bool
is_stopped (Stopped flight known) = true
is_stopped (Running hearing) = false

-- what was heard from a replica: a length of each segment of its shard
abbrev pub IsHeard : ℕ → Option Lengths → Type 0
IsHeard replicas None = Unit {0}
IsHeard replicas (Some lengths) = IsLengths 5 lengths × (lengths.count ≡ replicas)

-- what is heard is that of the cluster's replicas
pub record IsOf (config : Shape) (index : ℕ) (hearing : Hearing) : Type 0 where
  pub gatherer : hearing.index ≡ index
  pub replicas : hearing.replicas ≡ config.replicas
  pub shards : hearing.shards ≡ config.shards
  pub heard : AllByRecursion (IsHeard config.replicas) hearing.cells

-- what a gatherer tells of a shard: the least of it, where it serves the shard and heard from all its replicas
abbrev pub least_due : Shape → ℕ → Hearing → ℕ → Option Lengths
least_due config index hearing shard = if shard % config.gatherers == index then least_in hearing shard else None

abbrev pub told_of : Shape → ℕ → Hearing → ℕ → List Sent
told_of config index hearing shard = least_letters config shard (least_due config index hearing shard)

-- the letters of an event that is done
abbrev pub letters_made : Option GathererOutcome → List Sent
letters_made None = []
letters_made (Some made) = made.outputs

abbrev pub letters_due : Gatherer → Input → List Sent
letters_due gatherer input = letters_made (outcome gatherer.config gatherer.index gatherer.node input Done)

-- how many bytes letters have
abbrev pub sizes_of : List Sent → List ℕ
sizes_of letters = map (λ sent. message_length sent.message) letters

-- a letter of a gatherer has few bytes
abbrev pub IsShort : Sent → Type 0
IsShort sent = message_length sent.message ≤ 24

-- there is the memory for an event
pub record IsReady (gatherer : Gatherer) (rooms : List ℕ) (input : Input) : Type 0 where
  pub none_sent : gatherer.letters.sent ≡ []
  pub space : HasSpace gatherer.letters rooms (sizes_of (letters_due gatherer input))
