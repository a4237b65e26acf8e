-- A cluster of one shard with two replicas, one gatherer and three orderers, which are nodes 0 to 5, and its first
-- replica, for the examples.
use Rattle.std.specs.Prelude.{ℕ, List, [], ◌∷◌, replicate, Some}
use Rattle.history_frame.specs.declared.inputs.Input.{Input}
use Rattle.history_frame.specs.declared.inputs.Input.TheVariants.{Deliver}
use Rattle.log_base.specs.ClusterShape.{Shape}
use Rattle.log_model.specs.Storage.{Member, knowledge_of}
use Rattle.message_frame.specs.declared.messages.Message.{Message}
use Rattle.record_frame.specs.declared.entries.Entry.{Entry}
use Rattle.record_frame.specs.declared.values.Lengths.{Lengths}
use Rattle.record_frame.specs.declared.values.Value.{Value}
use Rattle.record_frame.specs.declared.values.Value.TheVariants.{Add}
use Rattle.record_frame.specs.Entries.{entry_of}
use Rattle.node_model.specs.Marks.{Running}
use Rattle.node_model.specs.StorageNode.{Replica, StorageNode, fresh, member_of}

abbrev pub two_replicas : Shape
two_replicas = record { replicas = 2; shards = 1; orderers = 3; gatherers = 1 }

abbrev pub first : Member
first = member_of two_replicas 0 0

-- an entry of a number, with an empty record
abbrev pub entry : ℕ → Entry
entry number = entry_of (record { 0 = 7 }) (record { 0 = number }) []

-- what a replica remembers that knows some values
abbrev pub knowing : List Value → Replica
knowing values = record (fresh first) { known = knowledge_of first values }

-- the first replica, with its own list and that of its peer
abbrev pub holding : List Entry → List Entry → Replica → StorageNode
holding own other memory = record { durable = own ∷ other ∷ []; mode = Running memory }

abbrev pub added : Value
added = Add (record { 0 = 0 })

-- two lengths
abbrev pub lengths : ℕ → ℕ → Lengths
lengths own other = record { count = 2; length = own ∷ other ∷ replicate 30 0 }

-- a message is delivered
abbrev pub gets : Message → Input
gets message = Deliver 0 0 (Some message)
