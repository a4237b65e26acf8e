-- The durable lists that a history leaves, and lists that a chain of runs leaves.
use Rattle.std.specs.Prelude.{◌≡◌, ℕ, zero, suc, ◌/◌, ◌%◌, ◌<◌, ◌≤◌, List, [], ◌∷◌, ◌++◌, length, map, ◌==◌, if◌then◌else◌, Option, Some, None}
use Rattle.history_frame.specs.declared.events.Event.{Event}
use Rattle.log_base.specs.ClusterShape.{Shape}
use Rattle.log_model.specs.Storage.{list_in}
use Rattle.node_table.specs.Numbering.{disk_of, orderer_node}
use Rattle.paxos_model.specs.Payloads.{payload_spelling}
use Rattle.paxos_model.specs.Votes.{Payload}
use Rattle.record_frame.specs.Entries.{entry_spelling}
use Rattle.node_model.specs.Legal.{IsLegal}
use Rattle.node_model.specs.Marks.{flight_of}
use Rattle.node_model.specs.NodeState.{KeptLists, NodeState, Storing, Gathering, Ordering, node_after}
use Rattle.node_model.specs.Sound.{orderer_limit}
use Rattle.node_model.specs.StorageNode.{Put}

-- the payloads of a segment of a node; an orderer's list is segment 0
abbrev pub payloads_of : NodeState → ℕ → List (List ℕ)
payloads_of (Storing node) segment = map entry_spelling (list_in node.durable segment)
payloads_of (Gathering node) segment = []
payloads_of (Ordering node) zero = map payload_spelling node.durable
payloads_of (Ordering node) (suc segment) = []

-- the payload that is in flight to a segment of a node
abbrev pub put_to : ℕ → Option Put → Option (List ℕ)
put_to segment None = None
put_to segment (Some put) = if put.segment == segment then Some (entry_spelling put.entry) else None

abbrev pub spelled : Option Payload → Option (List ℕ)
spelled None = None
spelled (Some payload) = Some (payload_spelling payload)

abbrev pub payload_in_flight : NodeState → ℕ → Option (List ℕ)
payload_in_flight (Storing node) segment = put_to segment (flight_of node.mode)
payload_in_flight (Gathering node) segment = None
payload_in_flight (Ordering node) zero = spelled (flight_of node.mode)
payload_in_flight (Ordering node) (suc segment) = None

-- the durable list of a disk after a history
abbrev pub durable : Shape → KeptLists → List Event → ℕ → List (List ℕ)
durable config kept events disk = payloads_of (node_after config kept events (disk / 8)) (disk % 8)

abbrev pub in_flight : Shape → KeptLists → List Event → ℕ → Option (List ℕ)
in_flight config kept events disk = payload_in_flight (node_after config kept events (disk / 8)) (disk % 8)

-- what a disk keeps is its durable list, without or with what is in flight to it
pub data Keeps (durable : List (List ℕ)) (flight : Option (List ℕ)) (list : List (List ℕ)) : Type 0 where
  Without : list ≡ durable → Keeps durable flight list
  With : (payload : List ℕ) → flight ≡ Some payload → list ≡ durable ++ payload ∷ [] → Keeps durable flight list

-- disks are left by a history
abbrev pub IsLeft : Shape → KeptLists → List Event → KeptLists → Type 0
IsLeft config kept events left = (disk : ℕ) → Keeps (durable config kept events disk) (in_flight config kept events disk) (left disk)

-- no orderer kept too much
abbrev pub AreFew : Shape → KeptLists → Type 0
AreFew config kept = (i : ℕ) → i < config.orderers → length (kept (disk_of (orderer_node config i) 0)) ≤ orderer_limit

-- kept lists are founded before a run: they are empty, or left by a legal history of an earlier run from founded lists
pub data IsFounded (config : Shape) : ℕ → KeptLists → Type 0 where
  Empty : (run : ℕ) (kept : KeptLists) → ((disk : ℕ) → kept disk ≡ []) → IsFounded config run kept
  Later : (run : ℕ) (kept : KeptLists) (earlier : ℕ) (before : KeptLists) (events : List Event)
      → IsFounded config earlier before → earlier < run → IsLegal config earlier before events
      → IsLeft config before events kept → AreFew config kept → IsFounded config run kept
