-- The nodes of a cluster in memory, and as they begin.
use Rattle.std.specs.Prelude.{◌≡◌, ℕ, suc, ◌≤◌, List, [], ◌∷◌, length, Some, slice_get}
use Rattle.cut_chain.specs.Walk.{Walked}
use Rattle.history_frame.specs.declared.events.Event.{Event}
use Rattle.log_base.specs.ClusterShape.{Shape}
use Rattle.node_model.specs.NodeState.{KeptLists, NodeState, node_after}
use Rattle.node_table.specs.Numbering.{disk_of, nodes_of}
use Rattle.segment_journal.specs.Journalled.{Journalled, loaded}
use Rattle.core_step.specs.Standing.{Standing, state_of}
use Rattle.history_walk.specs.InMemory.{InMemory}

-- a node over journals in memory
abbrev pub MemoryNode : Type 0
MemoryNode = Standing InMemory Walked

abbrev pub journal_in : InMemory → Journalled
journal_in memory = memory.journal

abbrev pub state_in : MemoryNode → NodeState
state_in node = state_of journal_in node.part

-- journals, one for each disk, of which those from one on have what their disks kept
pub record AreLists (journals : List InMemory) (kept : KeptLists) (first count : ℕ) : Type 0 where
  pub all : length journals ≡ count
  pub each : (disk : ℕ) (memory : InMemory) → first ≤ disk → slice_get journals disk ≡ Some memory → memory.journal ≡ loaded (kept disk)

-- journals of the segments of a node, from one on, have what their disks kept
abbrev pub AreLoaded : KeptLists → ℕ → ℕ → List InMemory → Type 0
AreLoaded kept node segment [] = Unit {0}
AreLoaded kept node segment (memory ∷ others) = (memory.journal ≡ loaded (kept (disk_of node segment))) × AreLoaded kept node (suc segment) others

-- a node is the one of this number, as it is after events
pub record IsNode (config : Shape) (kept : KeptLists) (events : List Event) (number : ℕ) (node : MemoryNode) : Type 0 where
  pub config_is : node.config ≡ config
  pub number_is : node.number ≡ number
  pub state_is : state_in node ≡ node_after config kept events number

-- the nodes of a cluster, in order of number, as they are after events
pub record AreNodes (config : Shape) (kept : KeptLists) (events : List Event) (nodes : List MemoryNode) : Type 0 where
  pub all : length nodes ≡ nodes_of config
  pub each : (number : ℕ) (node : MemoryNode) → slice_get nodes number ≡ Some node → IsNode config kept events number node
