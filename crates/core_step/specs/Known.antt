-- What a node says of itself: whether it is down, and what it knows.
use Rattle.std.specs.Prelude.{ℕ, length, [], Bool, true, false}
use Rattle.log_base.specs.ClusterShape.{Shape}
use Rattle.log_model.specs.Chain.{ChainState, chain_of}
use Rattle.log_model.specs.Storage.{Knowledge}
use Rattle.node_model.specs.Marks.{Mode, Running, Stopped}
use Rattle.node_model.specs.NodeState.{NodeState, Storing, Gathering, Ordering}
use Rattle.node_model.specs.OrdererNode.{known_of}
use Rattle.node_model.specs.StorageNode.{StorageMode}

abbrev pub is_stopped : {P K M : Type 0} → Mode P K M → Bool
is_stopped (Stopped flight known) = true
is_stopped (Running memory) = false

abbrev pub is_down : NodeState → Bool
is_down (Storing node) = is_stopped node.mode
is_down (Gathering node) = is_stopped node.mode
is_down (Ordering node) = is_stopped node.mode

-- what a storage node knows, up or down
abbrev pub knowledge_in : StorageMode → Knowledge
knowledge_in (Stopped flight known) = known
knowledge_in (Running memory) = memory.known

-- how many values a node knows; a gatherer knows none
abbrev pub known_count : NodeState → ℕ
known_count (Storing node) = (knowledge_in node.mode).count
known_count (Gathering node) = 0
known_count (Ordering node) = length (known_of node.mode)

-- the chain of the known values
abbrev pub known_chain : Shape → NodeState → ChainState
known_chain config (Storing node) = (knowledge_in node.mode).chain
known_chain config (Gathering node) = chain_of config.replicas []
known_chain config (Ordering node) = chain_of config.replicas (known_of node.mode)
