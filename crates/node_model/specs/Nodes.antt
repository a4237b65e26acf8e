-- Who is who: storage nodes come first, then gatherers, then orderers. And letters to many.
use Rattle.std.specs.Prelude.{ℕ, zero, suc, ◌+◌, ◌-◌, ◌*◌, List, [], ◌∷◌, ◌++◌, ◌&&◌, nat_lt, nat_le, if◌then◌else◌, Option, Some, None}
use Rattle.history_frame.specs.declared.events.Sent.{Sent}
use Rattle.log_base.specs.ClusterShape.{Shape}
use Rattle.message_frame.specs.declared.messages.Message.{Message}
use Rattle.node_table.specs.Numbering.{orderer_node}

-- how many storage nodes there are, and how many nodes stand before the orderers
abbrev pub storage_nodes : Shape → ℕ
storage_nodes shape = shape.replicas * shape.shards

abbrev pub before_orderers : Shape → ℕ
before_orderers shape = storage_nodes shape + shape.gatherers

-- which orderer a node is, if it is one
abbrev pub orderer_of : Shape → ℕ → Option ℕ
orderer_of shape node =
    if nat_le (before_orderers shape) node && nat_lt node (before_orderers shape + shape.orderers)
    then Some (node - before_orderers shape) else None

-- a letter to a node
abbrev pub letter : ℕ → Message → Sent
letter node message = record { to = record { 0 = node }; message = message }

-- the same message to so many nodes from one on
abbrev pub to_nodes : ℕ → ℕ → Message → List Sent
to_nodes node zero message = []
to_nodes node (suc count) message = letter node message ∷ to_nodes (suc node) count message

-- to every orderer
unfoldable pub to_orderers : Shape → Message → List Sent
to_orderers shape message = to_nodes (before_orderers shape) shape.orderers message

-- to every storage node, and to every orderer but one
unfoldable pub to_learners : Shape → ℕ → Message → List Sent
to_learners shape orderer message =
    to_nodes 0 (storage_nodes shape) message
    ++ to_nodes (before_orderers shape) orderer message
    ++ to_nodes (orderer_node shape (suc orderer)) (shape.orderers - suc orderer) message
