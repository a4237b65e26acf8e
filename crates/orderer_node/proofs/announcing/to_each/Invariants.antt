use Rattle.std.proofs.Common.{◌≡◌, ℕ, ◌+◌, ◌-◌, ◌++◌, map, replicate}
use Rattle.event_letters.specs.Letters.{HasSpace}
use Rattle.node_model.specs.Machine.{posted}
use Rattle.node_model.specs.Nodes.{to_nodes}
use Rattle.orderer_node.specs.Announcing.{message_of}
use Rattle.orderer_node.proofs.announcing.to_each.Given as goal

-- so many nodes were told, and there is room for the others
abbrev pub invariant-loop-node : goal.invariant-loop-node
invariant-loop-node l = record {
  sent : l.letters.sent ≡ l.fn.letters.sent ++ to_nodes l.first l.node (message_of l.what);
  posted : l.out.letters ≡ l.fn.out.letters ++ map posted (to_nodes l.first l.node (message_of l.what));
  space : (more : ℕ) → HasSpace l.fn.letters l.fn.out.rooms (replicate (l.count + more) 143) → HasSpace l.letters l.out.rooms (replicate (l.count - l.node + more) 143);
}
