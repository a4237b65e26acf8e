use Rattle.std.proofs.Common.{◌≡◌, ℕ, ◌-◌, List, ◌++◌, map, replicate}
use Rattle.event_letters.specs.Letters.{HasSpace, message_length, parcel}
use Rattle.log_base.specs.Shape.{shape}
use Rattle.node_model.specs.Messages.{least_message}
use Rattle.node_model.specs.Nodes.{before_orderers, to_nodes}
use Rattle.gatherer_node.proofs.sending.send_least.Given as goal

-- the letters to the orderers so far are sent, and there is room for the others
abbrev pub invariant-loop-index : goal.invariant-loop-index
invariant-loop-index l = record {
  sent : l.letters.sent ≡ l.fn.letters.sent ++ to_nodes (before_orderers (shape l.config)) l.index (least_message l.shard.0 l.lengths);
  letters : l.out.letters ≡ l.fn.out.letters ++ map parcel (to_nodes (before_orderers (shape l.config)) l.index (least_message l.shard.0 l.lengths));
  space : (sizes : List ℕ)
      → HasSpace l.fn.letters l.fn.out.rooms (replicate (shape l.config).orderers (message_length (least_message l.shard.0 l.lengths)) ++ sizes)
      → HasSpace l.letters l.out.rooms (replicate ((shape l.config).orderers - l.index) (message_length (least_message l.shard.0 l.lengths)) ++ sizes);
}
