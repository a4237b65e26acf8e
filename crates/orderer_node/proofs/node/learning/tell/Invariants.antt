use Rattle.std.proofs.Common.{◌≡◌, ◌+◌, ◌-◌, ◌++◌, length, map, take, replicate}
use Rattle.event_letters.specs.Letters.{HasSpace}
use Rattle.node_model.specs.Machine.{posted}
use Rattle.orderer_node.specs.Announcing.{decides}
use Rattle.orderer_node.proofs.node.learning.tell.Given as goal

-- so many values were told, and there is room for the others
abbrev pub invariant-loop-value : goal.invariant-loop-value
invariant-loop-value l = record {
  slot : l.slot ≡ l.fn.from.0 + l.value-index;
  sent : l.letters.sent ≡ l.fn.letters.sent ++ decides l.node.0 l.fn.from.0 (take l.value-index l.values);
  posted : l.out.letters ≡ l.fn.out.letters ++ map posted (decides l.node.0 l.fn.from.0 (take l.value-index l.values));
  space : HasSpace l.letters l.out.rooms (replicate (length l.values - l.value-index) 143);
}
