use Rattle.std.proofs.Common.{◌≡◌, ◌≤◌, ◌-◌}
use Rattle.log_base.specs.Shape.{shape}
use Rattle.node_model.specs.StorageNode.{member_of}
use Rattle.node_model.specs.StorageRow.{copies}
use Rattle.peer_copy.specs.Copying.{offsets_from}
use Rattle.shard_replica.specs.Replica.{own_entries}
use Rattle.storage_node.specs.Preparing.{Makes, stock}
use Rattle.storage_node.proofs.copies.make_copies.Given as goal

-- the copies up to the offset are made
abbrev pub invariant-loop-offset : goal.invariant-loop-offset
invariant-loop-offset g l = record {
  made : Makes (copies (shape l.seat.config) (member_of (shape l.seat.config) l.seat.shard.0 l.seat.own.0) (own_entries l.replica.state) l.fn.peer.0 (offsets_from l.fn.span.from (l.offset - l.fn.span.from)))
      (stock l.initial.made.letters l.initial.made.copies.items l.initial.out.rooms) (stock l.made.letters l.made.copies.items l.out.rooms);
  sent : l.made.letters.sent ≡ l.initial.made.letters.sent;
  out : l.out.letters ≡ l.initial.out.letters;
  reach : l.offset - l.fn.span.from ≤ l.fn.span.to - l.fn.span.from;
}
