use Rattle.std.proofs.Common.{◌≡◌}
use Rattle.log_base.specs.Shape.{shape}
use Rattle.node_model.specs.StorageNode.{member_of}
use Rattle.node_model.specs.StorageRow.{windows}
use Rattle.shard_replica.specs.Replica.{own_entries}
use Rattle.storage_node.specs.Preparing.{Makes, stock}
use Rattle.storage_node.proofs.copies.make_windows.Given as goal

-- the copies to the replicas so far are made
abbrev pub invariant-loop-peer : goal.invariant-loop-peer
invariant-loop-peer g l = record {
  made : Makes (windows (shape l.seat.config) (member_of (shape l.seat.config) l.seat.shard.0 l.seat.own.0) (own_entries l.replica.state) l.replica.state.copying 0 l.peer)
      (stock l.initial.made.letters l.initial.made.copies.items l.initial.out.rooms) (stock l.made.letters l.made.copies.items l.out.rooms);
  sent : l.made.letters.sent ≡ l.initial.made.letters.sent;
  out : l.out.letters ≡ l.initial.out.letters;
}
