use Rattle.std.proofs.Common.{take}
use Rattle.shard_replica.specs.Index.{Indexes}
use Rattle.shard_replica.specs.Lists.{segment_at}
use Rattle.shard_replica.proofs.indexed.note_all.Given as goal

abbrev pub invariant-loop-offset : goal.invariant-loop-offset
invariant-loop-offset g l = Indexes l.pairs (take l.offset (segment_at l.lists.segments l.own.0).entries)
