use Rattle.std.proofs.Common.{◌≡◌, ◌+◌, ◌≤◌, ◌++◌, length, map, vec_len, vec_capacity}
use Rattle.std.specs.Vec.Iter.{into_iter_items}
use Rattle.history_frame.specs.Merging.{event_at}
use Rattle.history_frame.proofs.merging.put_list.Given as goal

-- what is there and the events left are what was there and all events
abbrev pub invariant-loop-committed : goal.invariant-loop-committed
invariant-loop-committed l = record {
  items : l.out.items ++ map (event_at l.node.0) (into_iter_items l.committed-iterator) ≡ l.initial.out.items ++ map (event_at l.node.0) (into_iter_items l.initial.committed-iterator);
  len : vec_len l.out + length (into_iter_items l.committed-iterator) ≡ vec_len l.initial.out + length (into_iter_items l.initial.committed-iterator);
  capacity : vec_capacity l.initial.out ≤ vec_capacity l.out;
}
