use Rattle.std.proofs.Common.{◌≡◌, ◌+◌, ◌≤◌, ◌++◌, length, vec_len, vec_capacity}
use Rattle.std.specs.Vec.Iter.{into_iter_items}
use Rattle.history_frame.specs.Merging.{events_from}
use Rattle.history_frame.proofs.merging.put_lists.Given as goal

-- what is there and the events left are what was there and all events
abbrev pub invariant-loop-list : goal.invariant-loop-list
invariant-loop-list l = record {
  items : l.out.items ++ events_from l.node (into_iter_items l.list-iterator) ≡ l.initial.out.items ++ events_from 0 (into_iter_items l.initial.list-iterator);
  room : vec_len l.out + length (events_from l.node (into_iter_items l.list-iterator)) ≤ vec_capacity l.out;
  count : l.node + length (into_iter_items l.list-iterator) ≡ length (into_iter_items l.initial.list-iterator);
}
