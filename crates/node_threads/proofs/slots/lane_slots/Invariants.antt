use Rattle.std.proofs.Common.{◌≡◌, ◌+◌, ◌≤◌, ◌++◌, length, map, vec_len, vec_capacity}
use Rattle.std.specs.Vec.Iter.{into_iter_items}
use Rattle.node_threads.specs.Runs.{fresh_lane}
use Rattle.node_threads.proofs.slots.lane_slots.Given as goal

-- the slots that are there and those of the lanes left are those of all lanes
abbrev pub invariant-loop-lane : goal.invariant-loop-lane
invariant-loop-lane g l = record {
  items : l.slots.items ++ map fresh_lane (into_iter_items l.lane-iterator) ≡ map fresh_lane (into_iter_items l.initial.lane-iterator);
  len : vec_len l.slots + length (into_iter_items l.lane-iterator) ≡ length (into_iter_items l.initial.lane-iterator);
  capacity : vec_capacity l.initial.slots ≤ vec_capacity l.slots;
}
