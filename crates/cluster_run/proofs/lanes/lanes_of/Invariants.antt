use Rattle.std.proofs.Common.{◌≡◌, ◌≤◌, ◌++◌, drop, length, map, vec_capacity, vec_len}
use Rattle.lane_work.specs.Items.{lane_of}
use Rattle.cluster_run.proofs.lanes.lanes_of.Given as goal

-- the lanes of the items so far and those of the items left are those of all
abbrev pub invariant-loop-item : goal.invariant-loop-item
invariant-loop-item l = record {
  items : l.lanes.items ++ map lane_of (drop l.item-index l.items) ≡ map lane_of l.items;
  len : vec_len l.lanes ≡ l.item-index;
  room : length l.items ≤ vec_capacity l.lanes;
}
