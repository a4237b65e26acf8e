use Rattle.std.proofs.Common.{◌≡◌, ◌≤◌}
use Rattle.std.specs.Prelude.{vec_capacity, vec_len}
use Rattle.serial_schedule.specs.Lanes.{fresh_lanes}
use Rattle.serial_schedule.proofs.lanes.fresh_lanes.Given as goal

abbrev pub invariant-loop-lane : goal.invariant-loop-lane
invariant-loop-lane l = record {
  items : l.lanes.items ≡ fresh_lanes l.run l.lane;
  len : vec_len l.lanes ≡ l.lane;
  room : 64 ≤ vec_capacity l.lanes;
}
