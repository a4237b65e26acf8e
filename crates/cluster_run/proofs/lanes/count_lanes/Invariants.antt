use Rattle.std.proofs.Common.{◌≡◌, ◌<◌, ◌≤◌, ◌⊎◌, ◌+◌, ℕ, get_or}
use Rattle.cluster_run.proofs.lanes.count_lanes.Given as goal

-- as many lanes as the greatest so far tells
abbrev pub invariant-loop-lane : goal.invariant-loop-lane
invariant-loop-lane l = record {
  few : l.count ≤ 64;
  within : (k : ℕ) → k < l.lane-index → get_or l.lanes k 0 < l.count;
  least : (l.count ≡ 0) ⊎ ((k : ℕ) × (k < l.lane-index) × (l.count ≡ get_or l.lanes k 0 + 1));
}
