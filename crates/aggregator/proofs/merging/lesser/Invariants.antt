use Rattle.std.proofs.Common.{◌≡◌, ℕ, ◌<◌, ◌≤◌, min, get_or, length}
use Rattle.aggregator.proofs.merging.lesser.Given as goal

-- the segments so far are merged, and the others as they were
abbrev pub invariant-loop-segment : goal.invariant-loop-segment
invariant-loop-segment l = record {
  cells : (length l.length ≡ 32) × (length l.first.length ≡ 32) × (length l.second.length ≡ 32);
  merged : (k : ℕ) → k < l.segment → get_or l.length k 0 ≡ min (get_or l.first.length k 0) (get_or l.second.length k 0);
  others : (k : ℕ) → l.segment ≤ k → get_or l.length k 0 ≡ get_or l.first.length k 0;
}
