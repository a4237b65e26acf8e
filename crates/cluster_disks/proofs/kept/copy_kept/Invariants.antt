use Rattle.std.proofs.Common.{take, ◌≡◌, ◌≤◌}
use Rattle.std.specs.List.{AllByRecursion}
use Rattle.history_frame.specs.Spelling.{IsKept}
use Rattle.cluster_disks.specs.Found.{bytes_in, kept_in, kept_limit}
use Rattle.cluster_disks.proofs.kept.copy_kept.Given as goal

-- the payloads of the nodes so far are copied, and counted
abbrev pub invariant-loop-node : goal.invariant-loop-node
invariant-loop-node g l = record {
  copied : l.kept.items ≡ kept_in 0 (take l.node l.nodes);
  count : l.total ≡ bytes_in l.kept.items;
  few : l.total ≤ kept_limit;
  fit : AllByRecursion IsKept (kept_in 0 (take l.node l.nodes));
}
