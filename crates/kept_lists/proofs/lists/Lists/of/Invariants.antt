use Rattle.std.proofs.Common.{◌≡◌, ℕ, ◌<◌, get_or, length}
use Rattle.kept_lists.specs.Starts.{AreBelow, IsStart}
use Rattle.kept_lists.proofs.lists.Lists.of.Given as goal

-- the starts so far
abbrev pub invariant-loop-disk : goal.invariant-loop-disk
invariant-loop-disk l = record {
  cells : length l.starts ≡ 345;
  below : AreBelow l.kept l.disk l.start;
  starts : (disk : ℕ) → disk < l.disk → IsStart l.kept disk (get_or l.starts disk 0);
}
