use Rattle.std.proofs.Common.{◌≡◌, ℕ, ◌+◌, ◌*◌, ◌<◌, ◌≤◌, length, slice_get}
use Rattle.history_walk.proofs.lists.take_lists.Given as goal

abbrev pub invariant-loop-segment : goal.invariant-loop-segment
invariant-loop-segment l = record {
  all : length l.taken.items ≡ l.segment;
  taken : (k : ℕ) → k < l.segment → slice_get l.taken.items k ≡ slice_get l.initial.journals.items (l.node.0 * 8 + k);
  count : length l.journals.items ≡ length l.initial.journals.items;
  rest : (k : ℕ) → l.node.0 * 8 + l.segment ≤ k → slice_get l.journals.items k ≡ slice_get l.initial.journals.items k;
}
