use Rattle.std.proofs.Common.{◌≡◌, ℕ, ◌*◌, [], length, slice_get, Some}
use Rattle.log_base.specs.Shape.{shape}
use Rattle.node_model.specs.Sound.{payloads_on}
use Rattle.node_table.specs.Numbering.{nodes_of}
use Rattle.history_walk.specs.Beginning.{AreLists, IsNode, MemoryNode}
use Rattle.history_walk.proofs.beginning.begin.Given as goal

abbrev pub invariant-loop-number : goal.invariant-loop-number
invariant-loop-number l = record {
  lists : AreLists l.journals.items (payloads_on l.fn.kept.items) (l.number * 8) (nodes_of (shape l.fn.config) * 8);
  all : length l.made.items ≡ l.number;
  each : (k : ℕ) (node : MemoryNode) → slice_get l.made.items k ≡ Some node → IsNode (shape l.fn.config) (payloads_on l.fn.kept.items) [] k node;
}
