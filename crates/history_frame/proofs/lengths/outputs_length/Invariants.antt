use Rattle.std.proofs.Common.{◌≡◌, ◌+◌, length, drop}
use Rattle.std.specs.List.{flat_map, AllByRecursion}
use Rattle.history_frame.specs.Spelling.{IsSent, sent_spelling}
use Rattle.history_frame.proofs.lengths.outputs_length.Given as goal

-- the length so far and that of the outputs left are that of all
abbrev pub invariant-loop-sent : goal.invariant-loop-sent
invariant-loop-sent l = record {
  outputs : AllByRecursion IsSent (drop l.sent-index l.outputs);
  length_so_far : l.length + length (flat_map sent_spelling (drop l.sent-index l.outputs)) ≡ length (flat_map sent_spelling l.outputs);
}
