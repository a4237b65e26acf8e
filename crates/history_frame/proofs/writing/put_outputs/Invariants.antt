use Rattle.std.proofs.Common.{◌≡◌, ◌++◌, drop}
use Rattle.std.specs.List.{flat_map, AllByRecursion}
use Rattle.history_frame.specs.Spelling.{IsSent, sent_spelling}
use Rattle.history_frame.specs.Writing.{Extends}
use Rattle.history_frame.proofs.writing.put_outputs.Given as goal

-- what is there and the outputs left are what was there and all of them
abbrev pub invariant-loop-sent : goal.invariant-loop-sent
invariant-loop-sent l = record {
  each : AllByRecursion IsSent (drop l.sent-index l.outputs);
  items : l.out.items ++ flat_map sent_spelling (drop l.sent-index l.outputs) ≡ l.initial.out.items ++ flat_map sent_spelling l.outputs;
  extends : Extends l.initial.out.items l.out.items;
}
