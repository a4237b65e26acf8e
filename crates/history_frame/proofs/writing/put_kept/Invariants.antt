use Rattle.std.proofs.Common.{◌≡◌, ◌++◌, drop}
use Rattle.std.specs.List.{flat_map, AllByRecursion}
use Rattle.history_frame.specs.Spelling.{IsKept, kept_spelling}
use Rattle.history_frame.specs.Writing.{Extends}
use Rattle.history_frame.proofs.writing.put_kept.Given as goal

-- what is there and the kept left are what was there and all of them
abbrev pub invariant-loop-payload : goal.invariant-loop-payload
invariant-loop-payload l = record {
  each : AllByRecursion IsKept (drop l.payload-index l.kept);
  items : l.out.items ++ flat_map kept_spelling (drop l.payload-index l.kept) ≡ l.initial.out.items ++ flat_map kept_spelling l.kept;
  extends : Extends l.initial.out.items l.out.items;
}
