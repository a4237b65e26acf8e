use Rattle.std.proofs.Common.{◌≡◌, ◌+◌, length, drop}
use Rattle.std.specs.List.{flat_map, AllByRecursion}
use Rattle.reply_frame.specs.Replies.{IsShort, entry_bytes}
use Rattle.reply_frame.proofs.entry_writing.entries_length.Given as goal

-- the length so far and that of the entries left are that of all
abbrev pub invariant-loop-entry : goal.invariant-loop-entry
invariant-loop-entry l = record {
  short : AllByRecursion IsShort (drop l.entry-index l.entries);
  length_so_far : l.length + length (flat_map entry_bytes (drop l.entry-index l.entries)) ≡ length (flat_map entry_bytes l.entries);
}
