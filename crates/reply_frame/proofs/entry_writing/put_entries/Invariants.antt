use Rattle.std.proofs.Common.{◌≡◌, ◌+◌, ◌≤◌, ◌++◌, length, drop, vec_len, vec_capacity}
use Rattle.std.specs.List.{flat_map, AllByRecursion}
use Rattle.reply_frame.specs.Replies.{IsShort, entry_bytes}
use Rattle.reply_frame.proofs.entry_writing.put_entries.Given as goal

-- what is there and the entries left are what was there and all entries
abbrev pub invariant-loop-entry : goal.invariant-loop-entry
invariant-loop-entry l = record {
  short : AllByRecursion IsShort (drop l.entry-index l.entries);
  items : l.out.items ++ flat_map entry_bytes (drop l.entry-index l.entries) ≡ l.initial.out.items ++ flat_map entry_bytes l.entries;
  len : vec_len l.out + length (flat_map entry_bytes (drop l.entry-index l.entries)) ≡ vec_len l.initial.out + length (flat_map entry_bytes l.entries);
  capacity : vec_capacity l.initial.out ≤ vec_capacity l.out;
}
