use Rattle.std.proofs.Common.{◌≡◌, ◌-◌, ◌≤◌, length}
use Rattle.history_frame.specs.ReplyReading.{plain_entries_at}
use Rattle.history_frame.proofs.Loops.{with_front}
use Rattle.history_frame.proofs.reply_reading.read_plain_entries.Given as goal

-- the entries so far and what is still read are what is read of all
abbrev pub invariant-loop-i : goal.invariant-loop-i
invariant-loop-i l = record {
  read : with_front l.entries.items (plain_entries_at (l.count - l.i) l.bytes l.place) ≡ plain_entries_at l.count l.bytes l.at;
  within : l.place ≤ length l.bytes;
}
