use Rattle.std.proofs.Common.{◌≡◌, ◌-◌, ◌<◌, length, take}
use Rattle.segment_journal.specs.Journalled.{AllPayloads}
use Rattle.segment_journal.specs.File.{spelled}
use Rattle.segment_journal.proofs.reading.take_payloads.Given as goal

abbrev pub invariant-gates : goal.invariant-gates
invariant-gates l = (l.at < length l.bytes) × (take l.at l.bytes ≡ spelled l.list.list) × AllPayloads l.list.list

abbrev pub decreases-gates : goal.decreases-gates
decreases-gates l = length l.bytes - l.at
