use Rattle.segment_journal.specs.File.{framed}
use Rattle.segment_journal.proofs.Crash as crash
use Rattle.segment_journal.proofs.laws.gates_part_puts.Goals as goal

pub returns-clause-behind : goal.returns-clause-behind
returns-clause-behind c = crash.torn-behind

pub returns-clause-gate : goal.returns-clause-gate
returns-clause-gate c = λ payloads payload old new held torn.
    crash.torn-gate payloads payload _ new (crash.written-behind payloads (framed payload) old held) torn
