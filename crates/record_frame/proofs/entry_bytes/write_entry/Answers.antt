use Rattle.std.proofs.Common.{arith}
use Rattle.record_frame.specs.Entries.{entry_of}
use Rattle.record_frame.proofs.EntryLaws.{length-entry_spelling}
use Rattle.record_frame.proofs.entry_bytes.write_entry.Goals as goal

pub returns-in_err-reserve-clause-room : goal.returns-in_err-reserve-clause-room
returns-in_err-reserve-clause-room c = λ room.
    absurd (omega (arith, c.in_err-reserve.ensures.full, length-entry_spelling (entry_of c.args.client c.args.number c.args.bytes.now)))

pub put_entry-requires-clause-room : goal.put_entry-requires-clause-room
put_entry-requires-clause-room c = omega (arith, c.in_ok-reserve.ensures.ok, c.in_ok-reserve.ensures.len)
