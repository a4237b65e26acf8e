-- The replies of the log have a spelling.
use Rattle.std.proofs.Common.{◌≡◌, ◌+◌, length, length-append, arith}
use Rattle.log_base.specs.Wide.{be8}
use Rattle.log_base.proofs.Wide.{length-be2, length-be4, length-be8}
use Rattle.log_base.specs.declared.numbers.Position.{Position}
use Rattle.log_base.specs.declared.numbers.Slot.{Slot}
use Rattle.record_frame.specs.declared.entries.Entry.{Entry}
use Rattle.reply_frame.specs.declared.replies.Reply.{Found, PendingRead, Settled}
use Rattle.reply_frame.specs.Replies.{HasSpelling, IsShort, entry_bytes}

pub settled_spelling : (slot : Slot) → HasSpelling (Settled slot)
settled_spelling slot = (tt, omega (arith, length-be4 slot.0))

pub pending_spelling : (end : Position) → HasSpelling (PendingRead end)
pending_spelling end = (tt, omega (arith, length-be8 end.0))

-- An entry takes 14 bytes more than its record.
length-entry_bytes : (entry : Entry) → length (entry_bytes entry) ≡ 14 + length entry.bytes
length-entry_bytes entry =
    simp (length-append, length-be2, length-be4, length-be8) (omega arith)

pub found_spelling : (position : Position) (entry : Entry) → IsShort entry → HasSpelling (Found position entry)
found_spelling position entry short =
    let all = length-append (be8 position.0) (entry_bytes entry) in
    (short, omega (arith, all, length-be8 position.0, length-entry_bytes entry))
