-- How long the messages of a storage node are.
use Rattle.std.proofs.Common.{◌≡◌, ℕ, ◌+◌, ◌*◌, ◌≤◌, List, ◌∷◌, length, ap, arith, length-append}
use Rattle.log_base.specs.Wide.{be2, be4}
use Rattle.log_base.proofs.Wide.{length-be2, length-be4}
use Rattle.event_letters.specs.Letters.{message_length}
use Rattle.log_model.specs.Storage.{IsSpelled, entry_in}
use Rattle.node_model.specs.Messages.{copied_message, copy_message, report_message, want_message}
use Rattle.record_frame.specs.declared.values.Lengths.{Lengths}
use Rattle.record_frame.specs.Entries.{entry_spelling}
use Rattle.record_frame.specs.Values.{IsLengths, lengths_spelling}
use Rattle.record_frame.proofs.EntryLaws.{length-entry_spelling}
use Rattle.record_frame.proofs.LengthLaws.{length-lengths_spelling}

pub ack-length : (peer held : ℕ) → message_length (copied_message peer held) ≤ 6
ack-length peer held = omega (arith, length-be4 held)

pub report-length : (shard replica : ℕ) (lengths : Lengths) → IsLengths 5 lengths → message_length (report_message shard replica lengths) ≤ 25
report-length shard replica lengths is =
    let size : length (lengths_spelling lengths) ≡ 1 + 4 * lengths.count = length-lengths_spelling lengths (omega (arith, is.count, is.cells)) in
    omega (arith, length-append (be2 shard) (replica ∷ lengths_spelling lengths), length-be2 shard, size, is.count)

pub want-length : (slot node : ℕ) → message_length (want_message slot node) ≤ 7
want-length slot node = omega (arith, length-append (be4 slot) (be2 node), length-be4 slot, length-be2 node)

pub copy-length : (segment offset : ℕ) (payload : List ℕ) → IsSpelled payload → message_length (copy_message segment offset (entry_in payload)) ≡ 6 + length payload
copy-length segment offset payload spelled =
    let size : length payload ≡ length (entry_spelling (entry_in payload)) = ap (λ (bytes : List ℕ). length bytes) spelled.spelling in
    omega (arith, length-append (be4 offset) (entry_spelling (entry_in payload)), length-be4 offset, size)

pub payload-length : (payload : List ℕ) → IsSpelled payload → length payload ≤ 65550
payload-length payload spelled =
    let size : length payload ≡ length (entry_spelling (entry_in payload)) = ap (λ (bytes : List ℕ). length bytes) spelled.spelling in
    omega (arith, size, length-entry_spelling (entry_in payload), spelled.entry.size)
