use Rattle.std.proofs.Common.{◌≡◌, ◌++◌, List, ℕ, length, ap, ◌∙◌, arith}
use Rattle.record_frame.specs.Entries.{entry_of, entry_spelling}
use Rattle.record_frame.proofs.EntryLaws.{length-entry_spelling}
use Rattle.message_frame.proofs.Sizes.{at_ok}
use Rattle.message_frame.proofs.field_writing.put_entry.Goals as goal

pub returns-clause-items : goal.returns-clause-items
returns-clause-items c =
    let entry = entry_of c.args.entry.now.client c.args.entry.now.number c.get.result.now in
    let room = c.write_entry.ensures.room (omega (arith, c.requires.room, length-entry_spelling entry, ap length c.get.ensures)) in
    at_ok c.write_entry.result (c.write_entry.new.out.items ≡ c.args.out.now.items ++ entry_spelling entry) c.write_entry.ensures.ok room
    ∙ ap (λ (bytes : List ℕ). c.args.out.now.items ++ entry_spelling (entry_of c.args.entry.now.client c.args.entry.now.number bytes)) c.get.ensures
