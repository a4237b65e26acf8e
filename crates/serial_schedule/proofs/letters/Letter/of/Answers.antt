use Rattle.std.proofs.Common.{◌≡◌, ◌∙◌, ap, sym, subst, Ok}
use Rattle.message_frame.specs.declared.messages.Message.{Message}
use Rattle.message_frame.specs.Reading.{message_of}
use Rattle.message_frame.proofs.MessageLaws.{all_again}
use Rattle.serial_schedule.specs.Letters.{AreRead, message_read}
use Rattle.schedule_model.specs.Scheduling.{Waiting}
use Rattle.serial_schedule.proofs.letters.Letter.of.Goals as goal

pub invariant_of-result : goal.invariant_of-result
invariant_of-result c =
    let read : message_of c.args.bytes.items ≡ Ok c.args.sent.now.message = ap message_of c.requires.bytes ∙ all_again c.args.sent.now.message c.requires.message in
    subst AreRead (sym read) tt

pub returns : goal.returns
returns c =
    let read : message_of c.args.bytes.items ≡ Ok c.args.sent.now.message = ap message_of c.requires.bytes ∙ all_again c.args.sent.now.message c.requires.message in
    let waits : Message → Waiting = λ (message : Message). record { place = c.args.place; index = c.args.index; sent = record { to = c.args.sent.now.to; message = message } } in
    ap waits (ap message_read read)
