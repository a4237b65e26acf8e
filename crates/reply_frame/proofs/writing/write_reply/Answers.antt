use Rattle.std.proofs.Common.{arith}
use Rattle.reply_frame.proofs.Puts.{length-reply_spelling}
use Rattle.reply_frame.proofs.writing.write_reply.Goals as goal

-- room for the bytes of the frame was asked for, and only where it was missing is memory wanted
pub returns-in_err-reserve-clause-room : goal.returns-in_err-reserve-clause-room
returns-in_err-reserve-clause-room c room =
    let size = length-reply_spelling c.args.lane c.args.reply.now in
    absurd (omega (arith, c.in_err-reserve.ensures.full))
