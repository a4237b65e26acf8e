use Rattle.std.proofs.Common.{arith}
use Rattle.message_frame.proofs.Sizes.{length-message_spelling}
use Rattle.message_frame.proofs.writing.encode.Goals as goal

pub returns-in_err-reserve-clause-room : goal.returns-in_err-reserve-clause-room
returns-in_err-reserve-clause-room c = λ room.
    absurd (omega (arith, c.in_err-reserve.ensures.full, length-message_spelling c.args.message.now c.requires))
