use Rattle.std.proofs.Common.{arith}
use Rattle.log_base.specs.Wide.{be2, be4}
use Rattle.message_frame.proofs.Sizes.{length-message_spelling}
use Rattle.history_frame.proofs.lengths.sent_length.Goals as goal

pub returns : goal.returns
unfolding be2 be4
returns c = omega (arith, length-message_spelling c.args.sent.now.message c.requires.sent, c.message_length.ensures)
