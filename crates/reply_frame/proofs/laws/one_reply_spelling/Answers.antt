use Rattle.reply_frame.proofs.FrameLaws.{one_reply_frame}
use Rattle.reply_frame.proofs.ReplyLaws.{one_reply}
use Rattle.reply_frame.proofs.laws.one_reply_spelling.Goals as goal

pub returns : goal.returns
returns c = record { reply = one_reply; frame = one_reply_frame }
