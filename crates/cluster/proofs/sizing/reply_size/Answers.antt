use Rattle.std.proofs.Common.{◌+◌, length, ap, sym, ◌∙◌}
use Rattle.reply_frame.specs.Replies.{reply_bytes}
use Rattle.cluster.proofs.Sizes.{found_size}
use Rattle.cluster.proofs.sizing.reply_size.Goals as goal

pub returns-in-Found : goal.returns-in-Found
returns-in-Found c = ap (λ bytes. 23 + length bytes) c.get.ensures ∙ (sym (found_size c.in-Found.position c.in-Found.entry) ∙ ap (λ reply. length (reply_bytes reply)) (sym c.in-Found.is))
