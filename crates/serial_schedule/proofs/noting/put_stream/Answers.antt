use Rattle.std.proofs.Common.{ap, ◌∙◌}
use Rattle.subscriber.specs.Following.{Following}
use Rattle.serial_schedule.proofs.Placed.{pushed-stream}
use Rattle.serial_schedule.proofs.noting.put_stream.Goals as goal

-- what was taken is put behind the other replies
pub returns-clause-replies : goal.returns-clause-replies
returns-clause-replies c =
    pushed-stream c.args.replies.now.items c.push_reserved.new.self.items c.from-from.result c.of.result _ c.args.last.value c.args.subscriber.now
    c.push_reserved.ensures.items (c.from-from.ensures ∙ ap (λ (s : Following). s.from) c.replace-taken.ensures.value)
    (c.of.ensures ∙ c.into_delivered.ensures ∙ ap (λ (s : Following). s.delivered) c.replace-taken.ensures.value)
