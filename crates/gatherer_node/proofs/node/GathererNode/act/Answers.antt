use Rattle.std.proofs.Common.{refl, rules}
use Rattle.reply_frame.specs.declared.replies.Reply.{Nothing}
use Rattle.history_frame.specs.declared.events.Happened.{Happened}
use Rattle.gatherer_node.proofs.EventSizes.{event_short}
use Rattle.gatherer_node.proofs.node.GathererNode.act.Goals as goal

pub returns-clause-size : goal.returns-clause-size
returns-clause-size c =
    let made : Happened = record { input = c.args.input.now; mark = c.take-mark.result; outputs = c.take-outputs.result; reply = Nothing } in
    event_short made c.requires.fits.allowed.named (search rules) (search rules) refl
