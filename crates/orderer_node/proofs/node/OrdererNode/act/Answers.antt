use Rattle.std.proofs.Common.{List, sym, subst}
use Rattle.history_frame.specs.declared.events.Happened.{Happened}
use Rattle.history_frame.specs.declared.events.Sent.{Sent}
use Rattle.orderer_node.specs.Announcing.{AreSmall}
use Rattle.orderer_node.proofs.EventSizes.{event_short}
use Rattle.orderer_node.proofs.node.OrdererNode.act.Goals as goal

pub returns-clause-size : goal.returns-clause-size
returns-clause-size g c =
    let small = subst (λ (l : List Sent). AreSmall 64 l) (sym c.take-outputs.ensures.letters) c.take-turn.ensures.small in
    let made : Happened = record { input = c.args.input.now; mark = c.take-turn.result.mark; outputs = c.take-outputs.result; reply = c.take-turn.result.reply } in
    event_short c.args.self.now.memory.config made c.requires.fits.allowed.named c.requires.fits.allowed.range small c.take-turn.ensures.own
