use Rattle.std.proofs.Common.{replicate, Some, subst}
use Rattle.event_letters.specs.Letters.{HasSpace}
use Rattle.history_frame.specs.declared.inputs.Input.{Input}
use Rattle.history_frame.specs.declared.inputs.Input.TheVariants.{Deliver}
use Rattle.message_frame.specs.declared.messages.Message.{Message}
use Rattle.orderer_node.specs.Ordering.{letter_count, letter_limit}
use Rattle.orderer_node.proofs.node.OrdererNode.deliver.Goals as goal

pub give-requires-clause-space : goal.give-requires-clause-space
give-requires-clause-space g c =
    subst (λ (m : Message). let input : Input = Deliver 0 0 (Some m) in
    HasSpace c.args.letters.now c.args.out.now.rooms (replicate (letter_count c.args.self.now.memory.config c.args.self.now.memory.orderer.known input) (letter_limit input))) c.in-Want.is c.requires.ready.space
