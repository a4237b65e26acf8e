use Rattle.history_frame.specs.Effects.{happened}
use Rattle.storage_node.specs.StorageState.{config_of}
use Rattle.storage_node.proofs.EventSizes.{event-fits}
use Rattle.storage_node.proofs.node.StorageNode.act.Goals as goal

pub returns-clause-size : goal.returns-clause-size
returns-clause-size g c =
    event-fits (config_of c.args.self.now) (happened c.args.input.now c.turn.result) c.requires.fits.allowed.named c.requires.fits.allowed.range c.turn.ensures.turn.small
