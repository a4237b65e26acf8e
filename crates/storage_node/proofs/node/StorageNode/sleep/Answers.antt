use Rattle.std.proofs.Common.{◌∙◌}
use Rattle.storage_node.proofs.Sleeping.{turns-slept}
use Rattle.storage_node.proofs.node.StorageNode.sleep.Goals as goal

pub returns-clause-turn : goal.returns-clause-turn
returns-clause-turn g c =
    turns-slept c.args.self.now c.args.input.now c.silent.result c.requires.down c.requires.named c.requires.other.0 c.requires.other.1
    c.silent.ensures.mark c.silent.ensures.outputs (c.silent.ensures.reply ∙ c.reply_when_down.ensures)
