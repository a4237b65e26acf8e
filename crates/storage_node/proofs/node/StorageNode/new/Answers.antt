use Rattle.log_base.specs.Shape.{shape}
use Rattle.storage_node.proofs.Sounding.{storage-new}
use Rattle.storage_node.proofs.node.StorageNode.new.Goals as goal

pub invariant_of-result : goal.invariant_of-result
invariant_of-result g c =
    storage-new g.J.Journal.state c.args.journals.items (shape c.args.config) c.args.shard.0 c.args.replica.0 c.in-Ok.replica.state c.new-2.result.letters.sent
    c.requires.journals c.requires.records c.requires.flights c.in-Ok.ensures.state c.new-2.ensures.sent
