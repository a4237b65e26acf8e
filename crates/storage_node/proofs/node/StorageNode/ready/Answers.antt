use Rattle.storage_node.proofs.Counting.{counts-roomed}
use Rattle.storage_node.proofs.node.StorageNode.ready.Goals as goal

pub returns-clause-counts : goal.returns-clause-counts
returns-clause-counts g c = counts-roomed _ _ c.prepare.ensures.same.media
