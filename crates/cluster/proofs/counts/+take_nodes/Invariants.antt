use Rattle.std.proofs.Common.{vec_len}
use Rattle.cluster.proofs.counts.+take_nodes.Given as goal

abbrev pub decreases-take_nodes : goal.decreases-take_nodes
decreases-take_nodes g l = vec_len l.counted.now
