use Rattle.std.proofs.Common.{vec_len}
use Rattle.cluster.proofs.counts.+count_all.Given as goal

abbrev pub decreases-count_all : goal.decreases-count_all
decreases-count_all g l = vec_len l.nodes.now
