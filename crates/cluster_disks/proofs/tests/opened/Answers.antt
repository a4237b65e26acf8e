use Rattle.std.proofs.Common.{arith}
use Rattle.log_base.specs.Shape.{shape}
use Rattle.cluster_disks.proofs.Started.{all_stand}
use Rattle.cluster_disks.proofs.tests.opened.Goals as goal

-- there are as many nodes as the cluster has
pub close_nodes-requires-clause-few : goal.close_nodes-requires-clause-few
close_nodes-requires-clause-few c κs =
    let all = all_stand (shape c.in_ok-config.config) c.in-Ok.opened.kept.items c.in-Ok.opened.nodes.items c.in-Ok.ensures.start.stand in
    omega arith

-- a disk of a node is one of the cluster, which are lent
pub close_nodes-requires-clause-lent : goal.close_nodes-requires-clause-lent
close_nodes-requires-clause-lent c κs number is =
    let all = all_stand (shape c.in_ok-config.config) c.in-Ok.opened.kept.items c.in-Ok.opened.nodes.items c.in-Ok.ensures.start.stand in
    c.in-Ok.ensures.lent number (is.0, (let lt = is.1 in omega arith), is.2)
