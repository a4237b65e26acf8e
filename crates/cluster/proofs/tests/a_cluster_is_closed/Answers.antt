use Rattle.log_base.specs.Shape.{shape}
use Rattle.node_model.specs.Sound.{payloads_on}
use Rattle.cluster.proofs.Begins.{all_back, passes_back}
use Rattle.cluster.proofs.tests.a_cluster_is_closed.Goals as goal

pub close-requires-clause-all : goal.close-requires-clause-all
close-requires-clause-all g c =
    let cluster = c.in_ok-cluster.cluster in let passes = c.in_ok-cluster.passes in
    all_back (shape cluster.config) cluster.run (payloads_on cluster.kept) cluster.cells.table.shared.table_id (λ p. p.seat) (λ p. p.account) (λ p. p.number_is) passes.items
    c.in_ok-cluster.ensures.passes cluster.cells.table.shared.key.passes c.in_ok-cluster.ensures.count

pub close-requires-clause-passes : goal.close-requires-clause-passes
close-requires-clause-passes g c =
    let cluster = c.in_ok-cluster.cluster in let passes = c.in_ok-cluster.passes in
    passes_back (shape cluster.config) cluster.run (payloads_on cluster.kept) cluster.cells.table.shared.table_id (λ p. p.seat) (λ p. p.account) (λ p. p.number_is) passes.items
    c.in_ok-cluster.ensures.passes
