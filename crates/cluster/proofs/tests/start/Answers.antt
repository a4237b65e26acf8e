use Rattle.std.proofs.Common.{ℕ, List, map, sym, ◌∙◌, subst}
use Rattle.std.proofs.lemmas.List.{length-map}
use Rattle.core_step.specs.Standing.{cluster_node}
use Rattle.counted_node.specs.Counted.{counted_node, node_in}
use Rattle.history_frame.specs.declared.events.Kept.{Kept}
use Rattle.log_base.specs.ClusterShape.{Shape}
use Rattle.log_base.specs.Shape.{shape}
use Rattle.node_model.specs.Sound.{payloads_on}
use Rattle.tied_cells.specs.Rule.{deal_of}
use Rattle.cluster.specs.Clusters.{IsBegun, IsPassOf}
use Rattle.cluster.proofs.Empty.{begins_empty}
use Rattle.cluster.proofs.tests.start.Goals as goal

pub start-requires-clause-begun : goal.start-requires-clause-begun
start-requires-clause-begun c =
    begins_empty (shape c.in_ok-config.config) 1 c.new.result.items (map (cluster_node (λ j. j.journal)) c.in_ok-nodes.nodes.items) c.new.ensures.items c.in_ok-nodes.ensures

pub returns-in-Ok-clause-begun : goal.returns-in-Ok-clause-begun
returns-in-Ok-clause-begun c =
    let same = c.in-Ok.ensures.cluster in
    subst (λ (x : Shape × ℕ × List Kept). IsBegun x.0 x.1 (payloads_on x.2) (map node_in (deal_of (counted_node (λ j. j.journal)) c.in-Ok.made.0.cells.table.shared.key).starts))
    (λ i. (shape (sym same.0 i), sym same.1 i, sym same.2 i)) c.in-Ok.ensures.begun

pub returns-in-Ok-clause-count : goal.returns-in-Ok-clause-count
returns-in-Ok-clause-count c =
    sym (length-map c.in-Ok.made.1.items (λ p. (p.seat, p.account))) ∙ c.in-Ok.ensures.handed.passes_are.as_many

pub returns-in-Ok-clause-passes : goal.returns-in-Ok-clause-passes
returns-in-Ok-clause-passes c k pass there =
    let same = c.in-Ok.ensures.cluster in
    subst (λ (x : Shape × ℕ × List Kept). IsPassOf x.0 x.1 (payloads_on x.2) c.in-Ok.made.0.cells.table.shared.table_id k pass.seat)
    (λ i. (shape (sym same.0 i), sym same.1 i, sym same.2 i)) (c.in-Ok.ensures.passes k pass there)
