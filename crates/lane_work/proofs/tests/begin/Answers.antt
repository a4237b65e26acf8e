use Rattle.std.proofs.Common.{◌+◌, ◌<◌, ℕ, List, map, sym, ap, ◌∙◌, subst, arith}
use Rattle.std.specs.Option.{option_map}
use Rattle.std.proofs.lemmas.Option.{none-some, slice_get-map}
use Rattle.core_step.specs.Standing.{cluster_node}
use Rattle.history_frame.specs.declared.events.Kept.{Kept}
use Rattle.log_base.specs.ClusterShape.{Shape}
use Rattle.log_base.specs.Shape.{shape}
use Rattle.node_model.specs.Sound.{payloads_on}
use Rattle.cluster.proofs.Empty.{begins_empty}
use Rattle.cluster.specs.Clusters.{IsPassOf}
use Rattle.lane_work.specs.Lanes.{SubmitsNone}
use Rattle.lane_work.proofs.tests.begin.Goals as goal

pub start-requires-clause-begun : goal.start-requires-clause-begun
start-requires-clause-begun c =
    begins_empty (shape c.in_ok-config.config) 1 c.new.result.items (map (cluster_node (λ j. j.journal)) c.in_ok-nodes.nodes.items) c.new.ensures.items c.in_ok-nodes.ensures

pub returns-in-Ok-clause-fits : goal.returns-in-Ok-clause-fits
returns-in-Ok-clause-fits c =
    let pass = c.in_ok-pass-in-Ok.pass in let same = c.in-Ok.ensures.cluster in
    let there = c.in_ok-pass-in-Ok.ensures in
    let cluster = c.in-Ok.cluster in
    let is = c.in-Ok.ensures.passes 0 pass there in
    let deal = c.in-Ok.ensures.deal in
    let some : 0 + 1 < 2 = omega arith in
    let listed = slice_get-map (λ p. (p.seat, p.account)) c.in-Ok.passes.items 0 ∙ ap (option_map (λ p. (p.seat, p.account))) there in
    let new = c.in-Ok.ensures.handed.passes_are.others 0 (pass.seat, pass.account) listed (subst (λ (n : ℕ). 0 + 1 < n) (λ i. (sym deal i).passes) some) in
    record {
      pass = subst (λ (x : Shape × ℕ × List Kept). IsPassOf x.0 x.1 (payloads_on x.2) cluster.cells.table.shared.table_id 0 pass.seat)
          (λ i. (shape (sym same.0 i), sym same.1 i, sym same.2 i)) is;
      fresh_pass = subst SubmitsNone (sym new.own_is) (λ k event h. absurd (none-some event h));
    }
