use Rattle.std.proofs.Common.{◌≡◌, ◌+◌, ℕ, List, IfOk, map, sym, ◌∙◌, subst}
use Rattle.std.specs.List.{AllByRecursion}
use Rattle.cluster.specs.Clusters.{IsPassOf}
use Rattle.cluster.proofs.Left.{none_with_causes}
use Rattle.command_frame.specs.Items.{IsItem}
use Rattle.core_step.specs.Standing.{cluster_node}
use Rattle.counted_node.specs.Causes.{StartsAreClean, node_media}
use Rattle.counted_node.specs.Counted.{counted_node}
use Rattle.history_frame.specs.Spelling.{DisksRise, IsHistory, IsKept}
use Rattle.history_frame.specs.declared.events.Kept.{Kept}
use Rattle.lane_work.specs.OwnItems.{AreItems}
use Rattle.log_base.specs.Shape.{shape}
use Rattle.node_model.specs.Sound.{payloads_on}
use Rattle.shard_replica.specs.Lists.{Medium}
use Rattle.tied_cells.proofs.Closes.{from_map}
use Rattle.tied_cells.specs.Rule.{deal_of}
use Rattle.cluster_run.specs.Passes.{AreNew}
use Rattle.cluster_run.specs.Runs.{IsHalted, IsHaltedWith}
use Rattle.cluster_run.proofs.Beginning.{are_new, left_halted_with}
use Rattle.cluster_run.proofs.Results.{at_some, err_at, some_so, with_err}
use Rattle.cluster_run.proofs.serving.serve.Goals as goal

pub prepare-requires : goal.prepare-requires
prepare-requires g c = record { items = (shape c.args.config, subst (AreItems (shape c.args.config)) (sym c.deref.ensures.value) c.requires.items) }

pub returns-in_default-clause-stop_causes : goal.returns-in_default-clause-stop_causes
returns-in_default-clause-stop_causes g c =
    at_some (λ left stop. IsHaltedWith (shape c.args.config) c.args.run (payloads_on c.args.kept.items) (map (cluster_node g.J.Journal.state) left.items)
    (map (node_media g.J.Journal.state g.J.Journal.faults g.J.Journal.keeps_synced g.J.Journal.turns) c.args.nodes.items) (map (node_media g.J.Journal.state g.J.Journal.faults g.J.Journal.keeps_synced g.J.Journal.turns) left.items) stop) c.stopped.result.nodes c.args.nodes c.stopped.result.stop _ c.stopped.ensures.1 c.stopped.ensures.0
    (left_halted_with (cluster_node g.J.Journal.state) (node_media g.J.Journal.state g.J.Journal.faults g.J.Journal.keeps_synced g.J.Journal.turns) (shape c.args.config) c.args.run (payloads_on c.args.kept.items) c.args.config.in_range c.args.nodes.items c.args.nodes.items c.requires.begun
    (none_with_causes g.J.Journal.state g.J.Journal.faults g.J.Journal.keeps_synced g.J.Journal.turns (shape c.args.config) c.args.nodes.items))

pub serve_on-requires-clause-items : goal.serve_on-requires-clause-items
serve_on-requires-clause-items g c κs within = subst (λ x. AllByRecursion (IsItem (shape x)) c.args.items.items) (sym c.in-Ok-start.ensures.cluster.0) c.requires.items

pub serve_on-requires-clause-new : goal.serve_on-requires-clause-new
serve_on-requires-clause-new g c κs within =
    let one = c.from.ensures in let other = c.from-2.ensures in
    let many : (deal_of (counted_node g.J.Journal.state) c.in-Ok-start.cluster.cells.table.shared.key).passes ≡ c.in-Ok.prepared.count + c.args.workers + 1 = (λ i. (c.in-Ok-start.ensures.deal i).passes) ∙ (λ i. one i + other i + 1) in
    let same = c.in-Ok-start.ensures.cluster in
    subst (λ x. AreNew (shape x) c.in-Ok-start.cluster.run (payloads_on c.in-Ok-start.cluster.kept) c.in-Ok-start.cluster.cells.table.shared.table_id (c.in-Ok.prepared.count + c.args.workers) (map (λ p. (p.seat, p.account)) c.in-Ok-start.passes.items)) (sym same.0)
    (subst (λ (n : ℕ). AreNew (shape c.args.config) n (payloads_on c.in-Ok-start.cluster.kept) c.in-Ok-start.cluster.cells.table.shared.table_id (c.in-Ok.prepared.count + c.args.workers) (map (λ p. (p.seat, p.account)) c.in-Ok-start.passes.items)) (sym same.1)
    (subst (λ (ks : List Kept). AreNew (shape c.args.config) c.args.run (payloads_on ks) c.in-Ok-start.cluster.cells.table.shared.table_id (c.in-Ok.prepared.count + c.args.workers) (map (λ p. (p.seat, p.account)) c.in-Ok-start.passes.items)) (sym same.2)
    (are_new (shape c.args.config) c.args.run (payloads_on c.args.kept.items) c.in-Ok-start.cluster.cells.table.shared.table_id (deal_of (counted_node g.J.Journal.state) c.in-Ok-start.cluster.cells.table.shared.key) _
    (map (λ p. (p.seat, p.account)) c.in-Ok-start.passes.items) (c.in-Ok.prepared.count + c.args.workers) c.in-Ok-start.ensures.handed many
    (λ k pass there.
    let p = from_map (λ p. (p.seat, p.account)) c.in-Ok-start.passes.items k pass there in
    subst (λ x. IsPassOf (shape c.args.config) c.args.run (payloads_on c.args.kept.items) c.in-Ok-start.cluster.cells.table.shared.table_id k x.0) p.2 (c.in-Ok-start.ensures.passes k p.0 p.1)))))

pub returns-in-Ok-start-clause-spelled : goal.returns-in-Ok-start-clause-spelled
returns-in-Ok-start-clause-spelled g c =
    subst (λ (ks : List Kept). IfOk c.serve_on.result (λ served. DisksRise 0 ks → AllByRecursion IsKept ks → IsHistory served.history)) c.in-Ok-start.ensures.cluster.2 c.serve_on.ensures.spelled

pub returns-in-Ok-start-clause-opened : goal.returns-in-Ok-start-clause-opened
returns-in-Ok-start-clause-opened g c =
    subst (λ x. IfOk c.serve_on.result (λ served. StartsAreClean (shape x) served.history.events (map (node_media g.J.Journal.state g.J.Journal.faults g.J.Journal.keeps_synced g.J.Journal.turns) c.args.nodes.items) (map (node_media g.J.Journal.state g.J.Journal.faults g.J.Journal.keeps_synced g.J.Journal.turns) served.nodes.items))) c.in-Ok-start.ensures.cluster.0
    (subst (λ (m : List (List Medium)). IfOk c.serve_on.result (λ served. StartsAreClean (shape c.in-Ok-start.cluster.config) served.history.events m (map (node_media g.J.Journal.state g.J.Journal.faults g.J.Journal.keeps_synced g.J.Journal.turns) served.nodes.items))) c.in-Ok-start.ensures.told
    c.serve_on.ensures.opened)

pub returns-in-Ok-start-clause-stop : goal.returns-in-Ok-start-clause-stop
returns-in-Ok-start-clause-stop g c =
    let same = c.in-Ok-start.ensures.cluster in
    with_err _ c.serve_on.result (λ stop is. some_so _ _ stop.nodes (err_at _ c.serve_on.result stop c.serve_on.ensures.stop_causes is) (λ left h.
    subst (λ x. IsHalted (shape x) c.args.run (payloads_on c.args.kept.items) (map (cluster_node g.J.Journal.state) left.items) stop.stop) same.0
    (subst (λ (n : ℕ). IsHalted (shape c.in-Ok-start.cluster.config) n (payloads_on c.args.kept.items) (map (cluster_node g.J.Journal.state) left.items) stop.stop) same.1
    (subst (λ (ks : List Kept). IsHalted (shape c.in-Ok-start.cluster.config) c.in-Ok-start.cluster.run (payloads_on ks) (map (cluster_node g.J.Journal.state) left.items) stop.stop) same.2 h.halted))))

pub returns-in-Err-clause-stop_causes : goal.returns-in-Err-clause-stop_causes
returns-in-Err-clause-stop_causes g c =
    at_some (λ left stop. IsHaltedWith (shape c.args.config) c.args.run (payloads_on c.args.kept.items) (map (cluster_node g.J.Journal.state) left.items)
    (map (node_media g.J.Journal.state g.J.Journal.faults g.J.Journal.keeps_synced g.J.Journal.turns) c.args.nodes.items) (map (node_media g.J.Journal.state g.J.Journal.faults g.J.Journal.keeps_synced g.J.Journal.turns) left.items) stop) c.stopped-in-Err.result.nodes c.in-Err.nodes c.stopped-in-Err.result.stop _ c.stopped-in-Err.ensures.1 c.stopped-in-Err.ensures.0
    (left_halted_with (cluster_node g.J.Journal.state) (node_media g.J.Journal.state g.J.Journal.faults g.J.Journal.keeps_synced g.J.Journal.turns) (shape c.args.config) c.args.run (payloads_on c.args.kept.items) c.args.config.in_range c.args.nodes.items c.in-Err.nodes.items c.requires.begun
    c.in-Err.ensures.causes)

pub returns-in-Err-clause-stop : goal.returns-in-Err-clause-stop
returns-in-Err-clause-stop g c =
    some_so _ _ c.stopped-in-Err.result.nodes (returns-in-Err-clause-stop_causes g c) (λ left h. h.halted)
