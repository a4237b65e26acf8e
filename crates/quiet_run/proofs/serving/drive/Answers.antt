use Rattle.std.proofs.Common.{List, [], length, map, ap, sym, subst, ◌∙◌}
use Rattle.std.specs.Prelude.{IfErr, IfOk}
use Rattle.core_step.specs.Standing.{Standing, cluster_node}
use Rattle.log_base.specs.Shape.{shape}
use Rattle.quiet_run.specs.declared.outcomes.Driven.{Driven}
use Rattle.quiet_run.specs.declared.outcomes.DriveStop.{DriveStop}
use Rattle.counted_node.specs.Causes.{AllCountOn, HaveCauses, StartsAreClean, node_media}
use Rattle.quiet_run.specs.Runs.{IsStoppedRun, IsStoppedWith}
use Rattle.quiet_run.specs.Standing.{StandAfter, job}
use Rattle.quiet_run.proofs.Ending.{lent_whole}
use Rattle.quiet_run.proofs.Unfailing.{quiet_result, unfailing_result}
use Rattle.quiet_run.proofs.serving.drive.Goals as goal

pub serve-requires-clause-nodes : goal.serve-requires-clause-nodes
serve-requires-clause-nodes g c =
    subst (λ (ns : List (Standing g.row.J.Denot g.row.P.Denot)). StandAfter (job (shape c.args.config) c.args.run c.args.items.now c.args.kept.items) [] (map (cluster_node g.J.Journal.state) ns))
    (sym c.deref_mut.ensures.value) c.requires.nodes

pub returns-clause-nodes : goal.returns-clause-nodes
returns-clause-nodes g c =
    let long = λ (ns : List (Standing g.row.J.Denot g.row.P.Denot)). length ns in
    let whole = lent_whole c.args.nodes.now.len c.serve.new.nodes c.args.nodes.now.items (c.serve.auto.nodes ∙ ap long c.deref_mut.ensures.value) (sym c.deref_mut.ensures.len ∙ ap long c.deref_mut.ensures.value) in
    subst (λ (ns : List (Standing g.row.J.Denot g.row.P.Denot)). IfOk c.serve.result (λ (driven : Driven).
    StandAfter (job (shape c.args.config) c.args.run c.args.items.now c.args.kept.items) driven.history.events (map (cluster_node g.J.Journal.state) ns)))
    (sym whole) c.serve.ensures.nodes

pub returns-clause-stopped : goal.returns-clause-stopped
returns-clause-stopped g c =
    let long = λ (ns : List (Standing g.row.J.Denot g.row.P.Denot)). length ns in
    let whole = lent_whole c.args.nodes.now.len c.serve.new.nodes c.args.nodes.now.items (c.serve.auto.nodes ∙ ap long c.deref_mut.ensures.value) (sym c.deref_mut.ensures.len ∙ ap long c.deref_mut.ensures.value) in
    subst (λ (ns : List (Standing g.row.J.Denot g.row.P.Denot)). IfErr c.serve.result (λ (stop : DriveStop).
    IsStoppedRun (job (shape c.args.config) c.args.run c.args.items.now c.args.kept.items) (map (cluster_node g.J.Journal.state) ns) stop))
    (sym whole) c.serve.ensures.stopped

pub returns-clause-opened : goal.returns-clause-opened
returns-clause-opened g c =
    let media = node_media {P = g.row.P.Denot} g.J.Journal.state g.J.Journal.faults g.J.Journal.keeps_synced g.J.Journal.turns in
    let long = λ (ns : List (Standing g.row.J.Denot g.row.P.Denot)). length ns in
    let whole = lent_whole c.args.nodes.now.len c.serve.new.nodes c.args.nodes.now.items (c.serve.auto.nodes ∙ ap long c.deref_mut.ensures.value) (sym c.deref_mut.ensures.len ∙ ap long c.deref_mut.ensures.value) in
    subst (λ (x : List (Standing g.row.J.Denot g.row.P.Denot) × List (Standing g.row.J.Denot g.row.P.Denot)). IfOk c.serve.result (λ (driven : Driven). StartsAreClean (shape c.args.config) driven.history.events (map media x.0) (map media x.1)))
    (λ i. (c.deref_mut.ensures.value i, sym whole i)) c.serve.ensures.opened

pub returns-clause-causes : goal.returns-clause-causes
returns-clause-causes g c =
    let media = node_media {P = g.row.P.Denot} g.J.Journal.state g.J.Journal.faults g.J.Journal.keeps_synced g.J.Journal.turns in
    let long = λ (ns : List (Standing g.row.J.Denot g.row.P.Denot)). length ns in
    let whole = lent_whole c.args.nodes.now.len c.serve.new.nodes c.args.nodes.now.items (c.serve.auto.nodes ∙ ap long c.deref_mut.ensures.value) (sym c.deref_mut.ensures.len ∙ ap long c.deref_mut.ensures.value) in
    subst (λ (x : List (Standing g.row.J.Denot g.row.P.Denot) × List (Standing g.row.J.Denot g.row.P.Denot)). IfOk c.serve.result (λ (driven : Driven). HaveCauses (shape c.args.config) driven.history.events (map media x.0) (map media x.1)))
    (λ i. (c.deref_mut.ensures.value i, sym whole i)) c.serve.ensures.causes

pub returns-clause-counts : goal.returns-clause-counts
returns-clause-counts g c =
    let media = node_media {P = g.row.P.Denot} g.J.Journal.state g.J.Journal.faults g.J.Journal.keeps_synced g.J.Journal.turns in
    let long = λ (ns : List (Standing g.row.J.Denot g.row.P.Denot)). length ns in
    let whole = lent_whole c.args.nodes.now.len c.serve.new.nodes c.args.nodes.now.items (c.serve.auto.nodes ∙ ap long c.deref_mut.ensures.value) (sym c.deref_mut.ensures.len ∙ ap long c.deref_mut.ensures.value) in
    subst (λ (x : List (Standing g.row.J.Denot g.row.P.Denot) × List (Standing g.row.J.Denot g.row.P.Denot)). AllCountOn (map media x.0) (map media x.1))
    (λ i. (c.deref_mut.ensures.value i, sym whole i)) c.serve.ensures.counts

pub returns-clause-stopped_causes : goal.returns-clause-stopped_causes
returns-clause-stopped_causes g c =
    let media = node_media {P = g.row.P.Denot} g.J.Journal.state g.J.Journal.faults g.J.Journal.keeps_synced g.J.Journal.turns in
    let long = λ (ns : List (Standing g.row.J.Denot g.row.P.Denot)). length ns in
    let whole = lent_whole c.args.nodes.now.len c.serve.new.nodes c.args.nodes.now.items (c.serve.auto.nodes ∙ ap long c.deref_mut.ensures.value) (sym c.deref_mut.ensures.len ∙ ap long c.deref_mut.ensures.value) in
    subst (λ (x : List (Standing g.row.J.Denot g.row.P.Denot) × List (Standing g.row.J.Denot g.row.P.Denot)). IfErr c.serve.result (λ (stop : DriveStop).
    IsStoppedWith (job (shape c.args.config) c.args.run c.args.items.now c.args.kept.items) (map (cluster_node g.J.Journal.state) x.1) (map media x.0) (map media x.1) stop))
    (λ i. (c.deref_mut.ensures.value i, sym whole i)) c.serve.ensures.stopped_causes

-- a run over empty disks in which no disk failed
pub returns-clause-quiet : goal.returns-clause-quiet
returns-clause-quiet g c =
    quiet_result c.args.config c.args.run c.args.items.now c.requires.items c.args.kept.items c.serve.result
    c.serve.ensures.given c.serve.ensures.lawful c.serve.ensures.driven c.serve.ensures.replies c.serve.ensures.limits

pub returns-clause-unfailing : goal.returns-clause-unfailing
returns-clause-unfailing g c =
    unfailing_result c.args.config c.args.run c.args.items.now c.requires.items c.args.kept.items c.serve.result
    c.serve.ensures.given c.serve.ensures.lawful c.serve.ensures.driven c.serve.ensures.replies c.serve.ensures.limits _ _ (returns-clause-causes g c)
