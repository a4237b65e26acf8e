use Rattle.std.proofs.Common.{◌≡◌, slice_index_or}
use Rattle.std.proofs.Math.Seq.{map-set_same}
use Rattle.core_step.specs.Standing.{cluster_node}
use Rattle.counted_node.specs.Causes.{node_media}
use Rattle.quiet_run.proofs.Planned.{handed_here}
use Rattle.quiet_run.proofs.Taken.{state_at}
use Rattle.quiet_run.proofs.planning.hand_to.Goals as goal

pub returns-clause-same : goal.returns-clause-same
returns-clause-same g c =
    let state = cluster_node {P = g.row.P.Denot} g.J.Journal.state in
    let stays : state c.plan.new.self ≡ state (slice_index_or c.args.nodes.now c.args.number c.index-nodes-number.result) = λ i. record {
      config = c.plan.ensures.config i;
      number = c.plan.ensures.number i;
      state = c.plan.ensures.state i;
    } in
    map-set_same state c.args.nodes.now c.args.number c.plan.new.self c.index-nodes-number.result stays

pub returns-clause-told : goal.returns-clause-told
returns-clause-told g c =
    let state = cluster_node {P = g.row.P.Denot} g.J.Journal.state in
    handed_here (node_media {P = g.row.P.Denot} g.J.Journal.state g.J.Journal.faults g.J.Journal.keeps_synced g.J.Journal.turns) state
    c.args.nodes.now c.args.number c.index-nodes-number.result c.requires c.plan.new.self c.args.plan
    (state_at state c.args.nodes.now c.args.number c.index-nodes-number.result c.requires) c.plan.ensures.media c.plan.ensures.turns
