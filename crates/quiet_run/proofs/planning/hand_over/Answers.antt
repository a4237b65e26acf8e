use Rattle.std.proofs.Common.{◌<◌, ℕ, List, length, map, slice_index_or, ap, subst, add-one, arith, ◌∙◌}
use Rattle.std.proofs.lemmas.List.{length-map, take_all}
use Rattle.core_step.specs.Standing.{cluster_node}
use Rattle.node_model.specs.Machine.{ClusterNode}
use Rattle.schedule_model.specs.declared.duties.Planned.{Planned}
use Rattle.counted_node.specs.Causes.{node_media}
use Rattle.quiet_run.specs.Planning.{AreHandedOver, IsHandedTo}
use Rattle.quiet_run.proofs.Planned.{among_at, handed_more, no_plan}
use Rattle.quiet_run.proofs.planning.hand_over.Goals as goal

pub hand_to-requires : goal.hand_to-requires
hand_to-requires g c =
    let state = cluster_node {P = g.row.P.Denot} g.J.Journal.state in
    let below : c.loop-at.at < length c.args.plans.now = omega arith in
    let low = among_at (length c.args.nodes.now) c.args.plans.now c.loop-at.at no_plan below c.requires in
    let now = length-map c.loop-at.nodes state in
    let before = length-map c.args.nodes.now state in
    let same = ap (λ (l : List ClusterNode). length l) c.loop-at.invariant.same in
    omega (arith, low, now, before, same, c.from.ensures)

pub loop-at-preserved : goal.loop-at-preserved
loop-at-preserved g c =
    let state = cluster_node {P = g.row.P.Denot} g.J.Journal.state in
    let media = node_media {P = g.row.P.Denot} g.J.Journal.state g.J.Journal.faults g.J.Journal.keeps_synced g.J.Journal.turns in
    let below : c.loop-at.at < length c.args.plans.now = omega arith in
    record {
      same = c.hand_to.ensures.same ∙ c.loop-at.invariant.same;
      told =
          rw add-one
          (handed_more c.args.plans.now c.loop-at.at no_plan (map state c.args.nodes.now) (map media c.args.nodes.now) (map media c.loop-at.nodes) (map media c.hand_to.new.nodes) below
          c.loop-at.invariant.told
          (subst (λ (n : ℕ). IsHandedTo n (slice_index_or c.args.plans.now c.loop-at.at no_plan).plan (map state c.args.nodes.now) (map media c.loop-at.nodes) (map media c.hand_to.new.nodes)) c.from.ensures
          (subst (λ (nodes : List ClusterNode). IsHandedTo c.from.result (slice_index_or c.args.plans.now c.loop-at.at no_plan).plan nodes (map media c.loop-at.nodes) (map media c.hand_to.new.nodes))
          c.loop-at.invariant.same c.hand_to.ensures.told)));
    }

pub returns-clause-told : goal.returns-clause-told
returns-clause-told g c =
    let state = cluster_node {P = g.row.P.Denot} g.J.Journal.state in
    let media = node_media {P = g.row.P.Denot} g.J.Journal.state g.J.Journal.faults g.J.Journal.keeps_synced g.J.Journal.turns in
    subst (λ (plans : List Planned). AreHandedOver plans (map state c.args.nodes.now) (map media c.args.nodes.now) (map media c.loop-at.nodes))
    (take_all c.loop-at.at c.args.plans.now (omega arith)) c.loop-at.invariant.told
