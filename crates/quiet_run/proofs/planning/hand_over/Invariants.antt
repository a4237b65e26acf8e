use Rattle.std.proofs.Common.{◌≡◌, map, take}
use Rattle.core_step.specs.Standing.{cluster_node}
use Rattle.counted_node.specs.Causes.{node_media}
use Rattle.quiet_run.specs.Planning.{AreHandedOver}
use Rattle.quiet_run.proofs.planning.hand_over.Given as goal

-- the first plans were handed over
abbrev pub invariant-loop-at : goal.invariant-loop-at
invariant-loop-at g l = record {
  same : map (cluster_node {P = g.row.P.Denot} g.J.Journal.state) l.nodes ≡ map (cluster_node {P = g.row.P.Denot} g.J.Journal.state) l.initial.nodes;
  told : AreHandedOver (take l.at l.plans) (map (cluster_node {P = g.row.P.Denot} g.J.Journal.state) l.initial.nodes)
      (map (node_media {P = g.row.P.Denot} g.J.Journal.state g.J.Journal.faults g.J.Journal.keeps_synced g.J.Journal.turns) l.initial.nodes)
      (map (node_media {P = g.row.P.Denot} g.J.Journal.state g.J.Journal.faults g.J.Journal.keeps_synced g.J.Journal.turns) l.nodes);
}
