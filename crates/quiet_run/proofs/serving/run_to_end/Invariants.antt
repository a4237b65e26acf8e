use Rattle.std.proofs.Common.{◌-◌, length, map}
use Rattle.core_step.specs.Standing.{cluster_node}
use Rattle.counted_node.specs.Causes.{node_media}
use Rattle.quiet_run.specs.Running.{CausesGoOn, IsUnderWay, job_of}
use Rattle.quiet_run.proofs.serving.run_to_end.Given as goal

abbrev pub invariant-turns : goal.invariant-turns
invariant-turns g l = record {
  way : IsUnderWay (job_of l.fn.running) l.running (map (cluster_node {P = g.row.P.Denot} g.J.Journal.state) l.nodes);
  causes : CausesGoOn (job_of l.fn.running).config l.fn.running.events.items l.running.events.items
      (map (node_media {P = g.row.P.Denot} g.J.Journal.state g.J.Journal.faults g.J.Journal.keeps_synced g.J.Journal.turns) l.fn.nodes)
      (map (node_media {P = g.row.P.Denot} g.J.Journal.state g.J.Journal.faults g.J.Journal.keeps_synced g.J.Journal.turns) l.nodes);
}

abbrev pub decreases-turns : goal.decreases-turns
decreases-turns g l = 131072 - length l.running.events.items
