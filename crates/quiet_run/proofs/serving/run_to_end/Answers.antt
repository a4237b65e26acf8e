use Rattle.std.proofs.Common.{◌≡◌, map, ap, sym, subst, Ok, arith, ◌∙◌}
use Rattle.core_step.specs.Standing.{cluster_node}
use Rattle.quiet_run.specs.declared.outcomes.DriveStop.{DriveStop}
use Rattle.quiet_run.specs.Running.{StopsWith, job_of, scheduled_in}
use Rattle.quiet_run.specs.Standing.{Job}
use Rattle.counted_node.specs.Causes.{node_media}
use Rattle.quiet_run.proofs.Ending.{causes_then, stopped_then, under_way_on}
use Rattle.quiet_run.proofs.Going.{if_err_with}
use Rattle.quiet_run.proofs.serving.run_to_end.Goals as goal

pub turns-init : goal.turns-init
turns-init g c = record { way = c.requires; causes = λ first h. h }

pub go_on-requires-clause-scheduled : goal.go_on-requires-clause-scheduled
go_on-requires-clause-scheduled g c =
    c.turns.invariant.way.scheduled ∙ ap (λ (j : Job). scheduled_in j c.turns.running.events.items) (sym c.turns.invariant.way.job_is)

pub turns-preserved : goal.turns-preserved
turns-preserved g c =
    let media = node_media {P = g.row.P.Denot} g.J.Journal.state g.J.Journal.faults g.J.Journal.keeps_synced g.J.Journal.turns in
    record {
      way =
          under_way_on (job_of c.args.running.now) c.turns.running c.go_on.new.self (map (cluster_node {P = g.row.P.Denot} g.J.Journal.state) c.go_on.new.nodes) c.turns.invariant.way.job_is
          (c.go_on.ensures.more (c.in_ok-go_on.was ∙ ap (λ b. Ok b) c.if-branch.true));
      causes =
          causes_then (job_of c.args.running.now) c.turns.running c.args.running.now.events.items c.go_on.new.self.events.items
          (map media c.args.nodes.now) (map media c.turns.nodes) (map media c.go_on.new.nodes) c.turns.invariant.way.job_is c.turns.invariant.causes c.in_ok-go_on.ensures.causes;
    }

pub turns-smaller : goal.turns-smaller
turns-smaller g c =
    let gone = c.go_on.ensures.more (c.in_ok-go_on.was ∙ ap (λ b. Ok b) c.if-branch.true) in
    let room = gone.room in
    let more = gone.more in
    omega (arith, room, more)

pub returns-clause-over : goal.returns-clause-over
returns-clause-over g c = c.go_on.ensures.over (c.in_ok-go_on.was ∙ ap (λ b. Ok b) c.if-branch.false)

pub returns-clause-same : goal.returns-clause-same
returns-clause-same g c = c.go_on.ensures.same (c.in_ok-go_on.was ∙ ap (λ b. Ok b) c.if-branch.false) ∙ c.turns.invariant.way.job_is

pub returns-clause-causes : goal.returns-clause-causes
returns-clause-causes g c =
    let media = node_media {P = g.row.P.Denot} g.J.Journal.state g.J.Journal.faults g.J.Journal.keeps_synced g.J.Journal.turns in
    causes_then (job_of c.args.running.now) c.turns.running c.args.running.now.events.items c.go_on.new.self.events.items
    (map media c.args.nodes.now) (map media c.turns.nodes) (map media c.go_on.new.nodes) c.turns.invariant.way.job_is c.turns.invariant.causes c.in_ok-go_on.ensures.causes

pub returns-in_err-go_on-clause-err_causes : goal.returns-in_err-go_on-clause-err_causes
returns-in_err-go_on-clause-err_causes g c =
    let job = job_of c.args.running.now in
    let events = c.args.running.now.events.items in
    let media = node_media {P = g.row.P.Denot} g.J.Journal.state g.J.Journal.faults g.J.Journal.keeps_synced g.J.Journal.turns in
    let new = map (cluster_node {P = g.row.P.Denot} g.J.Journal.state) c.go_on.new.nodes in
    let told = map media c.args.nodes.now in
    let told_new = map media c.go_on.new.nodes in
    if_err_with c.from_residual.result (λ (stop : DriveStop). stop ≡ c.in_err-go_on.field-0.0) (λ (stop : DriveStop). StopsWith job events new told told_new stop)
    (λ stop e. subst (StopsWith job events new told told_new) (sym e)
    (stopped_then job c.turns.running events new told (map media c.turns.nodes) told_new c.in_err-go_on.field-0.0 c.turns.invariant.way.job_is c.turns.invariant.causes
    c.in_err-go_on.ensures.err_causes))
    c.from_residual.ensures.1
