use Rattle.std.proofs.Common.{◌≡◌, length, map, refl, sym, subst, ◌∙◌, arith}
use Rattle.std.proofs.lemmas.Grind.{common_steps}
use Rattle.core_step.specs.Standing.{cluster_node}
use Rattle.quiet_run.specs.declared.outcomes.DriveStop.{DriveStop}
use Rattle.quiet_run.specs.declared.outcomes.DriveStop.TheVariants.{Memory}
use Rattle.quiet_run.specs.Limits.{is_one_full, limit_passed}
use Rattle.counted_node.specs.Causes.{node_media}
use Rattle.quiet_run.specs.Running.{StopsWith, job_of, scheduled_in}
use Rattle.quiet_run.proofs.Going.{if_err_with, limit_is, run_over, stopped_at, stopped_with_at, turn_due}
use Rattle.quiet_run.proofs.Passing.{full_is}
use Rattle.quiet_run.proofs.running.Running.go_on_with.Goals as goal

pub returns-in-Some-clause-err : goal.returns-in-Some-clause-err
returns-in-Some-clause-err g c =
    let job = job_of c.args.self.now in
    let events = c.args.self.now.events.items in
    let nodes = map (cluster_node {P = g.row.P.Denot} g.J.Journal.state) c.args.nodes.now in
    let long : c.len.result ≡ length events = grind (arith, common_steps) in
    let full : c.is_one_full-full.result ≡ is_one_full job events
    = c.is_one_full-full.ensures ∙ full_is (cluster_node {P = g.row.P.Denot} g.J.Journal.state) job events c.args.nodes.now c.requires.way.so_far.stand in
    let passed : limit_passed job events ≡ c.limit_at.result
    = limit_is job events c.args.self.now.bytes nodes c.requires.way (scheduled_in job events) refl c.args.next c.requires.coming
    c.limit_at.result c.is_one_full-full.result c.len.result c.is_some.result c.limit_at.ensures c.is_some.ensures long full in
    stopped_at job events c.args.self.now.bytes nodes c.requires.way (scheduled_in job events) refl c.args.next c.requires.coming c.in-Some.cause (passed ∙ c.in-Some.is)

pub take-requires-clause-due : goal.take-requires-clause-due
take-requires-clause-due g c =
    let job = job_of c.args.self.now in
    let events = c.args.self.now.events.items in
    let nodes = map (cluster_node {P = g.row.P.Denot} g.J.Journal.state) c.args.nodes.now in
    let long : c.len.result ≡ length events = grind (arith, common_steps) in
    let full : c.is_one_full-full.result ≡ is_one_full job events
    = c.is_one_full-full.ensures ∙ full_is (cluster_node {P = g.row.P.Denot} g.J.Journal.state) job events c.args.nodes.now c.requires.way.so_far.stand in
    let passed : limit_passed job events ≡ c.limit_at.result
    = limit_is job events c.args.self.now.bytes nodes c.requires.way (scheduled_in job events) refl c.args.next c.requires.coming
    c.limit_at.result c.is_one_full-full.result c.len.result c.is_some.result c.limit_at.ensures c.is_some.ensures long full in
    turn_due job events c.args.self.now.bytes nodes c.requires.way (scheduled_in job events) refl c.args.next c.requires.coming
    c.in-Some-next.turn c.args.self.now.schedule c.in-Some-next.is c.requires.given (passed ∙ c.in_default.is)

pub returns-in-None-clause-over : goal.returns-in-None-clause-over
returns-in-None-clause-over g c = λ done.
    let job = job_of c.args.self.now in
    let events = c.args.self.now.events.items in
    let nodes = map (cluster_node {P = g.row.P.Denot} g.J.Journal.state) c.args.nodes.now in
    let long : c.len.result ≡ length events = grind (arith, common_steps) in
    let full : c.is_one_full-full.result ≡ is_one_full job events
    = c.is_one_full-full.ensures ∙ full_is (cluster_node {P = g.row.P.Denot} g.J.Journal.state) job events c.args.nodes.now c.requires.way.so_far.stand in
    let passed : limit_passed job events ≡ c.limit_at.result
    = limit_is job events c.args.self.now.bytes nodes c.requires.way (scheduled_in job events) refl c.args.next c.requires.coming
    c.limit_at.result c.is_one_full-full.result c.len.result c.is_some.result c.limit_at.ensures c.is_some.ensures long full in
    run_over job events c.args.self.now.bytes nodes c.requires.way (scheduled_in job events) refl c.args.next c.requires.coming
    c.args.self.now.schedule c.in-None.is c.requires.given (passed ∙ c.in_default.is)

pub returns-in-Some-clause-err_causes : goal.returns-in-Some-clause-err_causes
returns-in-Some-clause-err_causes g c =
    let job = job_of c.args.self.now in
    let events = c.args.self.now.events.items in
    let nodes = map (cluster_node {P = g.row.P.Denot} g.J.Journal.state) c.args.nodes.now in
    let told = map (node_media {P = g.row.P.Denot} g.J.Journal.state g.J.Journal.faults g.J.Journal.keeps_synced g.J.Journal.turns) c.args.nodes.now in
    let long : c.len.result ≡ length events = grind (arith, common_steps) in
    let full : c.is_one_full-full.result ≡ is_one_full job events
    = c.is_one_full-full.ensures ∙ full_is (cluster_node {P = g.row.P.Denot} g.J.Journal.state) job events c.args.nodes.now c.requires.way.so_far.stand in
    let passed : limit_passed job events ≡ c.limit_at.result
    = limit_is job events c.args.self.now.bytes nodes c.requires.way (scheduled_in job events) refl c.args.next c.requires.coming
    c.limit_at.result c.is_one_full-full.result c.len.result c.is_some.result c.limit_at.ensures c.is_some.ensures long full in
    stopped_with_at job events c.args.self.now.bytes nodes c.requires.way (scheduled_in job events) refl c.args.next c.requires.coming c.in-Some.cause told (passed ∙ c.in-Some.is)

pub returns-in-None-clause-causes : goal.returns-in-None-clause-causes
returns-in-None-clause-causes g c = λ first h. h

pub returns-in_err-take-in-Some-next-clause-err_causes : goal.returns-in_err-take-in-Some-next-clause-err_causes
returns-in_err-take-in-Some-next-clause-err_causes g c =
    let job = job_of c.args.self.now in
    let events = c.args.self.now.events.items in
    let media = node_media {P = g.row.P.Denot} g.J.Journal.state g.J.Journal.faults g.J.Journal.keeps_synced g.J.Journal.turns in
    let new = map (cluster_node {P = g.row.P.Denot} g.J.Journal.state) c.take.new.nodes in
    let told = map media c.args.nodes.now in
    let told_new = map media c.take.new.nodes in
    if_err_with c.from_residual.result (λ (stop : DriveStop). stop ≡ Memory) (λ (stop : DriveStop). StopsWith job events new told told_new stop)
    (λ stop e. subst (StopsWith job events new told told_new) (sym e) c.in_err-take-in-Some-next.ensures.err_causes)
    c.from_residual.ensures.1
