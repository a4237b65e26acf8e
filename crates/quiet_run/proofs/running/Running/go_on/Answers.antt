use Rattle.std.proofs.Common.{◌≡◌, List, length, map, refl, sym, ap, subst, ◌∙◌, arith}
use Rattle.std.proofs.lemmas.List.{length-map}
use Rattle.core_step.specs.Standing.{cluster_node}
use Rattle.std.specs.List.{AllByRecursion}
use Rattle.schedule_model.specs.Calling.{IsPlanned}
use Rattle.schedule_model.specs.Driven.{next_plans_after, next_turn_after}
use Rattle.schedule_model.specs.declared.duties.Planned.{Planned}
use Rattle.shard_replica.specs.Lists.{Medium}
use Rattle.schedule_model.specs.Scheduling.{next_plans, next_turn}
use Rattle.schedule_model.proofs.RunLaws.{plans_allowed}
use Rattle.quiet_run.specs.declared.outcomes.DriveStop.{DriveStop}
use Rattle.quiet_run.specs.declared.outcomes.DriveStop.TheVariants.{Memory}
use Rattle.counted_node.specs.Causes.{node_media}
use Rattle.quiet_run.specs.Running.{StopsWith, job_of, scheduled_in}
use Rattle.quiet_run.specs.Planning.{AreHandedOver}
use Rattle.quiet_run.specs.Runs.{IsStoppedRun}
use Rattle.quiet_run.proofs.Going.{if_err_more, if_err_with, on_ok_more, stopped_before, stopped_with_before}
use Rattle.counted_node.proofs.Failures.{all_same}
use Rattle.quiet_run.proofs.Planned.{among_all, causes_from, handed_counts, planned_turn, stops_from}
use Rattle.quiet_run.proofs.running.Running.go_on.Goals as goal

pub returns-in_err-next-clause-err : goal.returns-in_err-next-clause-err
returns-in_err-next-clause-err g c =
    let job = job_of c.args.self.now in
    let nodes = map (cluster_node {P = g.row.P.Denot} g.J.Journal.state) c.args.nodes.now in
    if_err_with c.from_residual.result (λ (stop : DriveStop). stop ≡ Memory) (λ (stop : DriveStop). IsStoppedRun job nodes stop)
    (λ stop e. subst (IsStoppedRun job nodes) (sym e) (stopped_before job c.args.self.now.events.items nodes nodes c.requires.way.so_far refl))
    c.from_residual.ensures.1

pub returns-in_err-next-clause-err_causes : goal.returns-in_err-next-clause-err_causes
returns-in_err-next-clause-err_causes g c =
    let job = job_of c.args.self.now in
    let events = c.args.self.now.events.items in
    let nodes = map (cluster_node {P = g.row.P.Denot} g.J.Journal.state) c.args.nodes.now in
    let told = map (node_media {P = g.row.P.Denot} g.J.Journal.state g.J.Journal.faults g.J.Journal.keeps_synced g.J.Journal.turns) c.args.nodes.now in
    if_err_with c.from_residual.result (λ (stop : DriveStop). stop ≡ Memory) (λ (stop : DriveStop). StopsWith job events nodes told told stop)
    (λ stop e. subst (StopsWith job events nodes told told) (sym e) (stopped_with_before job events nodes nodes told told c.requires.way.so_far refl (all_same told)))
    c.from_residual.ensures.1

pub hand_over-requires : goal.hand_over-requires
hand_over-requires g c =
    let job = job_of c.args.self.now in
    let nodes = c.args.nodes.now in
    let count = length-map nodes (cluster_node {P = g.row.P.Denot} g.J.Journal.state) in
    let all = c.requires.way.so_far.stand.all in
    let plans_are : c.get.result.now ≡ next_plans_after job.config job.run job.items c.args.self.now.events.items =
    c.get.ensures ∙ c.in_ok-next.ensures.plans ∙ ap next_plans c.requires.scheduled in
    among_all job.config (length nodes) c.get.result.now (omega (arith, count, all))
    (subst (AllByRecursion (IsPlanned job.config)) (sym plans_are) (plans_allowed job.config job.run job.items c.args.self.now.events.items c.requires.way.is_job.is_run))

pub returns-clause-more : goal.returns-clause-more
returns-clause-more g c = λ e.
    let h = c.go_on_with.ensures.more e in
    record { job_stays = h.job_stays; way = h.way; scheduled = h.scheduled; room = h.room; more = h.more }

pub returns-clause-causes : goal.returns-clause-causes
returns-clause-causes g c =
    let state = cluster_node {P = g.row.P.Denot} g.J.Journal.state in
    let media = node_media {P = g.row.P.Denot} g.J.Journal.state g.J.Journal.faults g.J.Journal.keeps_synced g.J.Journal.turns in
    let config = (job_of c.args.self.now).config in
    let events = c.args.self.now.events.items in
    let counts = handed_counts c.get.result.now (map state c.args.nodes.now) (map media c.args.nodes.now) (map media c.hand_over.new.nodes) c.hand_over.ensures.told in
    on_ok_more c.go_on_with.result _ _
    (causes_from config events c.go_on_with.new.self.events.items (map media c.args.nodes.now) (map media c.hand_over.new.nodes) (map media c.go_on_with.new.nodes) counts)
    c.go_on_with.ensures.causes

pub returns-clause-err_causes : goal.returns-clause-err_causes
returns-clause-err_causes g c =
    let state = cluster_node {P = g.row.P.Denot} g.J.Journal.state in
    let media = node_media {P = g.row.P.Denot} g.J.Journal.state g.J.Journal.faults g.J.Journal.keeps_synced g.J.Journal.turns in
    let job = job_of c.args.self.now in
    let events = c.args.self.now.events.items in
    let new = map state c.go_on_with.new.nodes in
    let counts = handed_counts c.get.result.now (map state c.args.nodes.now) (map media c.args.nodes.now) (map media c.hand_over.new.nodes) c.hand_over.ensures.told in
    if_err_more c.go_on_with.result
    (λ (stop : DriveStop). StopsWith job events new (map media c.hand_over.new.nodes) (map media c.go_on_with.new.nodes) stop)
    (λ (stop : DriveStop). StopsWith job events new (map media c.args.nodes.now) (map media c.go_on_with.new.nodes) stop)
    (λ stop. stops_from job events new (map media c.args.nodes.now) (map media c.hand_over.new.nodes) (map media c.go_on_with.new.nodes) stop counts)
    c.go_on_with.ensures.err_causes

pub returns-clause-plans : goal.returns-clause-plans
returns-clause-plans g c = λ done.
    let state = cluster_node {P = g.row.P.Denot} g.J.Journal.state in
    let media = node_media {P = g.row.P.Denot} g.J.Journal.state g.J.Journal.faults g.J.Journal.keeps_synced g.J.Journal.turns in
    let job = job_of c.args.self.now in
    let events = c.args.self.now.events.items in
    let plans_are : c.get.result.now ≡ next_plans_after job.config job.run job.items events =
    c.get.ensures ∙ c.in_ok-next.ensures.plans ∙ ap next_plans c.requires.scheduled in
    let comes : c.in_ok-next.next.turn ≡ next_turn_after job.config job.run job.items events = c.in_ok-next.ensures.turn ∙ ap next_turn c.requires.scheduled in
    planned_turn job events (map state c.args.nodes.now) (map media c.args.nodes.now) (map media c.hand_over.new.nodes) (map media c.go_on_with.new.nodes)
    c.in_ok-next.next.turn comes
    (subst (λ (plans : List Planned). AreHandedOver plans (map state c.args.nodes.now) (map media c.args.nodes.now) (map media c.hand_over.new.nodes)) plans_are c.hand_over.ensures.told)
    (c.go_on_with.ensures.others done)

pub returns-clause-last_plans : goal.returns-clause-last_plans
returns-clause-last_plans g c = λ done.
    let state = cluster_node {P = g.row.P.Denot} g.J.Journal.state in
    let media = node_media {P = g.row.P.Denot} g.J.Journal.state g.J.Journal.faults g.J.Journal.keeps_synced g.J.Journal.turns in
    let plans_are : c.get.result.now ≡ next_plans (scheduled_in (job_of c.args.self.now) c.args.self.now.events.items) =
    c.get.ensures ∙ c.in_ok-next.ensures.plans ∙ ap next_plans c.requires.scheduled in
    subst (λ (plans : List Planned). AreHandedOver plans (map state c.args.nodes.now) (map media c.args.nodes.now) (map media c.go_on_with.new.nodes)) plans_are
    (subst (λ (told : List (List Medium)). AreHandedOver c.get.result.now (map state c.args.nodes.now) (map media c.args.nodes.now) told)
    (sym (c.go_on_with.ensures.still done)) c.hand_over.ensures.told)
