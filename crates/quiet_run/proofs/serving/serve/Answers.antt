use Rattle.std.proofs.Common.{◌≡◌, ◌≤◌, ℕ, List, [], length, map, refl, sym, ap, subst, arith, ◌∙◌}
use Rattle.std.specs.List.{AllByRecursion}
use Rattle.std.proofs.lemmas.List.{length-map}
use Rattle.core_step.specs.Standing.{cluster_node}
use Rattle.reply_frame.specs.declared.replies.Reply.{Reply}
use Rattle.history_frame.specs.declared.events.Event.{Event}
use Rattle.history_frame.specs.declared.events.History.{History}
use Rattle.history_frame.specs.declared.events.Kept.{Kept}
use Rattle.history_frame.specs.Spelling.{IsEvent}
use Rattle.reply_frame.specs.Replies.{HasSpelling}
use Rattle.log_base.specs.declared.cluster_shape.Config.{Config}
use Rattle.log_base.specs.Shape.{shape}
use Rattle.node_model.specs.Legal.{IsLegal}
use Rattle.node_model.specs.Sound.{payloads_on}
use Rattle.schedule_model.specs.Driven.{IsDriven, replies_of}
use Rattle.schedule_model.proofs.RunLaws.{replies_all}
use Rattle.schedule_model.proofs.Starting.{all_started}
use Rattle.quiet_run.specs.declared.outcomes.DriveStop.{DriveStop}
use Rattle.quiet_run.specs.declared.outcomes.DriveStop.TheVariants.{Memory}
use Rattle.counted_node.specs.Causes.{BeginWithStarts, HaveCauses, StartsAreClean, node_media}
use Rattle.quiet_run.specs.Running.{IsBeginning, IsOver, IsUnderWay, job_of}
use Rattle.quiet_run.specs.Runs.{IsKnownAtMost, IsStoppedRun, IsStoppedWith, IsWithinLimits}
use Rattle.quiet_run.specs.Standing.{IsJob, Job, StandAfter, job}
use Rattle.quiet_run.proofs.Ending.{at_first_so_far, causes_from_first, most_is_known, nodes_some, stopped_from_first, under_way_at_first, within_limits}
use Rattle.counted_node.proofs.Failures.{all_same, no_causes}
use Rattle.quiet_run.proofs.Going.{if_err_with, stopped_before, stopped_with_before}
use Rattle.quiet_run.proofs.Spelling.{all_replies_spelled, history_is_spelled}
use Rattle.quiet_run.proofs.StreamSpelling.{all_placed_spelled}
use Rattle.command_frame.specs.Streams.{unplaced}
use Rattle.quiet_run.proofs.Starts.{begin_with_starts, starts_are_clean}
use Rattle.quiet_run.proofs.serving.serve.Goals as goal

pub returns-in_err-running-clause-stopped : goal.returns-in_err-running-clause-stopped
returns-in_err-running-clause-stopped g c =
    let a_job = job (shape c.args.config) c.args.run c.args.items.now c.args.kept.items in
    let is_job : IsJob a_job = record { is_run = record { in_range = c.args.config.in_range; run_fits = c.requires.run.1; few = c.requires.few; each = c.requires.items }; sound = c.requires.sound } in
    let nodes = map (cluster_node {P = g.row.P.Denot} g.J.Journal.state) c.args.nodes.now in
    if_err_with c.from_residual.result (λ (stop : DriveStop). stop ≡ Memory) (λ (stop : DriveStop). IsStoppedRun a_job nodes stop)
    (λ stop e. subst (IsStoppedRun a_job nodes) (sym e) (stopped_before a_job [] nodes nodes (at_first_so_far a_job nodes is_job c.requires.nodes) refl))
    c.from_residual.ensures.1

pub run_to_end-requires : goal.run_to_end-requires
run_to_end-requires g c =
    let a_job = job (shape c.args.config) c.args.run c.args.items.now c.args.kept.items in
    let is_job : IsJob a_job = record { is_run = record { in_range = c.args.config.in_range; run_fits = c.requires.run.1; few = c.requires.few; each = c.requires.items }; sound = c.requires.sound } in
    let nodes = map (cluster_node {P = g.row.P.Denot} g.J.Journal.state) c.args.nodes.now in
    let begins = subst (λ (k : List Kept). IsBeginning (job (shape c.args.config) c.args.run c.args.items.now k) c.in_ok-running.running) c.deref.ensures.value c.in_ok-running.ensures in
    subst (λ (j : Job). IsUnderWay j c.in_ok-running.running nodes) (sym begins.job_is) (under_way_at_first a_job nodes is_job c.requires.nodes c.in_ok-running.running begins)

pub returns-in_err-run_to_end-clause-stopped : goal.returns-in_err-run_to_end-clause-stopped
returns-in_err-run_to_end-clause-stopped g c =
    let a_job = job (shape c.args.config) c.args.run c.args.items.now c.args.kept.items in
    let begins = subst (λ (k : List Kept). IsBeginning (job (shape c.args.config) c.args.run c.args.items.now k) c.in_ok-running.running) c.deref.ensures.value c.in_ok-running.ensures in
    let new = map (cluster_node {P = g.row.P.Denot} g.J.Journal.state) c.run_to_end.new.nodes in
    if_err_with c.from_residual-in_err-run_to_end.result (λ (stop : DriveStop). stop ≡ c.in_err-run_to_end.field-0.0) (λ (stop : DriveStop). IsStoppedRun a_job new stop)
    (λ stop e. subst (IsStoppedRun a_job new) (sym e) (subst (λ (j : Job). IsStoppedRun j new c.in_err-run_to_end.field-0.0) begins.job_is c.in_err-run_to_end.ensures.err))
    c.from_residual-in_err-run_to_end.ensures.1

pub finish-requires : goal.finish-requires
finish-requires g c =
    let a_job = job (shape c.args.config) c.args.run c.args.items.now c.args.kept.items in
    let begins = subst (λ (k : List Kept). IsBeginning (job (shape c.args.config) c.args.run c.args.items.now k) c.in_ok-running.running) c.deref.ensures.value c.in_ok-running.ensures in
    let new = map (cluster_node {P = g.row.P.Denot} g.J.Journal.state) c.run_to_end.new.nodes in
    let is : job_of c.run_to_end.new.running ≡ a_job = c.in_ok-run_to_end.ensures.same ∙ begins.job_is in
    let events = c.run_to_end.new.running.events.items in
    let over = subst (λ (j : Job). IsOver j c.run_to_end.new.running.events.items c.run_to_end.new.running.bytes c.run_to_end.new.running.schedule.replies new) is c.in_ok-run_to_end.ensures.over in
    let some = nodes_some a_job.config over.way.is_job.is_run.in_range in
    let all = over.way.so_far.stand.all in
    omega (arith, some, all, length-map c.run_to_end.new.nodes (cluster_node {P = g.row.P.Denot} g.J.Journal.state))

pub returns-clause-given : goal.returns-clause-given
returns-clause-given g c =
    (ap (λ (h : History). h.config) c.finish.ensures.history, ap (λ (h : History). h.run) c.finish.ensures.history, ap (λ (h : History). h.kept) c.finish.ensures.history ∙ c.of.ensures)

pub returns-clause-lawful : goal.returns-clause-lawful
returns-clause-lawful g c =
    let a_job = job (shape c.args.config) c.args.run c.args.items.now c.args.kept.items in
    let begins = subst (λ (k : List Kept). IsBeginning (job (shape c.args.config) c.args.run c.args.items.now k) c.in_ok-running.running) c.deref.ensures.value c.in_ok-running.ensures in
    let new = map (cluster_node {P = g.row.P.Denot} g.J.Journal.state) c.run_to_end.new.nodes in
    let is : job_of c.run_to_end.new.running ≡ a_job = c.in_ok-run_to_end.ensures.same ∙ begins.job_is in
    let events = c.run_to_end.new.running.events.items in
    let over = subst (λ (j : Job). IsOver j c.run_to_end.new.running.events.items c.run_to_end.new.running.bytes c.run_to_end.new.running.schedule.replies new) is c.in_ok-run_to_end.ensures.over in
    let events_are : c.finish.result.history.events ≡ c.run_to_end.new.running.events.items = ap (λ (h : History). h.events) c.finish.ensures.history ∙ c.of-2.ensures ∙ (λ i. (c.take_apart-replies.ensures.events i).items) in
    let config_is : c.finish.result.history.config ≡ c.args.config = ap (λ (h : History). h.config) c.finish.ensures.history in
    let run_is : c.finish.result.history.run ≡ c.args.run = ap (λ (h : History). h.run) c.finish.ensures.history in
    let kept_are : c.finish.result.history.kept ≡ c.args.kept.items = ap (λ (h : History). h.kept) c.finish.ensures.history ∙ c.of.ensures in
    subst (λ (x : Config × ℕ × List Kept × List Event). IsLegal (shape x.0) x.1 (payloads_on x.2) x.3) (λ i. (sym config_is i, sym run_is i, sym kept_are i, sym events_are i)) over.way.so_far.legal

pub returns-clause-driven : goal.returns-clause-driven
returns-clause-driven g c =
    let a_job = job (shape c.args.config) c.args.run c.args.items.now c.args.kept.items in
    let begins = subst (λ (k : List Kept). IsBeginning (job (shape c.args.config) c.args.run c.args.items.now k) c.in_ok-running.running) c.deref.ensures.value c.in_ok-running.ensures in
    let new = map (cluster_node {P = g.row.P.Denot} g.J.Journal.state) c.run_to_end.new.nodes in
    let is : job_of c.run_to_end.new.running ≡ a_job = c.in_ok-run_to_end.ensures.same ∙ begins.job_is in
    let events = c.run_to_end.new.running.events.items in
    let over = subst (λ (j : Job). IsOver j c.run_to_end.new.running.events.items c.run_to_end.new.running.bytes c.run_to_end.new.running.schedule.replies new) is c.in_ok-run_to_end.ensures.over in
    let events_are : c.finish.result.history.events ≡ c.run_to_end.new.running.events.items = ap (λ (h : History). h.events) c.finish.ensures.history ∙ c.of-2.ensures ∙ (λ i. (c.take_apart-replies.ensures.events i).items) in
    subst (λ (es : List Event). IsDriven (shape c.args.config) c.args.run c.args.items.now es) (sym events_are) (record { followed = over.way.so_far.followed; over = over.over })

pub returns-clause-replies : goal.returns-clause-replies
returns-clause-replies g c =
    let a_job = job (shape c.args.config) c.args.run c.args.items.now c.args.kept.items in
    let begins = subst (λ (k : List Kept). IsBeginning (job (shape c.args.config) c.args.run c.args.items.now k) c.in_ok-running.running) c.deref.ensures.value c.in_ok-running.ensures in
    let new = map (cluster_node {P = g.row.P.Denot} g.J.Journal.state) c.run_to_end.new.nodes in
    let is : job_of c.run_to_end.new.running ≡ a_job = c.in_ok-run_to_end.ensures.same ∙ begins.job_is in
    let events = c.run_to_end.new.running.events.items in
    let over = subst (λ (j : Job). IsOver j c.run_to_end.new.running.events.items c.run_to_end.new.running.bytes c.run_to_end.new.running.schedule.replies new) is c.in_ok-run_to_end.ensures.over in
    let events_are : c.finish.result.history.events ≡ c.run_to_end.new.running.events.items = ap (λ (h : History). h.events) c.finish.ensures.history ∙ c.of-2.ensures ∙ (λ i. (c.take_apart-replies.ensures.events i).items) in
    let replies_are : map unplaced c.finish.result.replies ≡ replies_of (shape c.args.config) c.args.run c.args.items.now events =
    ap (map unplaced) c.finish.ensures.replies ∙ c.take_apart-replies.ensures.replies ∙ over.replies_are in
    replies_are ∙ ap (λ (es : List Event). replies_of (shape c.args.config) c.args.run c.args.items.now es) (sym events_are)

pub returns-clause-each : goal.returns-clause-each
returns-clause-each g c =
    let a_job = job (shape c.args.config) c.args.run c.args.items.now c.args.kept.items in
    let begins = subst (λ (k : List Kept). IsBeginning (job (shape c.args.config) c.args.run c.args.items.now k) c.in_ok-running.running) c.deref.ensures.value c.in_ok-running.ensures in
    let new = map (cluster_node {P = g.row.P.Denot} g.J.Journal.state) c.run_to_end.new.nodes in
    let is : job_of c.run_to_end.new.running ≡ a_job = c.in_ok-run_to_end.ensures.same ∙ begins.job_is in
    let events = c.run_to_end.new.running.events.items in
    let over = subst (λ (j : Job). IsOver j c.run_to_end.new.running.events.items c.run_to_end.new.running.bytes c.run_to_end.new.running.schedule.replies new) is c.in_ok-run_to_end.ensures.over in
    let replies_are : map unplaced c.finish.result.replies ≡ replies_of (shape c.args.config) c.args.run c.args.items.now events =
    ap (map unplaced) c.finish.ensures.replies ∙ c.take_apart-replies.ensures.replies ∙ over.replies_are in
    sym (length-map c.finish.result.replies unplaced) ∙ ap (λ (l : List Reply). length l) replies_are ∙ replies_all (shape c.args.config) c.args.run c.args.items.now events over.over

pub returns-clause-nodes : goal.returns-clause-nodes
returns-clause-nodes g c =
    let a_job = job (shape c.args.config) c.args.run c.args.items.now c.args.kept.items in
    let begins = subst (λ (k : List Kept). IsBeginning (job (shape c.args.config) c.args.run c.args.items.now k) c.in_ok-running.running) c.deref.ensures.value c.in_ok-running.ensures in
    let new = map (cluster_node {P = g.row.P.Denot} g.J.Journal.state) c.run_to_end.new.nodes in
    let is : job_of c.run_to_end.new.running ≡ a_job = c.in_ok-run_to_end.ensures.same ∙ begins.job_is in
    let events = c.run_to_end.new.running.events.items in
    let over = subst (λ (j : Job). IsOver j c.run_to_end.new.running.events.items c.run_to_end.new.running.bytes c.run_to_end.new.running.schedule.replies new) is c.in_ok-run_to_end.ensures.over in
    let events_are : c.finish.result.history.events ≡ c.run_to_end.new.running.events.items = ap (λ (h : History). h.events) c.finish.ensures.history ∙ c.of-2.ensures ∙ (λ i. (c.take_apart-replies.ensures.events i).items) in
    subst (λ (es : List Event). StandAfter a_job es new) (sym events_are) over.way.so_far.stand

pub returns-clause-limits : goal.returns-clause-limits
returns-clause-limits g c =
    let a_job = job (shape c.args.config) c.args.run c.args.items.now c.args.kept.items in
    let begins = subst (λ (k : List Kept). IsBeginning (job (shape c.args.config) c.args.run c.args.items.now k) c.in_ok-running.running) c.deref.ensures.value c.in_ok-running.ensures in
    let new = map (cluster_node {P = g.row.P.Denot} g.J.Journal.state) c.run_to_end.new.nodes in
    let is : job_of c.run_to_end.new.running ≡ a_job = c.in_ok-run_to_end.ensures.same ∙ begins.job_is in
    let events = c.run_to_end.new.running.events.items in
    let over = subst (λ (j : Job). IsOver j c.run_to_end.new.running.events.items c.run_to_end.new.running.bytes c.run_to_end.new.running.schedule.replies new) is c.in_ok-run_to_end.ensures.over in
    let events_are : c.finish.result.history.events ≡ c.run_to_end.new.running.events.items = ap (λ (h : History). h.events) c.finish.ensures.history ∙ c.of-2.ensures ∙ (λ i. (c.take_apart-replies.ensures.events i).items) in
    subst (λ (es : List Event). IsWithinLimits a_job es) (sym events_are) (within_limits a_job events over.way.no_limit over.none)

pub returns-clause-known : goal.returns-clause-known
returns-clause-known g c =
    let a_job = job (shape c.args.config) c.args.run c.args.items.now c.args.kept.items in
    let begins = subst (λ (k : List Kept). IsBeginning (job (shape c.args.config) c.args.run c.args.items.now k) c.in_ok-running.running) c.deref.ensures.value c.in_ok-running.ensures in
    let new = map (cluster_node {P = g.row.P.Denot} g.J.Journal.state) c.run_to_end.new.nodes in
    let is : job_of c.run_to_end.new.running ≡ a_job = c.in_ok-run_to_end.ensures.same ∙ begins.job_is in
    let events = c.run_to_end.new.running.events.items in
    let over = subst (λ (j : Job). IsOver j c.run_to_end.new.running.events.items c.run_to_end.new.running.bytes c.run_to_end.new.running.schedule.replies new) is c.in_ok-run_to_end.ensures.over in
    let events_are : c.finish.result.history.events ≡ c.run_to_end.new.running.events.items = ap (λ (h : History). h.events) c.finish.ensures.history ∙ c.of-2.ensures ∙ (λ i. (c.take_apart-replies.ensures.events i).items) in
    subst (λ (es : List Event). IsKnownAtMost a_job es c.finish.result.known c.finish.result.end.0 c.finish.result.trim.0) (sym events_are)
    (most_is_known a_job events new c.finish.result.known c.finish.result.end.0 c.finish.result.trim.0 over.way.so_far.stand c.finish.ensures.known)

pub returns-in_err-running-clause-counts : goal.returns-in_err-running-clause-counts
returns-in_err-running-clause-counts g c =
    let media = node_media {P = g.row.P.Denot} g.J.Journal.state g.J.Journal.faults g.J.Journal.keeps_synced g.J.Journal.turns in
    all_same (map media c.args.nodes.now)

pub returns-in_err-running-clause-stopped_causes : goal.returns-in_err-running-clause-stopped_causes
returns-in_err-running-clause-stopped_causes g c =
    let a_job = job (shape c.args.config) c.args.run c.args.items.now c.args.kept.items in
    let is_job : IsJob a_job = record { is_run = record { in_range = c.args.config.in_range; run_fits = c.requires.run.1; few = c.requires.few; each = c.requires.items }; sound = c.requires.sound } in
    let nodes = map (cluster_node {P = g.row.P.Denot} g.J.Journal.state) c.args.nodes.now in
    let media = node_media {P = g.row.P.Denot} g.J.Journal.state g.J.Journal.faults g.J.Journal.keeps_synced g.J.Journal.turns in
    let told = map media c.args.nodes.now in
    if_err_with c.from_residual.result (λ (stop : DriveStop). stop ≡ Memory) (λ (stop : DriveStop). IsStoppedWith a_job nodes told told stop)
    (λ stop e. subst (IsStoppedWith a_job nodes told told) (sym e)
    (stopped_with_before a_job [] nodes nodes told told (at_first_so_far a_job nodes is_job c.requires.nodes) refl (all_same told) told (no_causes a_job.config told)))
    c.from_residual.ensures.1

pub returns-in_err-run_to_end-clause-counts : goal.returns-in_err-run_to_end-clause-counts
returns-in_err-run_to_end-clause-counts g c =
    let a_job = job (shape c.args.config) c.args.run c.args.items.now c.args.kept.items in
    let begins = subst (λ (k : List Kept). IsBeginning (job (shape c.args.config) c.args.run c.args.items.now k) c.in_ok-running.running) c.deref.ensures.value c.in_ok-running.ensures in
    let new = map (cluster_node {P = g.row.P.Denot} g.J.Journal.state) c.run_to_end.new.nodes in
    let media = node_media {P = g.row.P.Denot} g.J.Journal.state g.J.Journal.faults g.J.Journal.keeps_synced g.J.Journal.turns in
    (stopped_from_first a_job c.in_ok-running.running begins (map media c.args.nodes.now) (map media c.run_to_end.new.nodes) new c.in_err-run_to_end.field-0.0
    c.in_err-run_to_end.ensures.err_causes).causes.counts

pub returns-in_err-run_to_end-clause-stopped_causes : goal.returns-in_err-run_to_end-clause-stopped_causes
returns-in_err-run_to_end-clause-stopped_causes g c =
    let a_job = job (shape c.args.config) c.args.run c.args.items.now c.args.kept.items in
    let begins = subst (λ (k : List Kept). IsBeginning (job (shape c.args.config) c.args.run c.args.items.now k) c.in_ok-running.running) c.deref.ensures.value c.in_ok-running.ensures in
    let new = map (cluster_node {P = g.row.P.Denot} g.J.Journal.state) c.run_to_end.new.nodes in
    let media = node_media {P = g.row.P.Denot} g.J.Journal.state g.J.Journal.faults g.J.Journal.keeps_synced g.J.Journal.turns in
    let told = map media c.args.nodes.now in
    let told_new = map media c.run_to_end.new.nodes in
    if_err_with c.from_residual-in_err-run_to_end.result (λ (stop : DriveStop). stop ≡ c.in_err-run_to_end.field-0.0) (λ (stop : DriveStop). IsStoppedWith a_job new told told_new stop)
    (λ stop e. subst (IsStoppedWith a_job new told told_new) (sym e)
    (stopped_from_first a_job c.in_ok-running.running begins told told_new new c.in_err-run_to_end.field-0.0 c.in_err-run_to_end.ensures.err_causes))
    c.from_residual-in_err-run_to_end.ensures.1

pub returns-clause-spelled : goal.returns-clause-spelled
returns-clause-spelled g c =
    let a_job = job (shape c.args.config) c.args.run c.args.items.now c.args.kept.items in
    let begins = subst (λ (k : List Kept). IsBeginning (job (shape c.args.config) c.args.run c.args.items.now k) c.in_ok-running.running) c.deref.ensures.value c.in_ok-running.ensures in
    let new = map (cluster_node {P = g.row.P.Denot} g.J.Journal.state) c.run_to_end.new.nodes in
    let is : job_of c.run_to_end.new.running ≡ a_job = c.in_ok-run_to_end.ensures.same ∙ begins.job_is in
    let over = subst (λ (j : Job). IsOver j c.run_to_end.new.running.events.items c.run_to_end.new.running.bytes c.run_to_end.new.running.schedule.replies new) is c.in_ok-run_to_end.ensures.over in
    let events_are : c.finish.result.history.events ≡ c.run_to_end.new.running.events.items = ap (λ (h : History). h.events) c.finish.ensures.history ∙ c.of-2.ensures ∙ (λ i. (c.take_apart-replies.ensures.events i).items) in
    let run_is : c.finish.result.history.run ≡ c.args.run = ap (λ (h : History). h.run) c.finish.ensures.history in
    history_is_spelled c.finish.result.history (subst (λ (n : ℕ). 1 ≤ n) (sym run_is) c.requires.run.0) (subst (λ (n : ℕ). n ≤ 1000000) (sym run_is) c.requires.run.1)
    (returns-clause-lawful g c) (subst (λ (es : List Event). AllByRecursion IsEvent es) (sym events_are) over.way.so_far.spelled)

pub returns-clause-replies_spelled : goal.returns-clause-replies_spelled
returns-clause-replies_spelled g c =
    let a_job = job (shape c.args.config) c.args.run c.args.items.now c.args.kept.items in
    let begins = subst (λ (k : List Kept). IsBeginning (job (shape c.args.config) c.args.run c.args.items.now k) c.in_ok-running.running) c.deref.ensures.value c.in_ok-running.ensures in
    let new = map (cluster_node {P = g.row.P.Denot} g.J.Journal.state) c.run_to_end.new.nodes in
    let is : job_of c.run_to_end.new.running ≡ a_job = c.in_ok-run_to_end.ensures.same ∙ begins.job_is in
    let over = subst (λ (j : Job). IsOver j c.run_to_end.new.running.events.items c.run_to_end.new.running.bytes c.run_to_end.new.running.schedule.replies new) is c.in_ok-run_to_end.ensures.over in
    all_placed_spelled c.finish.result.replies
    (subst (λ (rs : List Reply). AllByRecursion HasSpelling rs) (sym (ap (map unplaced) c.finish.ensures.replies ∙ c.take_apart-replies.ensures.replies ∙ over.replies_are))
    (all_replies_spelled (shape c.args.config) c.args.run a_job.kept c.args.items.now c.run_to_end.new.running.events.items over.way.so_far.legal c.requires.items
    over.way.so_far.spelled))

pub returns-clause-starts : goal.returns-clause-starts
returns-clause-starts g c =
    let a_job = job (shape c.args.config) c.args.run c.args.items.now c.args.kept.items in
    let begins = subst (λ (k : List Kept). IsBeginning (job (shape c.args.config) c.args.run c.args.items.now k) c.in_ok-running.running) c.deref.ensures.value c.in_ok-running.ensures in
    let new = map (cluster_node {P = g.row.P.Denot} g.J.Journal.state) c.run_to_end.new.nodes in
    let is : job_of c.run_to_end.new.running ≡ a_job = c.in_ok-run_to_end.ensures.same ∙ begins.job_is in
    let over = subst (λ (j : Job). IsOver j c.run_to_end.new.running.events.items c.run_to_end.new.running.bytes c.run_to_end.new.running.schedule.replies new) is c.in_ok-run_to_end.ensures.over in
    let events_are : c.finish.result.history.events ≡ c.run_to_end.new.running.events.items = ap (λ (h : History). h.events) c.finish.ensures.history ∙ c.of-2.ensures ∙ (λ i. (c.take_apart-replies.ensures.events i).items) in
    subst (λ (es : List Event). BeginWithStarts (shape c.args.config) es) (sym events_are)
    (begin_with_starts a_job c.run_to_end.new.running.events.items over.way.so_far.legal over.way.so_far.followed
    (all_started a_job.config a_job.run a_job.items c.run_to_end.new.running.events.items over.way.so_far.followed over.over))

pub returns-clause-opened : goal.returns-clause-opened
returns-clause-opened g c =
    let a_job = job (shape c.args.config) c.args.run c.args.items.now c.args.kept.items in
    let begins = subst (λ (k : List Kept). IsBeginning (job (shape c.args.config) c.args.run c.args.items.now k) c.in_ok-running.running) c.deref.ensures.value c.in_ok-running.ensures in
    let new = map (cluster_node {P = g.row.P.Denot} g.J.Journal.state) c.run_to_end.new.nodes in
    let is : job_of c.run_to_end.new.running ≡ a_job = c.in_ok-run_to_end.ensures.same ∙ begins.job_is in
    let over = subst (λ (j : Job). IsOver j c.run_to_end.new.running.events.items c.run_to_end.new.running.bytes c.run_to_end.new.running.schedule.replies new) is c.in_ok-run_to_end.ensures.over in
    let events_are : c.finish.result.history.events ≡ c.run_to_end.new.running.events.items = ap (λ (h : History). h.events) c.finish.ensures.history ∙ c.of-2.ensures ∙ (λ i. (c.take_apart-replies.ensures.events i).items) in
    let media = node_media {P = g.row.P.Denot} g.J.Journal.state g.J.Journal.faults g.J.Journal.keeps_synced g.J.Journal.turns in
    let causes = causes_from_first a_job c.in_ok-running.running begins (map media c.args.nodes.now) (map media c.run_to_end.new.nodes) c.run_to_end.new.running.events.items
    c.in_ok-run_to_end.ensures.causes in
    subst (λ (es : List Event). StartsAreClean (shape c.args.config) es (map media c.args.nodes.now) (map media c.run_to_end.new.nodes)) (sym events_are)
    (starts_are_clean a_job c.run_to_end.new.running.events.items over.way.so_far.legal over.way.so_far.followed (map media c.args.nodes.now) (map media c.run_to_end.new.nodes) causes)

pub returns-clause-causes : goal.returns-clause-causes
returns-clause-causes g c =
    let a_job = job (shape c.args.config) c.args.run c.args.items.now c.args.kept.items in
    let begins = subst (λ (k : List Kept). IsBeginning (job (shape c.args.config) c.args.run c.args.items.now k) c.in_ok-running.running) c.deref.ensures.value c.in_ok-running.ensures in
    let events_are : c.finish.result.history.events ≡ c.run_to_end.new.running.events.items = ap (λ (h : History). h.events) c.finish.ensures.history ∙ c.of-2.ensures ∙ (λ i. (c.take_apart-replies.ensures.events i).items) in
    let media = node_media {P = g.row.P.Denot} g.J.Journal.state g.J.Journal.faults g.J.Journal.keeps_synced g.J.Journal.turns in
    let causes = causes_from_first a_job c.in_ok-running.running begins (map media c.args.nodes.now) (map media c.run_to_end.new.nodes) c.run_to_end.new.running.events.items
    c.in_ok-run_to_end.ensures.causes in
    subst (λ (es : List Event). HaveCauses (shape c.args.config) es (map media c.args.nodes.now) (map media c.run_to_end.new.nodes)) (sym events_are) causes

pub returns-clause-counts : goal.returns-clause-counts
returns-clause-counts g c =
    let a_job = job (shape c.args.config) c.args.run c.args.items.now c.args.kept.items in
    let begins = subst (λ (k : List Kept). IsBeginning (job (shape c.args.config) c.args.run c.args.items.now k) c.in_ok-running.running) c.deref.ensures.value c.in_ok-running.ensures in
    let media = node_media {P = g.row.P.Denot} g.J.Journal.state g.J.Journal.faults g.J.Journal.keeps_synced g.J.Journal.turns in
    let causes = causes_from_first a_job c.in_ok-running.running begins (map media c.args.nodes.now) (map media c.run_to_end.new.nodes) c.run_to_end.new.running.events.items
    c.in_ok-run_to_end.ensures.causes in
    causes.counts
