use Rattle.std.proofs.Common.{◌≡◌, ℕ, List, length, sym, ap, ◌∙◌, subst, arith}
use Rattle.std.proofs.lemmas.List.{length-map}
use Rattle.command_frame.specs.Streams.{unplaced}
use Rattle.reply_frame.specs.declared.replies.Reply.{Reply}
use Rattle.log_base.specs.declared.cluster_shape.Config.{Config}
use Rattle.log_base.specs.Shape.{shape}
use Rattle.cluster_disks.specs.Lent.{IsDisk, IsDiskBelow, disks, lain}
use Rattle.cluster_disks.specs.Nodes.{nodes_in}
use Rattle.cluster_disks.proofs.Lending.{stays_join}
use Rattle.history_frame.specs.declared.events.Kept.{Kept}
use Rattle.quiet_run.specs.Runs.{IsKnownAtMost}
use Rattle.quiet_run.specs.Standing.{job}
use Rattle.scalog_run.specs.declared.fault.RunFault.{RunFault}
use Rattle.scalog_run.specs.Faults.{opening_fault, stopping_fault}
use Rattle.scalog_run.specs.Histories.{IsUnanswered}
use Rattle.scalog_run.proofs.Whole.{IsBack, IsFinished, all_seated, as_many, if_err_with, later_back, some_stand, stopped_run, unfinished, unstarted, whole_run}
use Rattle.scalog_run.proofs.answering.drive_over.Goals as goal

-- the nodes stand after some events
pub close_nodes-requires-clause-few : goal.close_nodes-requires-clause-few
close_nodes-requires-clause-few g c κs within =
    let a_job = job (shape c.args.options.now.config) c.args.options.now.run c.args.items.now c.in_ok-nodes.field-0.kept.items in
    let stand = some_stand a_job (nodes_in c.drive-driven.new.nodes.items) c.drive-driven.result c.drive-driven.ensures.nodes c.drive-driven.ensures.stopped in
    let all = as_many a_job stand.0 c.drive-driven.new.nodes.items stand.1 in
    omega (arith, all)

pub close_nodes-requires-clause-seated : goal.close_nodes-requires-clause-seated
close_nodes-requires-clause-seated g c κs within =
    let a_job = job (shape c.args.options.now.config) c.args.options.now.run c.args.items.now c.in_ok-nodes.field-0.kept.items in
    let stand = some_stand a_job (nodes_in c.drive-driven.new.nodes.items) c.drive-driven.result c.drive-driven.ensures.nodes c.drive-driven.ensures.stopped in
    all_seated a_job stand.0 c.drive-driven.new.nodes.items stand.1

pub close_nodes-requires-clause-lent : goal.close_nodes-requires-clause-lent
close_nodes-requires-clause-lent g c κs within number is =
    let a_job = job (shape c.args.options.now.config) c.args.options.now.run c.args.items.now c.in_ok-nodes.field-0.kept.items in
    let stand = some_stand a_job (nodes_in c.drive-driven.new.nodes.items) c.drive-driven.result c.drive-driven.ensures.nodes c.drive-driven.ensures.stopped in
    c.in_ok-nodes.ensures.lent number (subst (λ (n : ℕ). IsDiskBelow (shape c.args.options.now.config) n number) (as_many a_job stand.0 c.drive-driven.new.nodes.items stand.1) is)

-- the cluster could not be opened
pub returns-in_err-nodes-clause-fault : goal.returns-in_err-nodes-clause-fault
returns-in_err-nodes-clause-fault g c =
    let by = disks g.Q.D.Disk.reads g.Q.D.Disk.may_leave g.Q.D.Disk.keeps_synced g.Q.D.Disk.faults in
    let under = lain g.Q.Rack.disk_at g.Q.Rack.disk_faults g.Q.Rack.faults in
    let config = c.args.options.now.config in
    let run = c.args.options.now.run in
    let items = c.args.items.now in
    let old = under c.args.rack.now in
    let new = under c.open_cluster.new.rack in
    let stop = c.in_err-nodes.field-0.0 in
    if_err_with c.from_residual.result (λ (fault : RunFault). fault ≡ opening_fault stop) (λ (fault : RunFault). IsUnanswered by (shape config) run items fault old new)
    (λ fault is. unstarted by (shape config) config.in_range run items old new stop fault is c.in_err-nodes.ensures.fails)
    c.from_residual.ensures.1

-- the run stopped
pub returns-in_err-driven-clause-fault : goal.returns-in_err-driven-clause-fault
returns-in_err-driven-clause-fault g c =
    let by = disks g.Q.D.Disk.reads g.Q.D.Disk.may_leave g.Q.D.Disk.keeps_synced g.Q.D.Disk.faults in
    let under = lain g.Q.Rack.disk_at g.Q.Rack.disk_faults g.Q.Rack.faults in
    let config = c.args.options.now.config in
    let run = c.args.options.now.run in
    let items = c.args.items.now in
    let old = under c.args.rack.now in
    let new = under c.close_nodes.new.rack in
    let before = c.in_ok-nodes.field-0.nodes.items in
    let after = c.drive-driven.new.nodes.items in
    let kept = c.in_ok-nodes.field-0.kept.items in
    let back : IsBack by (shape config) run old new before after kept = record {
      start = c.in_ok-nodes.ensures.start;
      standing = c.in_ok-nodes.ensures.counts;
      back = c.close_nodes.ensures.back;
      counts = c.drive-driven.ensures.counts;
      rack = λ number. omega (arith, c.open_cluster.ensures.later, c.close_nodes.ensures.later);
    } in
    let stop = c.in_err-driven.field-0.0 in
    if_err_with c.from_residual-in_err-driven.result (λ (fault : RunFault). fault ≡ stopping_fault stop) (λ (fault : RunFault). IsUnanswered by (shape config) run items fault old new)
    (λ fault is. unfinished by (shape config) config.in_range run items old new stop fault is
    (stopped_run by (shape config) config.in_range run items old new before after kept back stop c.in_err-driven.ensures.stopped_causes))
    c.from_residual-in_err-driven.ensures.1

pub returns-in_err-driven-clause-later : goal.returns-in_err-driven-clause-later
returns-in_err-driven-clause-later g c =
    let by = disks g.Q.D.Disk.reads g.Q.D.Disk.may_leave g.Q.D.Disk.keeps_synced g.Q.D.Disk.faults in
    let under = lain g.Q.Rack.disk_at g.Q.Rack.disk_faults g.Q.Rack.faults in
    let config = c.args.options.now.config in
    let run = c.args.options.now.run in
    let items = c.args.items.now in
    let old = under c.args.rack.now in
    let new = under c.close_nodes.new.rack in
    let before = c.in_ok-nodes.field-0.nodes.items in
    let after = c.drive-driven.new.nodes.items in
    let kept = c.in_ok-nodes.field-0.kept.items in
    let back : IsBack by (shape config) run old new before after kept = record {
      start = c.in_ok-nodes.ensures.start;
      standing = c.in_ok-nodes.ensures.counts;
      back = c.close_nodes.ensures.back;
      counts = c.drive-driven.ensures.counts;
      rack = λ number. omega (arith, c.open_cluster.ensures.later, c.close_nodes.ensures.later);
    } in
    let stopped = c.in_err-driven.ensures.stopped_causes in
    later_back by (shape config) config.in_range run items old new before after kept back stopped.run.events stopped.run.so_far.stand

pub returns-in_err-driven-clause-others : goal.returns-in_err-driven-clause-others
returns-in_err-driven-clause-others g c =
    let config = shape c.args.options.now.config in
    let a_job = job config c.args.options.now.run c.args.items.now c.in_ok-nodes.field-0.kept.items in
    let after = c.drive-driven.new.nodes.items in
    let all = as_many a_job c.in_err-driven.ensures.stopped.events after c.in_err-driven.ensures.stopped.so_far.stand in
    stays_join g.Q.Rack.lent_under g.Q.Rack.disk_faults g.Q.Rack.disk_at (IsDisk config) (IsDiskBelow config (length after)) (IsDisk config)
    c.args.rack.now c.open_cluster.new.rack c.close_nodes.new.rack (λ k is. is) (λ k is. subst (λ (n : ℕ). IsDiskBelow config n k) all is)
    c.open_cluster.ensures.others c.close_nodes.ensures.others

-- the run came to its end
pub returns-clause-whole : goal.returns-clause-whole
returns-clause-whole g c =
    let by = disks g.Q.D.Disk.reads g.Q.D.Disk.may_leave g.Q.D.Disk.keeps_synced g.Q.D.Disk.faults in
    let under = lain g.Q.Rack.disk_at g.Q.Rack.disk_faults g.Q.Rack.faults in
    let config = c.args.options.now.config in
    let run = c.args.options.now.run in
    let items = c.args.items.now in
    let old = under c.args.rack.now in
    let new = under c.close_nodes.new.rack in
    let before = c.in_ok-nodes.field-0.nodes.items in
    let after = c.drive-driven.new.nodes.items in
    let kept = c.in_ok-nodes.field-0.kept.items in
    let back : IsBack by (shape config) run old new before after kept = record {
      start = c.in_ok-nodes.ensures.start;
      standing = c.in_ok-nodes.ensures.counts;
      back = c.close_nodes.ensures.back;
      counts = c.drive-driven.ensures.counts;
      rack = λ number. omega (arith, c.open_cluster.ensures.later, c.close_nodes.ensures.later);
    } in
    let driven = c.in_ok-driven.ensures in
    let history = c.in_ok-driven.field-0.history in
    let finished : IsFinished by (shape config) run items before after kept history = record {
      config_is = ap (λ (one : Config). shape one) driven.given.0;
      run_is = driven.given.1;
      kept_is = driven.given.2;
      lawful = driven.lawful;
      driven = driven.driven;
      each = ap (λ (replies : List Reply). length replies) (sym driven.replies) ∙ length-map c.in_ok-driven.field-0.replies unplaced ∙ driven.each;
      within = driven.limits;
      spelled = driven.spelled;
      starts = driven.starts;
      clean = driven.opened;
      causes = driven.causes;
      stand = driven.nodes;
      fit = c.requires.items;
    } in
    whole_run by (shape config) config.in_range run items old new before after kept back history finished

-- what is known is told of the history
pub returns-clause-known : goal.returns-clause-known
returns-clause-known g c =
    let driven = c.in_ok-driven.field-0 in
    subst (λ (kept : List Kept). IsKnownAtMost (job (shape c.args.options.now.config) c.args.options.now.run c.args.items.now kept) driven.history.events
    driven.known driven.end.0 driven.trim.0) (sym c.in_ok-driven.ensures.given.2) c.in_ok-driven.ensures.known

pub returns-clause-later : goal.returns-clause-later
returns-clause-later g c =
    let by = disks g.Q.D.Disk.reads g.Q.D.Disk.may_leave g.Q.D.Disk.keeps_synced g.Q.D.Disk.faults in
    let under = lain g.Q.Rack.disk_at g.Q.Rack.disk_faults g.Q.Rack.faults in
    let config = c.args.options.now.config in
    let run = c.args.options.now.run in
    let items = c.args.items.now in
    let old = under c.args.rack.now in
    let new = under c.close_nodes.new.rack in
    let before = c.in_ok-nodes.field-0.nodes.items in
    let after = c.drive-driven.new.nodes.items in
    let kept = c.in_ok-nodes.field-0.kept.items in
    let back : IsBack by (shape config) run old new before after kept = record {
      start = c.in_ok-nodes.ensures.start;
      standing = c.in_ok-nodes.ensures.counts;
      back = c.close_nodes.ensures.back;
      counts = c.drive-driven.ensures.counts;
      rack = λ number. omega (arith, c.open_cluster.ensures.later, c.close_nodes.ensures.later);
    } in
    later_back by (shape config) config.in_range run items old new before after kept back c.in_ok-driven.field-0.history.events c.in_ok-driven.ensures.nodes

pub returns-clause-others : goal.returns-clause-others
returns-clause-others g c =
    let config = shape c.args.options.now.config in
    let a_job = job config c.args.options.now.run c.args.items.now c.in_ok-nodes.field-0.kept.items in
    let after = c.drive-driven.new.nodes.items in
    let all = as_many a_job c.in_ok-driven.field-0.history.events after c.in_ok-driven.ensures.nodes in
    stays_join g.Q.Rack.lent_under g.Q.Rack.disk_faults g.Q.Rack.disk_at (IsDisk config) (IsDiskBelow config (length after)) (IsDisk config)
    c.args.rack.now c.open_cluster.new.rack c.close_nodes.new.rack (λ k is. is) (λ k is. subst (λ (n : ℕ). IsDiskBelow config n k) all is)
    c.open_cluster.ensures.others c.close_nodes.ensures.others
