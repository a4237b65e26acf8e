use Rattle.std.proofs.Common.{◌≡◌, ℕ, List, [], length, arith, subst}
use Rattle.log_base.specs.declared.cluster_shape.Config.{Config}
use Rattle.log_base.specs.Shape.{shape}
use Rattle.cluster_disks.specs.Lent.{IsDisk, IsDiskBelow, disks, lain}
use Rattle.cluster_disks.specs.Nodes.{nodes_in}
use Rattle.cluster_disks.proofs.Lending.{stays_join}
use Rattle.cluster_run.specs.Runs.{IsHalted, IsHaltedWith}
use Rattle.node_model.specs.Sound.{payloads_on}
use Rattle.quiet_run.specs.Standing.{job}
use Rattle.scalog_run.specs.declared.fault.RunFault.{RunFault}
use Rattle.scalog_run.specs.Faults.{opening_fault}
use Rattle.scalog_run.specs.Served.{IsNotServed}
use Rattle.scalog_run.proofs.Causes.{told_in}
use Rattle.scalog_run.proofs.ServedRun.{dropped, half_served, halted_there, not_begun, served_run, stand_as}
use Rattle.scalog_run.proofs.Whole.{IsBack, all_seated, as_many, if_err_with}
use Rattle.scalog_run.proofs.serving.serve_over.Goals as goal

-- the cluster could not be opened
pub returns-in_err-nodes-clause-fault : goal.returns-in_err-nodes-clause-fault
returns-in_err-nodes-clause-fault g c =
    let by = disks g.Q.D.Disk.reads g.Q.D.Disk.may_leave g.Q.D.Disk.keeps_synced g.Q.D.Disk.faults in
    let under = lain g.Q.Rack.disk_at g.Q.Rack.disk_faults g.Q.Rack.faults in
    let config = c.args.options.now.config in
    let run = c.args.options.now.run in
    let old = under c.args.rack.now in
    let new = under c.open_cluster.new.rack in
    let stop = c.in_err-nodes.field-0.0 in
    if_err_with c.from_residual.result (λ (fault : RunFault). fault ≡ opening_fault stop) (λ (fault : RunFault). IsNotServed by (shape config) run fault old new)
    (λ fault is. not_begun by (shape config) config.in_range run old new stop fault is c.in_err-nodes.ensures.fails c.in_err-nodes.ensures.back)
    c.from_residual.ensures.1

-- the nodes stand after the history
pub close_nodes-requires-clause-seated : goal.close_nodes-requires-clause-seated
close_nodes-requires-clause-seated g c κs within =
    let config = shape c.args.options.now.config in
    let kept = c.in_ok-nodes.field-0.kept.items in
    let events = c.in-Ok.served.history.events in
    let nodes = c.in-Ok.served.nodes.items in
    all_seated (job config c.args.options.now.run [] kept) events nodes (stand_as config c.args.options.now.run kept events (nodes_in nodes) c.in-Ok.ensures.stand)

pub close_nodes-requires-clause-lent : goal.close_nodes-requires-clause-lent
close_nodes-requires-clause-lent g c κs within number is =
    let config = shape c.args.options.now.config in
    let kept = c.in_ok-nodes.field-0.kept.items in
    let events = c.in-Ok.served.history.events in
    let nodes = c.in-Ok.served.nodes.items in
    let all = as_many (job config c.args.options.now.run [] kept) events nodes (stand_as config c.args.options.now.run kept events (nodes_in nodes) c.in-Ok.ensures.stand) in
    c.in_ok-nodes.ensures.lent number (subst (λ (n : ℕ). IsDiskBelow config n number) all is)

-- all items were served
pub returns-in-Ok-clause-served : goal.returns-in-Ok-clause-served
returns-in-Ok-clause-served g c =
    let by = disks g.Q.D.Disk.reads g.Q.D.Disk.may_leave g.Q.D.Disk.keeps_synced g.Q.D.Disk.faults in
    let under = lain g.Q.Rack.disk_at g.Q.Rack.disk_faults g.Q.Rack.faults in
    let config = c.args.options.now.config in
    let run = c.args.options.now.run in
    let old = under c.args.rack.now in
    let new = under c.close_nodes.new.rack in
    let served = c.in-Ok.served in
    let before = c.in_ok-nodes.field-0.nodes.items in
    let after = served.nodes.items in
    let kept = c.in_ok-nodes.field-0.kept.items in
    let back : IsBack by (shape config) run old new before after kept = record {
      start = c.in_ok-nodes.ensures.start;
      standing = c.in_ok-nodes.ensures.counts;
      back = c.close_nodes.ensures.back;
      counts = c.in-Ok.ensures.causes.counts;
      rack = λ number. omega (arith, c.open_cluster.ensures.later, c.close_nodes.ensures.later);
    } in
    served_run by (shape config) config.in_range run old new before after kept back c.args.items.items c.args.options.now.workers served.history served.replies
    c.in-Ok.ensures.given.2 c.requires.items c.in-Ok.ensures.run c.in-Ok.ensures.stand c.in-Ok.ensures.spelled c.in-Ok.ensures.opened c.in-Ok.ensures.causes

pub returns-in-Ok-clause-others : goal.returns-in-Ok-clause-others
returns-in-Ok-clause-others g c =
    let config = shape c.args.options.now.config in
    let kept = c.in_ok-nodes.field-0.kept.items in
    let events = c.in-Ok.served.history.events in
    let nodes = c.in-Ok.served.nodes.items in
    let all = as_many (job config c.args.options.now.run [] kept) events nodes (stand_as config c.args.options.now.run kept events (nodes_in nodes) c.in-Ok.ensures.stand) in
    stays_join g.Q.Rack.lent_under g.Q.Rack.disk_faults g.Q.Rack.disk_at (IsDisk config) (IsDiskBelow config (length nodes)) (IsDisk config)
    c.args.rack.now c.open_cluster.new.rack c.close_nodes.new.rack (λ k is. is) (λ k is. subst (λ (n : ℕ). IsDiskBelow config n k) all is)
    c.open_cluster.ensures.others c.close_nodes.ensures.others

-- it stopped, and its nodes stand after the events so far
pub close_nodes-requires-in-Some-clause-seated : goal.close_nodes-requires-in-Some-clause-seated
close_nodes-requires-in-Some-clause-seated g c κs within =
    let config = shape c.args.options.now.config in
    let kept = c.in_ok-nodes.field-0.kept.items in
    let nodes = c.in-Some.nodes.items in
    let halted = halted_there c.in-Err.stopped.nodes c.in-Some.nodes c.in-Some.is
    (λ n. IsHalted (shape c.args.options.now.config) c.args.options.now.run (payloads_on c.in_ok-nodes.field-0.kept.items) (nodes_in n.items) c.in-Err.stopped.stop) c.in-Err.ensures.stop in
    all_seated (job config c.args.options.now.run [] kept) halted.events nodes (stand_as config c.args.options.now.run kept halted.events (nodes_in nodes) halted.stand)

pub close_nodes-requires-in-Some-clause-lent : goal.close_nodes-requires-in-Some-clause-lent
close_nodes-requires-in-Some-clause-lent g c κs within number is =
    let config = shape c.args.options.now.config in
    let kept = c.in_ok-nodes.field-0.kept.items in
    let nodes = c.in-Some.nodes.items in
    let halted = halted_there c.in-Err.stopped.nodes c.in-Some.nodes c.in-Some.is
    (λ n. IsHalted (shape c.args.options.now.config) c.args.options.now.run (payloads_on c.in_ok-nodes.field-0.kept.items) (nodes_in n.items) c.in-Err.stopped.stop) c.in-Err.ensures.stop in
    let all = as_many (job config c.args.options.now.run [] kept) halted.events nodes (stand_as config c.args.options.now.run kept halted.events (nodes_in nodes) halted.stand) in
    c.in_ok-nodes.ensures.lent number (subst (λ (n : ℕ). IsDiskBelow config n number) all is)

pub returns-in-Some-clause-fault : goal.returns-in-Some-clause-fault
returns-in-Some-clause-fault g c =
    let by = disks g.Q.D.Disk.reads g.Q.D.Disk.may_leave g.Q.D.Disk.keeps_synced g.Q.D.Disk.faults in
    let under = lain g.Q.Rack.disk_at g.Q.Rack.disk_faults g.Q.Rack.faults in
    let config = c.args.options.now.config in
    let run = c.args.options.now.run in
    let old = under c.args.rack.now in
    let new = under c.close_nodes-in-Some.new.rack in
    let before = c.in_ok-nodes.field-0.nodes.items in
    let after = c.in-Some.nodes.items in
    let kept = c.in_ok-nodes.field-0.kept.items in
    let stop = c.in-Err.stopped.stop in
    let stopped = halted_there c.in-Err.stopped.nodes c.in-Some.nodes c.in-Some.is
    (λ n. IsHaltedWith (shape config) run (payloads_on kept) (nodes_in n.items) (told_in by before) (told_in by n.items) stop) c.in-Err.ensures.stop_causes in
    let back : IsBack by (shape config) run old new before after kept = record {
      start = c.in_ok-nodes.ensures.start;
      standing = c.in_ok-nodes.ensures.counts;
      back = c.close_nodes-in-Some.ensures.back;
      counts = stopped.causes.counts;
      rack = λ number. omega (arith, c.open_cluster.ensures.later, c.close_nodes-in-Some.ensures.later);
    } in
    half_served by (shape config) config.in_range run old new before after kept back stop c.into.result c.into.ensures stopped

pub returns-in-Some-clause-others : goal.returns-in-Some-clause-others
returns-in-Some-clause-others g c =
    let config = shape c.args.options.now.config in
    let kept = c.in_ok-nodes.field-0.kept.items in
    let nodes = c.in-Some.nodes.items in
    let halted = halted_there c.in-Err.stopped.nodes c.in-Some.nodes c.in-Some.is
    (λ n. IsHalted (shape c.args.options.now.config) c.args.options.now.run (payloads_on c.in_ok-nodes.field-0.kept.items) (nodes_in n.items) c.in-Err.stopped.stop) c.in-Err.ensures.stop in
    let all = as_many (job config c.args.options.now.run [] kept) halted.events nodes (stand_as config c.args.options.now.run kept halted.events (nodes_in nodes) halted.stand) in
    stays_join g.Q.Rack.lent_under g.Q.Rack.disk_faults g.Q.Rack.disk_at (IsDisk config) (IsDiskBelow config (length nodes)) (IsDisk config)
    c.args.rack.now c.open_cluster.new.rack c.close_nodes-in-Some.new.rack (λ k is. is) (λ k is. subst (λ (n : ℕ). IsDiskBelow config n k) all is)
    c.open_cluster.ensures.others c.close_nodes-in-Some.ensures.others

-- it could not be closed
pub returns-in-None-clause-fault : goal.returns-in-None-clause-fault
returns-in-None-clause-fault g c =
    let by = disks g.Q.D.Disk.reads g.Q.D.Disk.may_leave g.Q.D.Disk.keeps_synced g.Q.D.Disk.faults in
    let under = lain g.Q.Rack.disk_at g.Q.Rack.disk_faults g.Q.Rack.faults in
    let config = c.args.options.now.config in
    dropped by (shape config) c.args.options.now.run (under c.args.rack.now) (under c.open_cluster.new.rack)
    (nodes_in c.in_ok-nodes.field-0.nodes.items) c.in_ok-nodes.field-0.kept.items c.in_ok-nodes.ensures.start
    c.in-Err.stopped.stop c.into-in-None.result c.into-in-None.ensures (c.in-Err.ensures.gone c.in-None.is)
