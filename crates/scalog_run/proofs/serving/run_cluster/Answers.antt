use Rattle.std.proofs.Common.{ℕ, List, Ok, Err, subst}
use Rattle.log_base.specs.Shape.{shape}
use Rattle.cluster_disks.specs.Lent.{disks, lain}
use Rattle.scalog_run.specs.Output.{Sends, sinking}
use Rattle.scalog_run.specs.Run.{world}
use Rattle.scalog_run.specs.RunCluster.{RanCluster}
use Rattle.scalog_run.proofs.Completing.{serves_all}
use Rattle.scalog_run.proofs.serving.run_cluster.Goals as goal

-- the output was sent
pub returns-in-Ok-clause-complete : goal.returns-in-Ok-clause-complete
returns-in-Ok-clause-complete g c =
    let by = disks g.Q.D.Disk.reads g.Q.D.Disk.may_leave g.Q.D.Disk.keeps_synced g.Q.D.Disk.faults in
    let under = lain g.Q.Rack.disk_at g.Q.Rack.disk_faults g.Q.Rack.faults in
    let options = c.args.options.now in
    let old = world (g.S.Source.left c.args.source.now) (g.S.Source.faults c.args.source.now) (under c.args.rack.now) in
    let new = world (g.S.Source.left c.cluster_over.new.source) (g.S.Source.faults c.cluster_over.new.source) (under c.cluster_over.new.rack) in
    let sink_old = sinking (g.K.Sink.taken c.args.sink.now) (g.K.Sink.faults c.args.sink.now) in
    let sink_new = sinking (g.K.Sink.taken c.send_bytes.new.sink) (g.K.Sink.faults c.send_bytes.new.sink) in
    let ran : RanCluster by (shape options.config) options.run options.workers old new sink_old sink_new c.send_bytes.result = record {
      outcome = Ok c.in-Ok.output.items;
      comes = c.in-Ok.ensures.output;
      sends = subst (λ (bytes : List ℕ). Sends bytes 0 sink_old sink_new c.send_bytes.result) c.deref.ensures.value c.send_bytes.ensures;
    } in
    serves_all by (shape options.config) options.config.in_range options.run options.workers old new sink_old sink_new c.send_bytes.result ran

-- a fault was told
pub returns-in-Err-clause-complete : goal.returns-in-Err-clause-complete
returns-in-Err-clause-complete g c =
    let by = disks g.Q.D.Disk.reads g.Q.D.Disk.may_leave g.Q.D.Disk.keeps_synced g.Q.D.Disk.faults in
    let under = lain g.Q.Rack.disk_at g.Q.Rack.disk_faults g.Q.Rack.faults in
    let options = c.args.options.now in
    let old = world (g.S.Source.left c.args.source.now) (g.S.Source.faults c.args.source.now) (under c.args.rack.now) in
    let new = world (g.S.Source.left c.cluster_over.new.source) (g.S.Source.faults c.cluster_over.new.source) (under c.cluster_over.new.rack) in
    let sink_old = sinking (g.K.Sink.taken c.args.sink.now) (g.K.Sink.faults c.args.sink.now) in
    let sink_new = sinking (g.K.Sink.taken c.send_fault.new.sink) (g.K.Sink.faults c.send_fault.new.sink) in
    let ran : RanCluster by (shape options.config) options.run options.workers old new sink_old sink_new c.send_fault.result = record {
      outcome = Err c.in-Err.fault;
      comes = c.in-Err.ensures.fault;
      sends = c.send_fault.ensures;
    } in
    serves_all by (shape options.config) options.config.in_range options.run options.workers old new sink_old sink_new c.send_fault.result ran
