use Rattle.std.proofs.Common.{inr, ◌≤◌, List, None, sym, ap, ◌∙◌, subst, arith}
use Rattle.history_frame.specs.declared.events.Kept.{Kept}
use Rattle.log_base.specs.Shape.{shape}
use Rattle.node_model.specs.Sound.{IsSound, payloads_on}
use Rattle.cluster_disks.specs.declared.stop.OpenStop.TheVariants.{Memory}
use Rattle.cluster_disks.specs.Found.{Rejects, kept_in}
use Rattle.cluster_disks.specs.Lent.{IsDisk, disks, lain}
use Rattle.cluster_disks.specs.Opened.{AreFresh, AreSmall, IsDiskIn}
use Rattle.cluster_disks.proofs.Built.{stand_on}
use Rattle.cluster_disks.proofs.Found.{fresh_all, held_as_read, held_back, later_as_read, later_back, rejected, small_all}
use Rattle.cluster_disks.proofs.Lending.{stays_join}
use Rattle.cluster_disks.proofs.Started.{opened_in, starts}
use Rattle.cluster_disks.proofs.starting.open_cluster.Goals as goal

pub find_kept-requires-clause-small : goal.find_kept-requires-clause-small
find_kept-requires-clause-small g c κs within =
    let rack = g.Q.Rack in
    let by = disks g.Q.D.Disk.reads g.Q.D.Disk.may_leave g.Q.D.Disk.keeps_synced g.Q.D.Disk.faults in
    let few : c.args.config.replicas ≤ 8 = (let range = c.args.config.in_range.replicas in omega arith) in
    subst (λ js. AreSmall js) (sym c.deref.ensures.value)
    (small_all by (shape c.args.config) (lain rack.disk_at rack.disk_faults rack.faults c.args.rack.now) c.in-Ok.journals.items few c.in-Ok.ensures.opened)

pub find_kept-requires-clause-fresh : goal.find_kept-requires-clause-fresh
find_kept-requires-clause-fresh g c κs within =
    let rack = g.Q.Rack in
    let by = disks g.Q.D.Disk.reads g.Q.D.Disk.may_leave g.Q.D.Disk.keeps_synced g.Q.D.Disk.faults in
    subst (λ js. AreFresh js) (sym c.deref.ensures.value)
    (fresh_all by (shape c.args.config) (lain rack.disk_at rack.disk_faults rack.faults c.args.rack.now) c.in-Ok.journals.items c.in-Ok.ensures.opened)

pub close_disks-requires-clause-small : goal.close_disks-requires-clause-small
close_disks-requires-clause-small g c κs within =
    let rack = g.Q.Rack in
    let by = disks g.Q.D.Disk.reads g.Q.D.Disk.may_leave g.Q.D.Disk.keeps_synced g.Q.D.Disk.faults in
    let few : c.args.config.replicas ≤ 8 = (let range = c.args.config.in_range.replicas in omega arith) in
    small_all by (shape c.args.config) (lain rack.disk_at rack.disk_faults rack.faults c.args.rack.now) c.in-Ok.journals.items few c.in-Ok.ensures.opened

pub close_disks-requires-clause-lent : goal.close_disks-requires-clause-lent
close_disks-requires-clause-lent g c κs within number is =
    let rack = g.Q.Rack in
    let by = disks g.Q.D.Disk.reads g.Q.D.Disk.may_leave g.Q.D.Disk.keeps_synced g.Q.D.Disk.faults in
    c.in-Ok.ensures.lent number (opened_in by (shape c.args.config) (lain rack.disk_at rack.disk_faults rack.faults c.args.rack.now) c.in-Ok.journals.items number c.in-Ok.ensures.opened is)

pub returns-in-Err-find_kept-clause-fails : goal.returns-in-Err-find_kept-clause-fails
returns-in-Err-find_kept-clause-fails g c =
    let rack = g.Q.Rack in
    let by = disks g.Q.D.Disk.reads g.Q.D.Disk.may_leave g.Q.D.Disk.keeps_synced g.Q.D.Disk.faults in
    let config = shape c.args.config in
    let told = lain rack.disk_at rack.disk_faults rack.faults in
    let few : c.args.config.replicas ≤ 8 = (let range = c.args.config.in_range.replicas in omega arith) in
    let journals = c.in-Ok.journals.items in
    inr (rejected by config c.args.run c.in-Err-find_kept.stop (told c.args.rack.now) (told c.close_disks.new.rack) journals few c.in-Ok.ensures.opened
    (subst (λ js. Rejects config c.args.run (kept_in 0 js) c.in-Err-find_kept.stop) c.deref.ensures.value c.in-Err-find_kept.ensures.rejects)
    (held_back by config (told c.args.rack.now) (told c.close_disks.new.rack) journals few c.in-Ok.ensures.opened c.close_disks.ensures.back))

pub returns-in-Err-find_kept-clause-back : goal.returns-in-Err-find_kept-clause-back
returns-in-Err-find_kept-clause-back g c =
    let rack = g.Q.Rack in
    let by = disks g.Q.D.Disk.reads g.Q.D.Disk.may_leave g.Q.D.Disk.keeps_synced g.Q.D.Disk.faults in
    let told = lain rack.disk_at rack.disk_faults rack.faults in
    later_back by (shape c.args.config) (told c.args.rack.now) (told c.close_disks.new.rack) c.in-Ok.journals.items c.in-Ok.ensures.opened c.close_disks.ensures.back
    (λ k. let a = c.in-Ok.ensures.later in let b = c.close_disks.ensures.later in omega arith)

pub returns-in-Err-find_kept-clause-others : goal.returns-in-Err-find_kept-clause-others
returns-in-Err-find_kept-clause-others g c =
    let rack = g.Q.Rack in
    let by = disks g.Q.D.Disk.reads g.Q.D.Disk.may_leave g.Q.D.Disk.keeps_synced g.Q.D.Disk.faults in
    let config = shape c.args.config in
    let told = lain rack.disk_at rack.disk_faults rack.faults in
    stays_join rack.lent_under rack.disk_faults rack.disk_at (IsDisk config) (IsDiskIn c.in-Ok.journals.items) (IsDisk config) c.args.rack.now c.open_disks.new.rack c.close_disks.new.rack
    (λ k is. is) (λ k is. opened_in by config (told c.args.rack.now) c.in-Ok.journals.items k c.in-Ok.ensures.opened is) c.in-Ok.ensures.others c.close_disks.ensures.others

pub make_nodes-requires-clause-small : goal.make_nodes-requires-clause-small
make_nodes-requires-clause-small g c κs within =
    let rack = g.Q.Rack in
    let by = disks g.Q.D.Disk.reads g.Q.D.Disk.may_leave g.Q.D.Disk.keeps_synced g.Q.D.Disk.faults in
    let few : c.args.config.replicas ≤ 8 = (let range = c.args.config.in_range.replicas in omega arith) in
    small_all by (shape c.args.config) (lain rack.disk_at rack.disk_faults rack.faults c.args.rack.now) c.in-Ok.journals.items few c.in-Ok.ensures.opened

pub make_nodes-requires-clause-fresh : goal.make_nodes-requires-clause-fresh
make_nodes-requires-clause-fresh g c κs within =
    let rack = g.Q.Rack in
    let by = disks g.Q.D.Disk.reads g.Q.D.Disk.may_leave g.Q.D.Disk.keeps_synced g.Q.D.Disk.faults in
    fresh_all by (shape c.args.config) (lain rack.disk_at rack.disk_faults rack.faults c.args.rack.now) c.in-Ok.journals.items c.in-Ok.ensures.opened

pub make_nodes-requires-clause-sound : goal.make_nodes-requires-clause-sound
make_nodes-requires-clause-sound g c κs within =
    let kept = c.in-Ok-find_kept.ensures.kept ∙ ap (λ js. kept_in 0 js) c.deref.ensures.value in
    (c.args.run, subst (λ (l : List Kept). IsSound (shape c.args.config) c.args.run (payloads_on l)) kept c.in-Ok-find_kept.ensures.sound)

pub returns-in-Ok-make_nodes-clause-start : goal.returns-in-Ok-make_nodes-clause-start
returns-in-Ok-make_nodes-clause-start g c =
    let rack = g.Q.Rack in
    let by = disks g.Q.D.Disk.reads g.Q.D.Disk.may_leave g.Q.D.Disk.keeps_synced g.Q.D.Disk.faults in
    let few : c.args.config.replicas ≤ 8 = (let range = c.args.config.in_range.replicas in omega arith) in
    let found = c.in-Ok-find_kept.ensures in
    let kept = c.in-Ok-find_kept.ensures.kept ∙ ap (λ js. kept_in 0 js) c.deref.ensures.value in
    starts by (shape c.args.config) c.args.run (lain rack.disk_at rack.disk_faults rack.faults c.args.rack.now) c.in-Ok.journals.items c.in-Ok-make_nodes.nodes.items c.in-Ok-find_kept.kept.items few
    c.in-Ok.ensures.opened kept c.in-Ok-find_kept.ensures.few c.in-Ok-find_kept.ensures.fit c.in-Ok-find_kept.ensures.sound c.in-Ok-make_nodes.ensures.made c.in-Ok-make_nodes.ensures.all

pub returns-in-Ok-make_nodes-clause-counts : goal.returns-in-Ok-make_nodes-clause-counts
returns-in-Ok-make_nodes-clause-counts g c =
    let rack = g.Q.Rack in
    let by = disks g.Q.D.Disk.reads g.Q.D.Disk.may_leave g.Q.D.Disk.keeps_synced g.Q.D.Disk.faults in
    stand_on by (shape c.args.config) (lain rack.disk_at rack.disk_faults rack.faults c.args.rack.now) c.in-Ok.journals.items c.in-Ok-make_nodes.nodes.items c.in-Ok.ensures.opened c.in-Ok-make_nodes.ensures.made

pub returns-in-Ok-make_nodes-clause-lent : goal.returns-in-Ok-make_nodes-clause-lent
returns-in-Ok-make_nodes-clause-lent g c number is =
    subst (λ r. g.Q.Rack.lent_under r number None) (sym c.in-Ok-make_nodes.ensures.stays) (c.in-Ok.ensures.lent number is)

pub returns-in-Ok-make_nodes-clause-others : goal.returns-in-Ok-make_nodes-clause-others
returns-in-Ok-make_nodes-clause-others g c =
    let rack = g.Q.Rack in
    let config = shape c.args.config in
    stays_join rack.lent_under rack.disk_faults rack.disk_at (IsDisk config) (IsDisk config) (IsDisk config) c.args.rack.now c.open_disks.new.rack c.make_nodes.new.rack
    (λ k is. is) (λ k is. is) c.in-Ok.ensures.others c.make_nodes.ensures.others

pub returns-in-Err-make_nodes-clause-fails : goal.returns-in-Err-make_nodes-clause-fails
returns-in-Err-make_nodes-clause-fails g c =
    let rack = g.Q.Rack in
    let by = disks g.Q.D.Disk.reads g.Q.D.Disk.may_leave g.Q.D.Disk.keeps_synced g.Q.D.Disk.faults in
    let config = shape c.args.config in
    let told = lain rack.disk_at rack.disk_faults rack.faults in
    let few : c.args.config.replicas ≤ 8 = (let range = c.args.config.in_range.replicas in omega arith) in
    inr (rejected by config c.args.run Memory (told c.args.rack.now) (told c.make_nodes.new.rack) c.in-Ok.journals.items few c.in-Ok.ensures.opened tt
    (held_as_read by config (told c.args.rack.now) (told c.make_nodes.new.rack) c.in-Ok.journals.items few c.in-Ok.ensures.opened c.in-Err-make_nodes.ensures.back))

pub returns-in-Err-make_nodes-clause-back : goal.returns-in-Err-make_nodes-clause-back
returns-in-Err-make_nodes-clause-back g c =
    let rack = g.Q.Rack in
    let by = disks g.Q.D.Disk.reads g.Q.D.Disk.may_leave g.Q.D.Disk.keeps_synced g.Q.D.Disk.faults in
    let told = lain rack.disk_at rack.disk_faults rack.faults in
    later_as_read by (shape c.args.config) (told c.args.rack.now) (told c.make_nodes.new.rack) c.in-Ok.journals.items c.in-Ok.ensures.opened c.in-Err-make_nodes.ensures.back
    (λ k. let a = c.in-Ok.ensures.later in let b = c.make_nodes.ensures.later in omega arith)

pub returns-in-Err-make_nodes-clause-others : goal.returns-in-Err-make_nodes-clause-others
returns-in-Err-make_nodes-clause-others g c =
    let rack = g.Q.Rack in
    let config = shape c.args.config in
    stays_join rack.lent_under rack.disk_faults rack.disk_at (IsDisk config) (IsDisk config) (IsDisk config) c.args.rack.now c.open_disks.new.rack c.make_nodes.new.rack
    (λ k is. is) (λ k is. is) c.in-Ok.ensures.others c.make_nodes.ensures.others
