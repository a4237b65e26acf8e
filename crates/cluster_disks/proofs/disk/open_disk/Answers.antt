use Rattle.std.proofs.Common.{◌≡◌, ℕ, None, arith}
use Rattle.cluster_disks.specs.Lent.{disks, lain}
use Rattle.cluster_disks.proofs.Lending.{returned_unread, stays_join}
use Rattle.cluster_disks.proofs.disk.open_disk.Goals as goal

pub returns-in-Err-clause-others : goal.returns-in-Err-clause-others
returns-in-Err-clause-others g c =
    let this : ℕ → Type 0 = λ (k : ℕ). k ≡ c.args.number in
    stays_join g.Q.Rack.lent_under g.Q.Rack.disk_faults g.Q.Rack.disk_at this this this c.args.rack.now c.lend.new.self c.give_back.new.self
    (λ k is. is) (λ k is. is) c.in-Ok.ensures.others c.give_back.ensures.others

pub returns-in-Err-clause-back : goal.returns-in-Err-clause-back
returns-in-Err-clause-back g c =
    let rack = g.Q.Rack in
    let device = g.Q.D.Disk in
    let told = lain rack.disk_at rack.disk_faults rack.faults in
    let loaded = c.in-Err.ensures in
    returned_unread (disks device.reads device.may_leave device.keeps_synced device.faults) c.in-Ok.disk c.in-Err.disk
    (told c.args.rack.now c.args.number) (told c.give_back.new.self c.args.number) c.in-Ok.ensures.disk c.in-Ok.ensures.disk_count
    loaded.images_back loaded.keeps_back loaded.later_back
    (c.give_back.ensures.disk None c.in-Ok.ensures.lent) (c.give_back.ensures.disk_count None c.in-Ok.ensures.lent)
    (let first = c.lend.ensures.later in let second = c.give_back.ensures.later in omega arith)
