use Rattle.std.proofs.Common.{ℕ, ◌≤◌, None, length, subst, arith}
use Rattle.log_base.specs.Shape.{shape}
use Rattle.cluster_disks.specs.Lent.{IsDisk, IsDiskBelow, disks, lain}
use Rattle.cluster_disks.specs.Opened.{IsDiskIn}
use Rattle.cluster_disks.proofs.Built.{as_read, in_rest, rest_in, small_rest}
use Rattle.cluster_disks.proofs.Lending.{later_node, same_where, stays_join}
use Rattle.cluster_disks.proofs.building.make_nodes.Goals as goal

pub close_nodes-requires-clause-few : goal.close_nodes-requires-clause-few
close_nodes-requires-clause-few g c κs κ≤ = (let within = c.in-Err.ensures.first.within in let all = c.requires.all in omega arith)

pub close_nodes-requires-clause-lent : goal.close_nodes-requires-clause-lent
close_nodes-requires-clause-lent g c κs κ≤ number is =
    c.requires.lent number (is.0, (let lt = is.1 in let within = c.in-Err.ensures.first.within in let all = c.requires.all in omega arith), is.2)

pub close_disks-requires-clause-few : goal.close_disks-requires-clause-few
close_disks-requires-clause-few g c κs κ≤ =
    let size = c.in-Err.ensures.rest.size in
    let all = c.requires.all in
    let range = c.args.config.in_range in omega (arith, range.segments, range.gatherers, range.orderers)

pub close_disks-requires-clause-small : goal.close_disks-requires-clause-small
close_disks-requires-clause-small g c κs κ≤ =
    small_rest (length c.in-Err.unmade.nodes.items) c.args.journals.items c.in-Err.unmade.rest.items c.requires.small c.in-Err.ensures.rest

pub close_disks-requires-clause-lent : goal.close_disks-requires-clause-lent
close_disks-requires-clause-lent g c κs κ≤ number is =
    let config = shape c.args.config in
    let count = length c.in-Err.unmade.nodes.items in
    let few : c.args.config.replicas ≤ 8 = (let range = c.args.config.in_range.replicas in omega arith) in
    let behind = in_rest count c.args.journals.items c.in-Err.unmade.rest.items number c.in-Err.ensures.rest is in
    let small = small_rest count c.args.journals.items c.in-Err.unmade.rest.items c.requires.small c.in-Err.ensures.rest is.node is.journals is.at in
    let lt = is.within in
    let there = rest_in config count c.args.journals.items c.in-Err.unmade.rest.items number c.requires.all c.requires.counts c.in-Err.ensures.rest is in
    (c.close_nodes.ensures.others number (λ of. later_node config count is.node is.segment few (omega arith) behind (subst (λ (k : ℕ). IsDiskBelow config count k) is.number_is of))).lent None (c.requires.lent number there)

pub returns-in-Err-clause-back : goal.returns-in-Err-clause-back
returns-in-Err-clause-back g c =
    let rack = g.Q.Rack in
    let device = g.Q.D.Disk in
    let by = disks device.reads device.may_leave device.keeps_synced device.faults in
    let told = lain rack.disk_at rack.disk_faults rack.faults in
    let few : c.args.config.replicas ≤ 8 = (let range = c.args.config.in_range.replicas in omega arith) in
    as_read by (shape c.args.config) c.requires.sound.0 c.args.journals.items c.in-Err.unmade.rest.items c.in-Err.unmade.nodes.items (told c.close_nodes.new.rack) (told c.close_disks.new.rack)
    few c.requires.counts c.requires.small c.requires.fresh c.requires.sound.1 c.in-Err.ensures.first c.in-Err.ensures.rest c.close_nodes.ensures.back
    (λ k other. same_where rack.lent_under rack.disk_faults rack.disk_at rack.faults _ _ k (c.close_disks.ensures.others k other)) c.close_disks.ensures.back

pub returns-in-Err-clause-others : goal.returns-in-Err-clause-others
returns-in-Err-clause-others g c =
    let rack = g.Q.Rack in
    let config = shape c.args.config in
    let count = length c.in-Err.unmade.nodes.items in
    stays_join rack.lent_under rack.disk_faults rack.disk_at (IsDiskBelow config count) (IsDiskIn c.in-Err.unmade.rest.items) (IsDisk config) c.args.rack.now c.close_nodes.new.rack c.close_disks.new.rack
    (λ k is. (is.0, (let lt = is.1 in let within = c.in-Err.ensures.first.within in let all = c.requires.all in omega arith), is.2))
    (λ k is. rest_in config count c.args.journals.items c.in-Err.unmade.rest.items k c.requires.all c.requires.counts c.in-Err.ensures.rest is)
    c.close_nodes.ensures.others c.close_disks.ensures.others
