use Rattle.std.proofs.Common.{◌≤◌, sym, ap, ◌∙◌, subst, arith}
use Rattle.core_step.specs.Standing.{state_of}
use Rattle.core_step.specs.Starting.{IsStoring}
use Rattle.log_base.specs.Shape.{shape}
use Rattle.node_table.specs.declared.role.Role.{Role}
use Rattle.shard_replica.specs.Lists.{segments_of}
use Rattle.cluster_disks.specs.Lent.{disks_in}
use Rattle.cluster_disks.proofs.Beginning.{fresh_flights, records_hold, storage_begins}
use Rattle.cluster_disks.proofs.making.make_node.Goals as goal

pub storage-requires-clause-records : goal.storage-requires-clause-records
storage-requires-clause-records g c =
    let few : c.args.config.replicas ≤ 8 = (let range = c.args.config.in_range.replicas in omega arith) in
    records_hold g.J.Journal.state (shape c.args.config) c.requires.beginning.0 c.args.node.0 c.args.journals.items c.in-Storage.shard c.in-Storage.replica few
    (sym c.in-Storage.ensures) c.requires.beginning.1

pub storage-requires-clause-flights : goal.storage-requires-clause-flights
storage-requires-clause-flights g c = fresh_flights g.J.Journal.state c.args.journals.items c.requires.beginning.1.fresh

pub returns-in-Ok-clause-state : goal.returns-in-Ok-clause-state
returns-in-Ok-clause-state g c kept beginning =
    let config = shape c.args.config in
    let is = sym c.in-Storage.ensures in
    storage_begins g.J.Journal.state config kept c.args.node.0 c.args.journals.items c.in-Storage.shard c.in-Storage.replica (state_of g.J.Journal.state c.in-Ok.node.part) is
    (beginning.count ∙ ap (λ (r : Role). disks_in config r) is) beginning
    (subst (λ (r : Role). IsStoring config r (segments_of g.J.Journal.state c.args.journals.items) (state_of g.J.Journal.state c.in-Ok.node.part)) is c.in-Ok.ensures.state)
