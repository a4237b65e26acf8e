use Rattle.std.proofs.Common.{◌+◌, ◌<◌, refl, sym, subst, arith}
use Rattle.log_base.specs.Shape.{shape}
use Rattle.node_table.specs.Numbering.{role_at}
use Rattle.shard_replica.specs.Lists.{HoldsRecords, segments_of}
use Rattle.history_walk.specs.Beginning.{journal_in}
use Rattle.history_walk.proofs.Begun.{holds_loaded, loaded_at, no_flight, no_flight_one, records, replica_begun}
use Rattle.history_walk.proofs.beginning.begin_replica.Goals as goal

pub storage-requires-clause-records : goal.storage-requires-clause-records
storage-requires-clause-records c k d lt =
    let few = c.args.config.now.in_range.replicas in
    let below : 0 + k < 8 = let size = c.requires.count in omega (arith, lt, size, few) in
    subst HoldsRecords (sym (loaded_at c.requires.lists.0 c.args.node.0 0 c.args.journals.items k d c.requires.lists.2 lt))
    (holds_loaded _ (records (shape c.args.config.now) c.requires.lists.0 c.requires.lists.1 c.args.node.0 (0 + k) (role_at (shape c.args.config.now) c.args.node.0) refl c.requires.role below))

pub storage-requires-clause-flights : goal.storage-requires-clause-flights
storage-requires-clause-flights c =
    no_flight_one (segments_of journal_in c.args.journals.items) (no_flight c.requires.lists.0 c.args.node.0 0 c.args.journals.items c.requires.lists.2)

pub returns-in-Ok : goal.returns-in-Ok
returns-in-Ok c kept loaded = record {
  config_is = c.in-Ok.ensures.config;
  number_is = c.in-Ok.ensures.number;
  state_is = replica_begun (shape c.args.config.now) kept c.args.node.0 (role_at (shape c.args.config.now) c.args.node.0) c.args.journals.items _ loaded c.requires.count c.requires.role c.in-Ok.ensures.state;
}
