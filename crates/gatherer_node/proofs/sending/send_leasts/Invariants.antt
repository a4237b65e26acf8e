use Rattle.std.proofs.Common.{◌≡◌, ◌-◌, ◌++◌, map}
use Rattle.event_letters.specs.Letters.{HasSpace, parcel}
use Rattle.log_base.specs.Shape.{shape}
use Rattle.node_model.specs.GathererRow.{leasts}
use Rattle.gatherer_node.specs.Gatherer.{sizes_of}
use Rattle.gatherer_node.proofs.sending.send_leasts.Given as goal

-- what is told of the shards so far is sent, and there is room for what is told of the others
abbrev pub invariant-loop-shard : goal.invariant-loop-shard
invariant-loop-shard l = record {
  sent : l.letters.sent ≡ l.fn.letters.sent ++ leasts (shape l.config) l.index l.reports 0 l.shard;
  letters : l.out.letters ≡ l.fn.out.letters ++ map parcel (leasts (shape l.config) l.index l.reports 0 l.shard);
  space : HasSpace l.letters l.out.rooms (sizes_of (leasts (shape l.config) l.index l.reports l.shard ((shape l.config).shards - l.shard)));
}
