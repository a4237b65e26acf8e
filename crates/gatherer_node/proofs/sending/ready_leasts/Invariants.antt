use Rattle.std.proofs.Common.{◌≡◌}
use Rattle.event_letters.specs.Letters.{HasSpace}
use Rattle.log_base.specs.Shape.{shape}
use Rattle.node_model.specs.GathererRow.{leasts}
use Rattle.gatherer_node.specs.Gatherer.{sizes_of}
use Rattle.gatherer_node.proofs.sending.ready_leasts.Given as goal

-- there is room for what is told of the shards so far
abbrev pub invariant-loop-shard : goal.invariant-loop-shard
invariant-loop-shard l = record {
  sent : l.letters.sent ≡ l.fn.letters.sent;
  letters : l.out.letters ≡ l.fn.out.letters;
  space : HasSpace l.letters l.out.rooms (sizes_of (leasts (shape l.config) l.index l.reports 0 l.shard));
}
