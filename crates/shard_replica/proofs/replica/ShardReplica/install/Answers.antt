use Rattle.std.proofs.Common.{◌∙◌, List, [], ap, length}
use Rattle.std.proofs.lemmas.List.{length-replicate}
use Rattle.cut_chain.specs.Known.{Known, known_of}
use Rattle.peer_copy.specs.Copying.{Copying}
use Rattle.shard_replica.specs.Lists.{Segment}
use Rattle.shard_replica.proofs.Keeping.{length-after}
use Rattle.shard_replica.proofs.replica.ShardReplica.install.Goals as goal

pub invariant_of-self-2 : goal.invariant_of-self-2
invariant_of-self-2 g c =
    let lists = c.self.inside.lists.lists in
    record {
      shard_in = c.self.invariant.shard_in;
      own_in = c.self.invariant.own_in;
      own_list = c.install-answer.ensures.own ∙ c.self.invariant.own_list;
      count = ap (λ (ss : List Segment). length ss) c.install-answer.ensures.segments ∙ length-after lists.last_reload lists.segments lists.media ∙ c.self.invariant.count;
      values = [];
      known_is = c.clear.ensures ∙ ap (λ (k : Known). known_of k.config []) c.self.invariant.known_is;
      copier = ap (λ (x : Copying). x.own) c.reset.ensures ∙ c.self.invariant.copier;
      peers = ap (λ (x : Copying). length x.acked) c.reset.ensures ∙ length-replicate _ _ ∙ c.self.invariant.peers;
    }
