use Rattle.cluster_run.proofs.Ordered.{taken_is}
use Rattle.cluster_run.proofs.ordering.take_last.Goals as goal

pub returns : goal.returns
returns c = taken_is (λ list. list.items) c.args.lists.now.items c.args.lane c.index_mut.result.now c.pop.new.self c.in-Some.reply c.requires.within c.index_mut.ensures.value c.in-Some.ensures.items
