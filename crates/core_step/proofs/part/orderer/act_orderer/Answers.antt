use Rattle.shard_replica.specs.Lists.{medium_of}
use Rattle.orderer_node.specs.Ordering.{node_of}
use Rattle.core_step.proofs.Orderers.{counts_one, orderer_stays, orderer_told}
use Rattle.core_step.proofs.part.orderer.act_orderer.Goals as goal

pub returns-clause-halted : goal.returns-clause-halted
returns-clause-halted g c = λ halted. (0, c.act.ensures.halted halted)

pub returns-clause-counts : goal.returns-clause-counts
returns-clause-counts g c = counts_one _ _ c.act.ensures.later c.act.ensures.keeps

pub returns-clause-told : goal.returns-clause-told
returns-clause-told g c = λ other mark tells.
    let journalled = g.J.Journal.state in
    let old = c.args.node.now in
    let journal = old.journal in
    orderer_told old.memory.config old.index (node_of journalled old)
    (medium_of (journalled journal) (g.J.Journal.faults journal) (g.J.Journal.keeps_synced journal) (g.J.Journal.turns journal))
    c.args.input.now c.act.result.mark mark _ c.act.ensures.row other (c.act.ensures.turn other) tells

pub returns-clause-stayed : goal.returns-clause-stayed
returns-clause-stayed g c = λ stayed.
    let old = c.args.node.now in
    orderer_stays old.memory.config old.index (node_of g.J.Journal.state old) c.args.input.now c.act.result.mark _ c.act.ensures.row stayed
