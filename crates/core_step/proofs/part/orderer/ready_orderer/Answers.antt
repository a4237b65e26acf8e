use Rattle.shard_replica.specs.Lists.{medium_of}
use Rattle.storage_node.proofs.Elements.{on-ok}
use Rattle.core_step.proofs.Orderers.{counts_one, orderer_starts, turns_one}
use Rattle.core_step.proofs.part.orderer.ready_orderer.Goals as goal

pub returns-clause-counts : goal.returns-clause-counts
returns-clause-counts g c = counts_one _ _ c.ready.ensures.later c.ready.ensures.keeps

pub returns-clause-turns : goal.returns-clause-turns
returns-clause-turns g c = λ other. turns_one _ _ (c.ready.ensures.turns other)

pub returns-clause-opening : goal.returns-clause-opening
returns-clause-opening g c = λ start.
    let journalled = g.J.Journal.state in
    let old = c.args.node.now.journal in
    let new = c.ready.new.self.journal in
    on-ok c.ready.result _ _
    (orderer_starts (medium_of (journalled old) (g.J.Journal.faults old) (g.J.Journal.keeps_synced old) (g.J.Journal.turns old))
    (medium_of (journalled new) (g.J.Journal.faults new) (g.J.Journal.keeps_synced new) (g.J.Journal.turns new)))
    (c.ready.ensures.read start)
