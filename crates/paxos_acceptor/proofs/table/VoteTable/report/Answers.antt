use Rattle.std.proofs.Common.{refl, vec_capacity}
use Rattle.paxos_acceptor.proofs.Reporting.{reporting-more, reporting-ends}
use Rattle.paxos_acceptor.proofs.table.VoteTable.report.Goals as goal

pub loop-slot-preserved : goal.loop-slot-preserved
loop-slot-preserved c =
    reporting-more c.args.self.now c.args.ballot.0 c.args.from.0 c.loop-slot.slot _ c.loop-slot.out.items c.put_some.new.out.items (vec_capacity c.loop-slot.out)
    (vec_capacity c.put_some.new.out) c.below.result c.loop-slot-test.true refl c.put_some.ensures.capacity c.put_some.ensures.items c.below.ensures c.loop-slot.invariant

pub returns-clause-votes : goal.returns-clause-votes
returns-clause-votes c =
    reporting-ends c.args.self.now c.args.ballot.0 c.args.from.0 c.loop-slot.slot c.loop-slot.out.items (vec_capacity c.loop-slot.out) c.loop-slot-test.false c.loop-slot.invariant
