use Rattle.std.proofs.Common.{arith}
use Rattle.std.specs.Option.{option_map}
use Rattle.paxos_acceptor.specs.Listed.{payload_so}
use Rattle.paxos_acceptor.proofs.Passing.{tables-next, tables-all}
use Rattle.paxos_acceptor.proofs.listing.note_from.Goals as goal

pub loop-at-preserved : goal.loop-at-preserved
loop-at-preserved g c =
    tables-next (g.J.Journal.state c.args.journal.now) c.loop-at.at c.get.result.now (option_map payload_so c.read_entry.result) c.loop-at.table c.note.new.table
    (omega (arith, c.requires.first, c.loop-at.auto.at)) c.get.ensures.payload c.read_entry.ensures.payload c.note.ensures c.loop-at.invariant

pub returns : goal.returns
returns g c = tables-all (g.J.Journal.state c.args.journal.now) c.loop-at.at c.loop-at.table (omega (arith, c.len-at-end.ensures.end, c.loop-at-test.false)) c.loop-at.invariant
