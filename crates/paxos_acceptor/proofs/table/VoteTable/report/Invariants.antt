use Rattle.std.proofs.Common.{vec_capacity}
use Rattle.paxos_acceptor.proofs.Reporting.{Reporting}
use Rattle.paxos_acceptor.proofs.table.VoteTable.report.Given as goal

abbrev pub invariant-loop-slot : goal.invariant-loop-slot
invariant-loop-slot l = Reporting l.self l.ballot.0 l.fn.from.0 l.slot l.out.items (vec_capacity l.out)
