use Rattle.paxos_acceptor.proofs.Passing.{AreGood}
use Rattle.paxos_acceptor.proofs.listing.first_bad.Given as goal

abbrev pub invariant-loop-at : goal.invariant-loop-at
invariant-loop-at g l = AreGood (g.J.Journal.state l.journal) l.at
