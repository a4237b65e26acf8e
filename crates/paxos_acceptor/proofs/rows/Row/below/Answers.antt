use Rattle.paxos_acceptor.proofs.Greatest.{below_none, below_last}
use Rattle.paxos_acceptor.proofs.rows.Row.below.Goals as goal

pub returns-in-None : goal.returns-in-None
returns-in-None c = λ slot votes is most. below_none c.args.ballot.0 slot votes c.args.self.now c.in-None.is is

pub returns-in-Some : goal.returns-in-Some
returns-in-Some c = λ slot votes is most. below_last c.args.ballot.0 slot votes c.args.self.now c.in-Some.last c.in-Some.is c.if-last-ballot.true is
