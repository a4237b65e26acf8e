use Rattle.paxos_acceptor.proofs.Greatest.{has_none, has_some}
use Rattle.paxos_acceptor.proofs.rows.Row.has.Goals as goal

pub returns-in-None : goal.returns-in-None
returns-in-None c = λ slot votes is most. has_none c.args.ballot.0 slot votes c.args.self.now c.in-None.is is

pub returns-in-Some : goal.returns-in-Some
returns-in-Some c = λ slot votes is most. has_some c.args.ballot.0 slot votes c.args.self.now c.in-Some.last c.in-Some.is is most
