use Rattle.paxos_acceptor.proofs.Noted.{list_of-put}
use Rattle.paxos_acceptor.proofs.laws.payloads_are_listed.Goals as goal

pub returns : goal.returns
returns c = list_of-put
