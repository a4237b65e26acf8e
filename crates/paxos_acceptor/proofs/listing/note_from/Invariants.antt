use Rattle.std.proofs.Common.{◌≤◌, ◌-◌, take}
use Rattle.paxos_model.specs.Payloads.{payloads_in}
use Rattle.paxos_acceptor.specs.Table.{Tables}
use Rattle.paxos_acceptor.proofs.listing.note_from.Given as goal

abbrev pub invariant-loop-at : goal.invariant-loop-at
invariant-loop-at g l = Tables l.table (payloads_in (take (l.at - (g.J.Journal.state l.journal).first) (g.J.Journal.state l.journal).payloads))
