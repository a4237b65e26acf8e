use Rattle.std.proofs.Common.{sym, subst}
use Rattle.paxos_model.specs.Votes.{votes}
use Rattle.paxos_acceptor.specs.declared.rows.Row.{Row}
use Rattle.paxos_acceptor.specs.Table.{IsRow, IsUpTo}
use Rattle.paxos_acceptor.proofs.Noted.{row_up_to}
use Rattle.paxos_acceptor.proofs.table.VoteTable.has.Goals as goal

pub returns : goal.returns
returns c =
    λ list is most.
    c.has.ensures c.args.slot.0 (votes list)
    (subst (λ (row : Row). IsRow c.args.slot.0 row (votes list)) (sym c.row.ensures) (is.rows c.args.slot.0))
    (subst (λ (row : Row). IsUpTo c.args.ballot.0 row.last) (sym c.row.ensures) (row_up_to c.args.self.now list c.args.ballot.0 c.args.slot.0 is most))
