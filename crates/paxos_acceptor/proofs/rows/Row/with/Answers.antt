use Rattle.std.proofs.Common.{◌<◌, arith}
use Rattle.paxos_acceptor.proofs.Greatest.{row_first, row_greater, row_equal, row_lower}
use Rattle.paxos_acceptor.proofs.rows.Row.with.Goals as goal

pub returns-in_default : goal.returns-in_default
returns-in_default c = λ votes is. row_first c.args.vote.now votes c.args.self.now c.in_default.is is

pub returns-then-last-vote : goal.returns-then-last-vote
returns-then-last-vote c = λ votes is. row_greater c.args.vote.now c.in-Some.last votes c.args.self.now c.in-Some.is c.if-last-vote.true is

pub returns-then-last-vote-2 : goal.returns-then-last-vote-2
returns-then-last-vote-2 c = λ votes is. row_equal c.args.vote.now c.in-Some.last votes c.args.self.now c.in-Some.is c.if-last-vote-2.true is

pub returns : goal.returns
returns c =
    let lower : c.args.vote.now.ballot.0 < c.in-Some.last.ballot.0 = omega (arith, c.if-last-vote.false, c.if-last-vote-2.false) in
    λ votes is. row_lower c.args.vote.now c.in-Some.last c.better.result votes c.args.self.now c.in-Some.is lower c.better.ensures is
