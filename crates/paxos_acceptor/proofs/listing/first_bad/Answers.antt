use Rattle.std.proofs.Common.{◌≡◌, ℕ, true, false, sym, subst, arith}
use Rattle.std.specs.Prelude.{is_some}
use Rattle.paxos_acceptor.proofs.Passing.{AreGood, good-first, bad-here, good-next, good-all}
use Rattle.paxos_acceptor.proofs.listing.first_bad.Goals as goal

pub loop-at-init : goal.loop-at-init
loop-at-init g c = let journal = g.J.Journal.state c.args.journal.now in subst (λ (n : ℕ). AreGood journal n) (sym c.first-at.ensures) (good-first journal)

pub loop-at-preserved : goal.loop-at-preserved
loop-at-preserved g c =
    let some : is_some c.read_entry.result ≡ true = c.if-is_none.ensures in
    good-next (g.J.Journal.state c.args.journal.now) c.loop-at.at c.get.result.now c.read_entry.result c.get.ensures.payload c.read_entry.ensures.payload some c.loop-at.invariant

pub returns-then-is_none : goal.returns-then-is_none
returns-then-is_none g c =
    let none : is_some c.read_entry.result ≡ false = c.if-is_none.ensures in
    bad-here (g.J.Journal.state c.args.journal.now) c.loop-at.at c.get.result.now c.read_entry.result c.get.ensures.payload c.read_entry.ensures.payload none c.loop-at.invariant

pub returns : goal.returns
returns g c = good-all (g.J.Journal.state c.args.journal.now) c.loop-at.at (omega (arith, c.len-at-end.ensures.end, c.loop-at-test.false)) c.loop-at.invariant
