use Rattle.std.proofs.Common.{arith, ap}
use Rattle.tied_cells.proofs.Handed.{two_at}
use Rattle.tied_cells.proofs.tests.two.Goals as goal

pub returns-clause-tables : goal.returns-clause-tables
returns-clause-tables c =
    let p = c.in-Ok.ensures.passes.3 in let a = c.in-Some-pop.first in let b = c.in-Some.second in
    let at = two_at (λ p. (p.seat, p.account)) c.in-Ok.passes.items c.pop.new.self.items c.pop-2.new.self.items a b p.as_many c.in-Some.ensures.items c.in-Some-pop.ensures.items in
    (p.tables 0 (a.seat, a.account) at.0, p.tables 1 (b.seat, b.account) at.1)

pub returns-clause-free : goal.returns-clause-free
returns-clause-free c =
    let p = c.in-Ok.ensures.passes.3 in let a = c.in-Some-pop.first in let b = c.in-Some.second in
    let at = two_at (λ p. (p.seat, p.account)) c.in-Ok.passes.items c.pop.new.self.items c.pop-2.new.self.items a b p.as_many c.in-Some.ensures.items c.in-Some-pop.ensures.items in
    let x = p.others 0 (a.seat, a.account) at.0 (omega arith) in let y = p.last 1 (b.seat, b.account) at.1 (omega arith) in
    ((x.turn_is, x.slots_are), (y.turn_is, y.slots_are))

pub returns-clause-numbers : goal.returns-clause-numbers
returns-clause-numbers c =
    let p = c.in-Ok.ensures.passes.3 in let a = c.in-Some-pop.first in let b = c.in-Some.second in
    let at = two_at (λ p. (p.seat, p.account)) c.in-Ok.passes.items c.pop.new.self.items c.pop-2.new.self.items a b p.as_many c.in-Some.ensures.items c.in-Some-pop.ensures.items in
    let x = p.others 0 (a.seat, a.account) at.0 (omega arith) in let y = p.last 1 (b.seat, b.account) at.1 (omega arith) in
    (ap (λ account. account.number) x.account_is, ap (λ account. account.number) y.account_is)
