use Rattle.std.proofs.Common.{◌<◌, subst}
use Rattle.tied_cells.proofs.Returned.{idle_first}
use Rattle.tied_cells.proofs.tests.threads.four.Goals as goal

pub returns-in-Ok-clause-ready : goal.returns-in-Ok-clause-ready
returns-in-Ok-clause-ready c = let p = c.in-Ok.ensures.passes.3 in let passes = c.in-Ok.made.1 in
    λ k d below. idle_first (λ p. (p.seat, p.account)) _ _ _ _ _ passes.items p k d (subst (λ n. k < n) passes.ok.0 below)
