use Rattle.std.proofs.Common.{refl, ap}
use Rattle.tied_cells.specs.Views.{addressed}
use Rattle.tied_cells.proofs.tests.threads.letter_for.Goals as goal

pub returns-in-Letter-clause-fetched : goal.returns-in-Letter-clause-fetched
returns-in-Letter-clause-fetched c = (addressed c.args.node.0 c.in-Letter.letter, ap (λ me. me.0.fetched) c.in-Letter.ensures.outcome.0.1, refl, refl)
