use Rattle.std.proofs.Common.{refl, sym, ◌∙◌}
use Rattle.cluster.proofs.turning.read.Goals as goal

pub returns-in-Ok : goal.returns-in-Ok
returns-in-Ok c = (c.in-Ok.message, refl, c.in-Ok.ensures.found.0, sym c.get.ensures ∙ c.in-Ok.ensures.found.1)
