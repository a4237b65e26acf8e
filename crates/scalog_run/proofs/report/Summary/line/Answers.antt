use Rattle.std.proofs.Common.{append_assoc}
use Rattle.scalog_run.proofs.report.Summary.line.Goals as goal

pub returns : goal.returns
returns c = simp append_assoc c.format.ensures.ok
