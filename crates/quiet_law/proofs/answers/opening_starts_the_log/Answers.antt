use Rattle.quiet_law.proofs.Items.{opening_starts}
use Rattle.quiet_law.proofs.Keeping.{in_order_start}
use Rattle.quiet_law.proofs.answers.opening_starts_the_log.Goals as goal

pub returns : goal.returns
returns c = λ config range run before after begins opens. (opening_starts config range run before after begins opens, in_order_start config run)
