use Rattle.std.proofs.Common.{◌≤◌, arith}
use Rattle.quiet_model.proofs.Beginning.{opened}
use Rattle.quiet_model.proofs.laws.opening_settles.Goals as goal

pub returns : goal.returns
returns c = λ config before after range. let odd = range.odd in let some : 1 ≤ config.orderers = omega arith in opened config range some before after
