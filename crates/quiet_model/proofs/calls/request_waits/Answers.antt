use Rattle.std.proofs.Common.{◌≤◌, arith}
use Rattle.quiet_model.proofs.Calling.{requested}
use Rattle.quiet_model.proofs.calls.request_waits.Goals as goal

pub returns : goal.returns
returns c = λ config range. let odd = range.odd in let some : 1 ≤ config.orderers = omega arith in requested config some
