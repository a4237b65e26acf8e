use Rattle.std.proofs.Common.{arith}
use Rattle.command_words.proofs.NumberText.{in_range}
use Rattle.command_words.proofs.number.read_within.Goals as goal

pub returns-in-Some : goal.returns-in-Some
returns-in-Some c =
    in_range c.args.word.now c.in-Some.number c.args.least c.args.most c.within.result c.in-Some.ensures.0 c.in-Some.ensures.1 (omega arith) c.within.ensures
