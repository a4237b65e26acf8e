use Rattle.std.proofs.Common.{arith}
use Rattle.fault_script.specs.Grammar.{shown}
use Rattle.fault_script.proofs.AllowedNumbers.{not_begun}
use Rattle.log_base.specs.Shape.{shape}
use Rattle.fault_script.proofs.operand.Operand.extend.Goals as goal

pub returns-in-Some-clause-none : goal.returns-in-Some-clause-none
returns-in-Some-clause-none c = λ _.
    not_begun (shape c.args.config.now) c.args.self c.in-Some.value c.args.byte (shown c.args.so_far) c.args.config.now.in_range
    (omega (arith, c.in-Some.ensures.some.0)) c.in-Some.ensures.some.1 (λ begins. let no = c.if-begins_one.ensures.1 begins in absurd (cc no))
