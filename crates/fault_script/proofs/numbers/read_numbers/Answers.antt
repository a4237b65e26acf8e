use Rattle.std.proofs.Common.{arith}
use Rattle.log_base.specs.Shape.{shape}
use Rattle.fault_script.specs.declared.operand.Operand.TheVariants.{Node}
use Rattle.fault_script.proofs.NumbersSoFar.{all_read, left_over, one_more, stops_here}
use Rattle.fault_script.proofs.numbers.read_numbers.Goals as goal

pub returns-in-Err-clause-numbers : goal.returns-in-Err-clause-numbers
returns-in-Err-clause-numbers c =
    stops_here (shape c.args.config.now) c.args.operands.now c.args.text.now c.loop-index.numbers c.loop-index.index c.loop-index.at c.in-Err.length Node
    c.loop-index.invariant c.loop-index-test.true c.in-Err.ensures.err

pub loop-index-preserved : goal.loop-index-preserved
loop-index-preserved c =
    one_more (shape c.args.config.now) c.args.operands.now c.args.text.now c.loop-index.numbers c.loop-index.index c.loop-index.at c.in-Ok.taken.number
    c.in-Ok.taken.length Node c.loop-index.invariant c.loop-index-test.true (omega arith) c.in-Ok.ensures.ok

pub returns-then-at-text-clause-numbers : goal.returns-then-at-text-clause-numbers
returns-then-at-text-clause-numbers c =
    left_over (shape c.args.config.now) c.args.operands.now c.args.text.now c.loop-index.numbers c.loop-index.index c.loop-index.at c.loop-index.invariant
    c.loop-index-test.false c.if-at-text.true

pub returns-clause-numbers : goal.returns-clause-numbers
returns-clause-numbers c =
    all_read (shape c.args.config.now) c.args.operands.now c.args.text.now c.loop-index.numbers c.loop-index.index c.loop-index.at c.loop-index.invariant
    c.loop-index-test.false c.if-at-text.false
