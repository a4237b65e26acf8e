use Rattle.std.proofs.Common.{arith}
use Rattle.log_base.proofs.Wide.{length-be2, length-be8}
use Rattle.record_frame.proofs.LengthLaws.{length-lengths_spelling}
use Rattle.record_frame.proofs.value_bytes.value_length.Goals as goal

pub returns-in-Cut : goal.returns-in-Cut
returns-in-Cut c = let is = rw c.in-Cut.is at c.requires in rw c.in-Cut.is (omega (arith, is.count, is.cells, length-lengths_spelling c.in-Cut.lengths))

pub returns-in-Trim : goal.returns-in-Trim
returns-in-Trim c = rw c.in-Trim.is (omega (arith, length-be8 c.in-Trim.field-0.0))

pub returns-in-Add : goal.returns-in-Add
returns-in-Add c = rw c.in-Add.is (omega (arith, length-be2 c.in-Add.field-0.0))

pub returns-in-Finalise : goal.returns-in-Finalise
returns-in-Finalise c = rw c.in-Finalise.is (omega (arith, length-be2 c.in-Finalise.field-0.0))
