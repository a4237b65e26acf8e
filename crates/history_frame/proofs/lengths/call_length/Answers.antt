use Rattle.std.proofs.Common.{arith}
use Rattle.message_frame.proofs.Sizes.{value_short}
use Rattle.history_frame.proofs.lengths.call_length.Goals as goal

pub overflow_add-result-in-Request : goal.overflow_add-result-in-Request
overflow_add-result-in-Request c = let is = rw c.in-Request.is at c.requires in omega (arith, value_short c.in-Request.value is)

pub overflow_add-result-in-Settled : goal.overflow_add-result-in-Settled
overflow_add-result-in-Settled c = let is = rw c.in-Settled.is at c.requires in omega (arith, value_short c.in-Settled.value is)
