use Rattle.std.proofs.Common.{arith}
use Rattle.history_frame.proofs.Sizes.{call_short}
use Rattle.history_frame.proofs.lengths.input_length.Goals as goal

pub overflow_add-result : goal.overflow_add-result
overflow_add-result c = let is = rw c.in-Call.is at c.requires in omega (arith, call_short c.in-Call.call is)
