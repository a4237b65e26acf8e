use Rattle.std.proofs.Common.{arith}
use Rattle.message_frame.proofs.Sizes.{value_short, votes_short, values_of}
use Rattle.message_frame.proofs.writing.message_length.Goals as goal

pub votes_length-requires-clause-fits : goal.votes_length-requires-clause-fits
votes_length-requires-clause-fits c =
    let is = rw c.in-Promised.is at c.requires in
    rw c.get-in-Promised.ensures (omega (arith, votes_short c.in-Promised.votes (values_of c.in-Promised.from.0 c.in-Promised.votes is.3.each), is.3.few))

pub overflow_add-result-in-Promised : goal.overflow_add-result-in-Promised
overflow_add-result-in-Promised c =
    let is = rw c.in-Promised.is at c.requires in
    let short = votes_short c.in-Promised.votes (values_of c.in-Promised.from.0 c.in-Promised.votes is.3.each) in
    let size = rw c.get-in-Promised.ensures at c.votes_length.ensures in
    omega (arith, short, is.3.few, size)

pub overflow_add-result-in-Accept : goal.overflow_add-result-in-Accept
overflow_add-result-in-Accept c = let is = rw c.in-Accept.is at c.requires in omega (arith, value_short c.in-Accept.value is.2)

pub overflow_add-result-in-Decide : goal.overflow_add-result-in-Decide
overflow_add-result-in-Decide c = let is = rw c.in-Decide.is at c.requires in omega (arith, value_short c.in-Decide.value is.1)
