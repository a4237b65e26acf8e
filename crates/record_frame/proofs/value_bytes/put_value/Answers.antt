use Rattle.std.proofs.Common.{arith}
use Rattle.log_base.proofs.Wide.{length-be2, length-be8}
use Rattle.record_frame.proofs.LengthLaws.{length-lengths_spelling}
use Rattle.record_frame.proofs.value_bytes.put_value.Goals as goal

pub put_lengths-requires-clause-room : goal.put_lengths-requires-clause-room
put_lengths-requires-clause-room c =
    let is = rw c.in-Cut.is at c.requires.value in
    let room = rw c.in-Cut.is at c.requires.room in
    omega (arith, room, is.count, is.cells, length-lengths_spelling c.in-Cut.lengths)

pub put_u16-requires : goal.put_u16-requires
put_u16-requires c = let room = rw c.in-Add.is at c.requires.room in omega (arith, room, length-be2 c.in-Add.shard.0)

pub put_u16-requires-in-Finalise : goal.put_u16-requires-in-Finalise
put_u16-requires-in-Finalise c = let room = rw c.in-Finalise.is at c.requires.room in omega (arith, room, length-be2 c.in-Finalise.shard.0)

pub put_u64-requires : goal.put_u64-requires
put_u64-requires c = let room = rw c.in-Trim.is at c.requires.room in omega (arith, room, length-be8 c.in-Trim.position.0)
