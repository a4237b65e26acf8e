use Rattle.std.proofs.Common.{arith}
use Rattle.message_frame.proofs.MessageLaws.{all_is_found, all_is_only}
use Rattle.message_frame.proofs.reading.decode.Goals as goal

pub returns-clause-found : goal.returns-clause-found
returns-clause-found c = all_is_found c.args.bytes.now c.read_all.result (λ i. omega (arith, c.type_inv.bytes i)) c.read_all.ensures.read

pub returns-clause-only : goal.returns-clause-only
returns-clause-only c = λ message is e. all_is_only c.args.bytes.now message c.read_all.result is e c.read_all.ensures.read
