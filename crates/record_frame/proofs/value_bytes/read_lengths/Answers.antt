use Rattle.std.proofs.Common.{arith}
use Rattle.record_frame.proofs.LengthLaws.{lengths_behind_count}
use Rattle.record_frame.proofs.value_bytes.read_lengths.Goals as goal

pub returns-clause-found : goal.returns-clause-found
returns-clause-found c =
    lengths_behind_count c.args.limit c.args.bytes.now c.args.at c.in_ok-count.count c.in_ok-count.next (c.in_ok-length.length, c.in_ok-length.next) c.requires.limit (λ i. omega (arith, c.type_inv.bytes i))
    c.in_ok-count.ensures.read (omega (arith, c.if-count-eq0.false)) c.if-count-limit.false c.in_ok-length.ensures.read
