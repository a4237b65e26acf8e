use Rattle.std.proofs.Common.{arith}
use Rattle.record_frame.proofs.ValueLaws.{value_behind_kind}
use Rattle.record_frame.proofs.value_bytes.read_value_at.Goals as goal

pub returns-clause-found : goal.returns-clause-found
returns-clause-found c =
    value_behind_kind c.args.bytes.now c.args.at c.in_ok-kind.kind c.in_ok-kind.next c.value_fields.result (λ i. omega (arith, c.type_inv.bytes i)) c.in_ok-kind.ensures.read c.value_fields.ensures.read
