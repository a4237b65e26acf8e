use Rattle.std.proofs.Common.{arith}
use Rattle.record_frame.proofs.EntryLaws.{entry_behind_kind}
use Rattle.record_frame.proofs.entry_bytes.read_entry_at.Goals as goal

pub returns-clause-found : goal.returns-clause-found
returns-clause-found c =
    entry_behind_kind c.args.bytes.now c.args.at c.in_ok-next.next c.entry_fields.result (λ i. omega (arith, c.type_inv.bytes i)) c.in_ok-next.ensures.read c.entry_fields.ensures.read
