use Rattle.std.proofs.lemmas.Result.{err_from_is_err_and}
use Rattle.message_frame.proofs.MessageLaws.{kind_needs_none, kind_is_first}
use Rattle.message_frame.proofs.reading.read_message.Goals as goal

pub returns-in_err-kind-clause-memory : goal.returns-in_err-kind-clause-memory
returns-in_err-kind-clause-memory c =
    let p = err_from_is_err_and c.from_residual.result c.from_residual.ensures.1 in
    λ memory. absurd (kind_needs_none c.args.bytes.now c.in_err-kind.field-0.0 p.0 c.from_residual.result p.1 p.2 c.in_err-kind.ensures.read memory)

pub returns-clause-memory : goal.returns-clause-memory
returns-clause-memory c = λ memory.
    let first = kind_is_first c.args.bytes.now (c.in_ok-kind.kind, c.in_ok-kind.next) c.in_ok-kind.ensures.read in
    rw (← first) (c.read_fields.ensures.memory memory)
