use Rattle.std.proofs.lemmas.Result.{err_from_is_err_and}
use Rattle.record_frame.proofs.EntryLaws.{head_without_kind, head_refused, head_found}
use Rattle.record_frame.proofs.Reasons.{head_read-needs_none}
use Rattle.record_frame.proofs.entry_bytes.read_head.Goals as goal

pub returns-in_err-next : goal.returns-in_err-next
returns-in_err-next c =
    let p = err_from_is_err_and c.from_residual.result c.from_residual.ensures.1 in
    let agrees = head_without_kind c.args.bytes.now c.in_err-next.field-0.0 c.in_err-next.ensures.read in
    rw (p.1, p.2) (record { agrees = agrees; memory = head_read-needs_none c.args.bytes.now _ agrees })

pub returns-in_err-head : goal.returns-in_err-head
returns-in_err-head c =
    let p = err_from_is_err_and c.from_residual-in_err-head.result c.from_residual-in_err-head.ensures.1 in
    let agrees = head_refused c.args.bytes.now c.in_ok-next.next c.in_err-head.field-0.0 c.in_ok-next.ensures.read c.in_err-head.ensures.read in
    rw (p.1, p.2) (record { agrees = agrees; memory = head_read-needs_none c.args.bytes.now _ agrees })

pub returns-clause-agrees : goal.returns-clause-agrees
returns-clause-agrees c = head_found c.args.bytes.now c.in_ok-next.next (c.in_ok-head.head, c.in_ok-head.field-0-1) c.in_ok-next.ensures.read c.in_ok-head.ensures.read c.in_ok-head.ensures.within
