use Rattle.std.proofs.Common.{◌≡◌, ◌+◌, length, sym, ap, ◌∙◌, arith}
use Rattle.log_model.specs.Storage.{entry_in}
use Rattle.record_frame.specs.declared.entries.Head.{Head}
use Rattle.record_frame.specs.Entries.{head_of}
use Rattle.kept_lists.proofs.Spelled.{head_is, err_ok, head_spelled, ok_same}
use Rattle.kept_lists.proofs.entries.spelled_head.Goals as goal

pub returns-in-Ok : goal.returns-in-Ok
returns-in-Ok c = head_is c.args.payload.now (λ i. omega (arith, c.type_inv.payload i)) c.in-Ok.head (sym c.read_head.ensures.agrees ∙ c.in-Ok.is) c.if-payload-head.false

pub returns-then-payload-head : goal.returns-then-payload-head
returns-then-payload-head c = λ spelled.
    let found = head_spelled c.args.payload.now spelled in
    let same = ok_same c.in-Ok.head (head_of (entry_in c.args.payload.now)) (sym c.in-Ok.is ∙ (c.read_head.ensures.agrees ∙ found.0)) in
    let long : length c.args.payload.now ≡ 15 + c.in-Ok.head.length = omega (arith, found.1, ap (λ (h : Head). h.length) same) in
    c.if-payload-head.true long

pub returns-in-Err : goal.returns-in-Err
returns-in-Err c = λ spelled.
    let found = head_spelled c.args.payload.now spelled in
    err_ok c.in-Err.field-0 (head_of (entry_in c.args.payload.now)) (sym c.in-Err.is ∙ (c.read_head.ensures.agrees ∙ found.0))
