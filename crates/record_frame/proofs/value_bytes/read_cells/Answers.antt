use Rattle.std.proofs.Common.{◌≡◌, take, refl, sym, arith}
use Rattle.std.proofs.lemmas.Result.{err_from_is_err_and}
use Rattle.std.proofs.lemmas.List.{take_more_set}
use Rattle.record_frame.specs.Values.{meant_at, cells_at}
use Rattle.record_frame.proofs.LengthLaws.{goes_on, stops, too_big, is_done, cell_left, rest_kept}
use Rattle.record_frame.proofs.value_bytes.read_cells.Goals as goal

pub returns-in_err-number-clause-read : goal.returns-in_err-number-clause-read
unfolding cells_at
returns-in_err-number-clause-read c =
    let p = err_from_is_err_and c.from_residual.result c.from_residual.ensures.1 in
    let all = stops c.in_err-number.field-0.0 (take c.loop-i.i c.loop-i.length) c.args.bytes.now c.args.count c.loop-i.i c.loop-i.place (meant_at c.args.count c.args.bytes.now c.args.at) c.loop-i-test.true (sym c.in_err-number.ensures.read) c.loop-i.invariant.read in
    rw (p.1, p.2, all) refl

pub returns-then-number-gt-LENGTH_LIMIT-clause-read : goal.returns-then-number-gt-LENGTH_LIMIT-clause-read
unfolding cells_at
returns-then-number-gt-LENGTH_LIMIT-clause-read c =
    let all = too_big (take c.loop-i.i c.loop-i.length) c.args.bytes.now c.args.count c.loop-i.i c.loop-i.place c.in_ok-number.number c.in_ok-number.next (meant_at c.args.count c.args.bytes.now c.args.at) c.loop-i-test.true (sym c.in_ok-number.ensures.read) c.if-number-gt-LENGTH_LIMIT.true c.loop-i.invariant.read in
    rw all refl

pub loop-i-preserved : goal.loop-i-preserved
loop-i-preserved c =
    let lt = cell_left c.loop-i.length c.loop-i.i (omega arith) c.loop-i.invariant.rest in
    record {
      read = rw (take_more_set c.loop-i.length c.loop-i.i c.in_ok-number.number lt)
          (goes_on (take c.loop-i.i c.loop-i.length) c.args.bytes.now c.args.count c.loop-i.i c.loop-i.place c.in_ok-number.number c.in_ok-number.next (meant_at c.args.count c.args.bytes.now c.args.at) c.loop-i-test.true (sym c.in_ok-number.ensures.read) c.if-number-gt-LENGTH_LIMIT.false c.loop-i.invariant.read);
      rest = rest_kept c.loop-i.length c.loop-i.i c.in_ok-number.number lt c.loop-i.invariant.rest;
      within = c.in_ok-number.ensures.within.1;
    }

pub returns-clause-read : goal.returns-clause-read
unfolding cells_at
returns-clause-read c =
    let all : c.loop-i.i ≡ c.args.count = omega arith in
    sym (is_done c.loop-i.length c.args.bytes.now c.args.count c.loop-i.i c.loop-i.place (meant_at c.args.count c.args.bytes.now c.args.at) all c.loop-i.invariant.read c.loop-i.invariant.rest)
