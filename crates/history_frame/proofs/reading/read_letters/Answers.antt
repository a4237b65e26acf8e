use Rattle.std.proofs.Common.{arith}
use Rattle.std.proofs.lemmas.Result.{err_from_is_err_and}
use Rattle.history_frame.specs.Reading.{sent_behind, outputs_at}
use Rattle.history_frame.proofs.Loops.{goes_behind, stops_behind, is_done, refused, outputs_many}
use Rattle.history_frame.proofs.reading.read_letters.Goals as goal

pub returns-clause-read : goal.returns-clause-read
returns-clause-read c =
    is_done outputs_many c.loop-i.outputs.items c.args.bytes.now c.args.count c.loop-i.i c.loop-i.place (outputs_at c.args.count c.args.bytes.now c.args.at) (omega arith) c.loop-i.invariant.read

pub returns-in_err-place-clause-read : goal.returns-in_err-place-clause-read
returns-in_err-place-clause-read c =
    let p = err_from_is_err_and c.from_residual.result c.from_residual.ensures.1 in
    refused _ c.from_residual.result c.in_err-place.field-0.0 (sent_behind c.loop-i.outputs.items c.args.bytes.now c.loop-i.place) _ (rw p.2 at p.1) c.in_err-place.ensures.read
    (λ first. stops_behind outputs_many c.in_err-place.field-0.0 c.loop-i.outputs.items c.args.bytes.now c.args.count c.loop-i.i c.loop-i.place (outputs_at c.args.count c.args.bytes.now c.args.at) c.loop-i-test.true first c.loop-i.invariant.read)

pub loop-i-preserved : goal.loop-i-preserved
loop-i-preserved c = record {
  read =
      goes_behind outputs_many c.loop-i.outputs.items c.read_sent.new.outputs.items c.args.bytes.now c.args.count c.loop-i.i c.loop-i.place c.in_ok-place.place (outputs_at c.args.count c.args.bytes.now c.args.at)
      c.loop-i-test.true c.in_ok-place.ensures.read c.loop-i.invariant.read;
  within = c.in_ok-place.ensures.within;
}
