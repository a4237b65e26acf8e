use Rattle.std.proofs.Common.{refl, arith}
use Rattle.std.proofs.lemmas.Result.{err_from_is_err_and}
use Rattle.history_frame.specs.declared.stages.Stage.TheVariants.{Before}
use Rattle.history_frame.specs.Frames.{Means}
use Rattle.history_frame.specs.Reading.{lane_reply_of}
use Rattle.history_frame.proofs.PieceLaws.{finds_err, reply_found, reply_reads}
use Rattle.history_frame.proofs.frame_reading.reply_piece.Goals as goal

pub returns-in_err-_reply : goal.returns-in_err-_reply
returns-in_err-_reply c =
    let p = err_from_is_err_and c.from_residual.result c.from_residual.ensures.1 in
    finds_err (Means Before c.args.events 64 c.args.body.now) (lane_reply_of c.args.body.now) c.from_residual.result c.args.piece.now c.in_err-_reply.field-0.0 (rw p.2 at p.1) c.in_err-_reply.ensures (reply_reads c.args.events c.args.body.now)

pub returns : goal.returns
returns c = (refl, refl, reply_found c.args.body.now _ _ (λ i. omega (arith, c.type_inv.body i)) c.in_ok-_reply.ensures)
