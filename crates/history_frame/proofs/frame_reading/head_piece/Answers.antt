use Rattle.std.proofs.Common.{refl, arith}
use Rattle.std.proofs.lemmas.Result.{err_from_is_err_and}
use Rattle.history_frame.specs.declared.stages.Stage.TheVariants.{Before}
use Rattle.history_frame.specs.Frames.{Means}
use Rattle.history_frame.specs.Reading.{head_of}
use Rattle.history_frame.proofs.PieceLaws.{finds_err, head_found, head_reads}
use Rattle.history_frame.proofs.frame_reading.head_piece.Goals as goal

pub returns-in_err-config : goal.returns-in_err-config
returns-in_err-config c =
    let p = err_from_is_err_and c.from_residual.result c.from_residual.ensures.1 in
    finds_err (Means Before c.args.events 96 c.args.body.now) (head_of c.args.body.now) c.from_residual.result c.args.piece.now c.in_err-config.field-0.0 (rw p.2 at p.1) c.in_err-config.ensures (head_reads c.args.events c.args.body.now)

pub returns : goal.returns
returns c = (refl, refl, head_found c.args.body.now c.in_ok-config.config c.in_ok-config.run' (λ i. omega (arith, c.type_inv.body i)) c.in_ok-config.ensures)
