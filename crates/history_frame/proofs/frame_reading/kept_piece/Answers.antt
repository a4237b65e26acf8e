use Rattle.std.proofs.Common.{refl, arith}
use Rattle.std.proofs.lemmas.Result.{err_from_is_err_and}
use Rattle.history_frame.specs.declared.stages.Stage.TheVariants.{Keeping}
use Rattle.history_frame.specs.Frames.{Means}
use Rattle.history_frame.specs.Reading.{kept_of}
use Rattle.history_frame.proofs.PieceLaws.{finds_err, kept_found, kept_reads, kept_falls}
use Rattle.history_frame.proofs.frame_reading.kept_piece.Goals as goal

pub returns-in_err-kept : goal.returns-in_err-kept
returns-in_err-kept c =
    let p = err_from_is_err_and c.from_residual.result c.from_residual.ensures.1 in
    finds_err (Means (Keeping c.args.least) c.args.events 97 c.args.body.now) (kept_of c.args.body.now) c.from_residual.result c.args.piece.now c.in_err-kept.field-0.0 (rw p.2 at p.1) c.in_err-kept.ensures (kept_reads c.args.least c.args.events c.args.body.now)

pub returns-then-kept-least : goal.returns-then-kept-least
returns-then-kept-least c = kept_falls c.args.least c.args.events c.args.body.now c.in_ok-kept.kept c.in_ok-kept.ensures c.if-kept-least.true

pub returns : goal.returns
returns c = (refl, kept_found c.args.least c.args.body.now c.in_ok-kept.kept (λ i. omega (arith, c.type_inv.body i)) c.in_ok-kept.ensures c.if-kept-least.false)
