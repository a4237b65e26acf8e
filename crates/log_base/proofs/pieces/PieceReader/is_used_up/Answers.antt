use Rattle.std.proofs.Common.{◌≤◌, length, eq-eqb, sym, ap, ◌∙◌, arith}
use Rattle.std.proofs.lemmas.Bool.{eqb-true}
use Rattle.log_base.specs.Outside.{Piecewise}
use Rattle.log_base.proofs.Cuts.{used_up, is_used_up}
use Rattle.log_base.proofs.pieces.PieceReader.is_used_up.Goals as goal

-- none is pending exactly where the place is the end of what is filled
pub returns : goal.returns
returns c =
    let pending = ap (λ (r : Piecewise). r.pending) c.self.view_is in
    let fits : c.self.inside.filled ≤ length c.self.inside.buffer = omega (arith, c.self.told) in
    (λ same. sym pending ∙ is_used_up _ _ _ fits (eqb-true _ _ same), λ none. eq-eqb _ _ (used_up _ _ _ c.self.invariant.0 fits (pending ∙ none)))
