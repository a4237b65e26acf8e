use Rattle.std.proofs.Common.{ℕ, ◌+◌, ◌≤◌, ◌++◌, List, length, take, drop, ap, ◌∙◌, arith}
use Rattle.log_base.specs.Outside.{Piecewise}
use Rattle.log_base.proofs.Cuts.{give_moves}
use Rattle.log_base.proofs.pieces.PieceReader.give.Goals as goal

-- the bytes that move stand at the front of the pending ones
pub returns-clause-moved : goal.returns-clause-moved
returns-clause-moved c =
    let pending = ap (λ (r : Piecewise). r.pending) c.self.view_is in
    let within : c.self.inside.at + c.min-count.result ≤ c.self.inside.filled = omega arith in
    let fits : c.self.inside.filled ≤ length c.self.inside.buffer = omega (arith, c.self.told) in
    ap (λ (l : List ℕ). l ++ drop (c.self.inside.at + c.min-count.result) (take c.self.inside.filled c.self.inside.buffer)) c.put_bytes.ensures.items
    ∙ give_moves _ _ _ _ _ within fits
    ∙ ap (λ (l : List ℕ). c.args.bytes.now.items ++ l) pending
