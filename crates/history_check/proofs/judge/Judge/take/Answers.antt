use Rattle.std.proofs.Common.{[], ◌∷◌, ◌++◌, subst, sym}
use Rattle.history_frame.specs.declared.pieces.Piece.{Piece}
use Rattle.history_check.specs.Judging.{Comes, IsJudge}
use Rattle.history_check.proofs.JudgeLaws.{reply_judged}
use Rattle.history_check.proofs.judge.Judge.take.Goals as goal

pub returns-in-Reply : goal.returns-in-Reply
returns-in-Reply c = λ pieces is comes.
    subst (λ (piece : Piece). IsJudge c.args.self.now (pieces ++ piece ∷ [])) (sym c.in-Reply.is)
    (reply_judged c.args.self.now pieces is (subst (Comes pieces) c.in-Reply.is comes))
