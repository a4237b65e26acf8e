use Rattle.history_check.proofs.JudgeLaws.{has_begun}
use Rattle.history_check.proofs.judge.Judge.begin.Goals as goal

pub returns-in_default : goal.returns-in_default
returns-in_default c = λ pieces is inside. has_begun c.args.self.now pieces is inside c.in_default.not-Keeping
