use Rattle.history_check.proofs.JudgeLaws.{head_judged}
use Rattle.history_check.proofs.judge.Judge.head.Goals as goal

pub returns : goal.returns
returns c = λ judge pieces is comes. head_judged judge pieces c.args.config c.args.run c.new.result.items c.new.ensures.items is comes
