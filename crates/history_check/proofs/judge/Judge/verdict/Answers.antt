use Rattle.std.proofs.Common.{subst}
use Rattle.history_check.specs.Judging.{HasBegun}
use Rattle.history_check.specs.declared.judge.Judge.{Judge}
use Rattle.history_check.proofs.JudgeLaws.{judged_broken, judged_lawful}
use Rattle.history_check.proofs.judge.Judge.verdict.Goals as goal

pub returns-in-Walking : goal.returns-in-Walking
returns-in-Walking c = λ pieces is inside.
    judged_lawful pieces c.in-Walking.walker c.in-Walking.events (subst (λ (judge : Judge). HasBegun judge pieces) c.in-Walking.is (c.in_ok-begin.ensures pieces is inside))

pub returns-in-Broken : goal.returns-in-Broken
returns-in-Broken c = λ pieces is inside.
    judged_broken pieces c.in-Broken.place (subst (λ (judge : Judge). HasBegun judge pieces) c.in-Broken.is (c.in_ok-begin.ensures pieces is inside))
