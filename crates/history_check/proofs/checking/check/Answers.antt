use Rattle.std.proofs.Common.{ℕ}
use Rattle.log_base.specs.Outside.{Rose, TakesOn}
use Rattle.history_check.proofs.OneVerdict.{exact_answer, true_answer}
use Rattle.history_check.proofs.checking.check.Goals as goal

pub returns-clause-judged : goal.returns-clause-judged
returns-clause-judged g c = λ bytes history told are never.
    let left = g.S.Source.left in
    let Stops : ℕ → Type 0 = λ at. Rose (g.S.Source.faults c.args.source.now) (g.S.Source.faults c.judge_history.new.source) × TakesOn 0 at (left c.args.source.now) (left c.judge_history.new.source) in
    true_answer (left c.args.source.now) (left c.judge_history.new.source) bytes history Stops c.judge_history.result told c.judge_history.ensures.verdict c.judge_history.ensures.fault
    (λ at stops. never stops.0) are

pub returns-clause-exact : goal.returns-clause-exact
returns-clause-exact g c = λ bytes history verdict told are is never.
    exact_answer bytes history verdict c.judge_history.result are (returns-clause-judged g c bytes history told are never) is
