use Rattle.std.proofs.Common.{◌≡◌, [], ◌∷◌, ◌++◌, ap, subst, ◌∙◌}
use Rattle.history_frame.specs.declared.events.Kept.{Kept}
use Rattle.history_check.specs.Judging.{IsJudge}
use Rattle.history_check.specs.declared.judge.Judge.{Judge}
use Rattle.history_check.proofs.JudgeLaws.{no_payload, payload_judged}
use Rattle.history_check.proofs.judge.Judge.keep.Goals as goal

pub returns-in-Keeping : goal.returns-in-Keeping
returns-in-Keeping c = λ pieces is comes.
    let moved : c.replace.result ≡ c.args.one.now = c.replace.ensures.value in
    let pushed : c.push.new.self.items ≡ c.in-Keeping.kept.items ++ c.args.one.now ∷ [] =
    c.in_ok-push-in-Keeping.ensures.items ∙ ap (λ (k : Kept). c.in-Keeping.kept.items ++ k ∷ []) moved in
    payload_judged pieces c.in-Keeping.config c.in-Keeping.run' c.in-Keeping.kept.items c.push.new.self.items c.args.one.now pushed
    (subst (λ (judge : Judge). IsJudge judge pieces) c.in-Keeping.is is) comes

pub returns-in_default : goal.returns-in_default
returns-in_default c = λ pieces is comes. absurd (no_payload c.args.self.now pieces c.args.one.now is comes c.in_default.not-Keeping)
