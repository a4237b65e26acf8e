use Rattle.std.proofs.Common.{List, subst, sym, ◌∙◌}
use Rattle.history_frame.specs.declared.events.Kept.{Kept}
use Rattle.log_base.specs.Shape.{shape}
use Rattle.node_model.specs.Sound.{IsSound, payloads_on}
use Rattle.history_check.specs.Judging.{IsJudge}
use Rattle.history_check.specs.declared.judge.Judge.{Judge}
use Rattle.history_check.proofs.JudgeLaws.{begins_broken, has_begun}
use Rattle.history_check.proofs.judge.Judge.begun.Goals as goal

pub returns-in-Breaks : goal.returns-in-Breaks
returns-in-Breaks c = λ pieces is inside.
    begins_broken pieces c.in-Keeping.config c.in-Keeping.run' c.in-Keeping.kept.items (subst (λ (judge : Judge). IsJudge judge pieces) c.in-Keeping.is is)
    (λ sound.
    let told = subst (λ (kept : List Kept). IsSound (shape c.in-Keeping.config) c.in-Keeping.run' (payloads_on kept)) (sym c.deref.ensures.value) sound in
    let both = sym (c.sound.ensures.sound.1 told) ∙ c.in-Breaks.is in
    cc)

pub start-requires : goal.start-requires
start-requires c =
    subst (λ (kept : List Kept). IsSound (shape c.in-Keeping.config) c.in-Keeping.run' (payloads_on kept)) c.deref.ensures.value (c.sound.ensures.sound.0 c.in-Sound.is)

pub returns-in_default : goal.returns-in_default
returns-in_default c = λ pieces is inside. has_begun c.args.self pieces is inside c.in_default.not-Keeping
