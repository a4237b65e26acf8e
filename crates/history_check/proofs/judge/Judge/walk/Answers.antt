use Rattle.std.proofs.Common.{arith, subst}
use Rattle.history_check.specs.Judging.{HasBegun}
use Rattle.history_check.specs.declared.judge.Judge.{Judge}
use Rattle.history_check.proofs.JudgeLaws.{breaks_judged, few_walked, follows_judged, other_judged}
use Rattle.history_check.proofs.judge.Judge.walk.Goals as goal

pub overflow_add-events : goal.overflow_add-events
overflow_add-events c =
    let has = subst (λ (judge : Judge). HasBegun judge c.requires.0) c.in-Walking.is c.requires.1 in
    omega (arith, few_walked c.requires.0 c.in-Walking.walker c.in-Walking.events has c.args.event.now c.requires.2)

pub returns-in-Follows : goal.returns-in-Follows
returns-in-Follows c = λ pieces begun comes.
    let has = subst (λ (judge : Judge). HasBegun judge pieces) c.in-Walking.is begun in
    let offered = c.in_ok-offer-in-Walking.ensures in
    follows_judged pieces c.in-Walking.walker c.in-Walking.events has c.args.event.now c.offer.new.self c.in_ok-offer-in-Walking.field-0 offered.config offered.run comes offered.answer c.in-Follows.is

pub returns-in-Breaks : goal.returns-in-Breaks
returns-in-Breaks c = λ pieces begun comes.
    let has = subst (λ (judge : Judge). HasBegun judge pieces) c.in-Walking.is begun in
    let offered = c.in_ok-offer-in-Walking.ensures in
    breaks_judged pieces c.in-Walking.walker c.in-Walking.events has c.args.event.now c.offer.new.self c.in_ok-offer-in-Walking.field-0 offered.config offered.run comes offered.answer c.in-Breaks.is

pub returns-in_default : goal.returns-in_default
returns-in_default c = λ pieces begun comes. other_judged c.args.self.now pieces c.args.event.now c.in_default.not-Walking begun
