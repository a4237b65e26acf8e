use Rattle.std.proofs.Common.{◌≡◌, ◌<◌, ◌-◌, List, ℕ, ◌∷◌, length, take, drop, refl, sym, ◌∙◌, ap, subst}
use Rattle.log_base.specs.Shape.{shape}
use Rattle.fault_script.specs.Grammar.{before_number}
use Rattle.fault_script.specs.Longest.{Stops, shared}
use Rattle.fault_script.proofs.NumberSteps.{before_stops, number_goes, number_stops}
use Rattle.fault_script.proofs.SharedFronts.{word_there}
use Rattle.fault_script.proofs.operand.Operand.read.Goals as goal

pub returns-then-shared-before-clause-err : goal.returns-then-shared-before-clause-err
returns-then-shared-before-clause-err c = λ operands.
    let text = c.args.text.now in
    let count = c.shared_length-shared.result in
    let word : count ≡ shared text (before_number c.args.self) = c.shared_length-shared.ensures.count ∙ ap (shared text) c.before-before.ensures in
    let less : shared text (before_number c.args.self) < length (before_number c.args.self)
    = subst (λ (n : ℕ). n < length (before_number c.args.self)) word (subst (λ (w : List ℕ). count < length w) c.before-before.ensures c.if-shared-before.true) in
    subst (Stops (shape c.args.config.now) (c.args.self ∷ operands) text) (sym word)
    (before_stops (shape c.args.config.now) c.args.self text c.args.config.now.in_range less operands)

pub returns-in-Some-clause-ok : goal.returns-in-Some-clause-ok
returns-in-Some-clause-ok c =
    let text = c.args.text.now in
    let count = c.shared_length-shared.result in
    let there = word_there text (before_number c.args.self) c.before-before.result.now count c.before-before.ensures c.shared_length-shared.ensures.count c.if-shared-before.false in
    number_goes (shape c.args.config.now) c.args.self text (take (length text - count) (drop count text)) c.run-run.result.value count c.run-run.result.length
    c.in-Some.number c.args.config.now.in_range there.0 there.1 c.run-run.ensures c.in-Some.ensures.some.0 c.in-Some.ensures.some.1

pub returns-in-None-clause-err : goal.returns-in-None-clause-err
returns-in-None-clause-err c =
    let text = c.args.text.now in
    let count = c.shared_length-shared.result in
    let there = word_there text (before_number c.args.self) c.before-before.result.now count c.before-before.ensures c.shared_length-shared.ensures.count c.if-shared-before.false in
    number_stops (shape c.args.config.now) c.args.self text (take (length text - count) (drop count text)) c.run-run.result.value count c.run-run.result.length
    c.args.config.now.in_range there.0 there.1 c.run-run.ensures (c.in-None.ensures.none refl)
