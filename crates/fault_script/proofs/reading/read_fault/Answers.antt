use Rattle.std.proofs.Common.{◌≡◌, ◌+◌, ℕ, Ok, max, sym, ◌∙◌, ap, subst, arith}
use Rattle.std.specs.Ordering.{nat_cmp, ord_max}
use Rattle.std.proofs.lemmas.Bool.Decides.{nat_tests}
use Rattle.std.proofs.lemmas.Grind.{common_steps}
use Rattle.log_base.specs.Shape.{shape}
use Rattle.fault_script.specs.declared.kind.Kind.TheVariants.{Hold}
use Rattle.fault_script.proofs.KindsSoFar.{KindsSoFar, begins_some, next_kind, no_kind, none_longer, within_text}
use Rattle.fault_script.proofs.OneText.{one_text}
use Rattle.fault_script.proofs.reading.read_fault.Goals as goal

greater : (n m : ℕ) → max n m ≡ ord_max nat_cmp n m
greater n m = grind (arith, common_steps, nat_tests)

pub loop-kind-init : goal.loop-kind-init
loop-kind-init c = no_kind (shape c.args.config.now) c.args.text.now

pub returns-in-Ok-clause-read : goal.returns-in-Ok-clause-read
returns-in-Ok-clause-read c = λ fault is text_is.
    ap Ok (one_text (shape c.args.config.now) c.in-Ok.fault fault c.args.config.now.in_range c.in-Ok.ensures.0 is (sym c.in-Ok.ensures.1 ∙ text_is))

pub loop-kind-preserved : goal.loop-kind-preserved
loop-kind-preserved c =
    subst (KindsSoFar (shape c.args.config.now) c.args.text.now (c.loop-kind.kind-index + 1)) (greater c.loop-kind.at c.in-Err.begun ∙ sym c.max-at.ensures)
    (next_kind (shape c.args.config.now) c.args.text.now c.loop-kind.kind-index c.loop-kind.at c.in-Err.begun Hold c.loop-kind.invariant c.in-Err.ensures)

pub returns-clause-within : goal.returns-clause-within
returns-clause-within c = within_text (shape c.args.config.now) c.args.text.now c.loop-kind.at c.loop-kind.kind-index c.loop-kind.invariant

pub returns-clause-begins : goal.returns-clause-begins
returns-clause-begins c = begins_some (shape c.args.config.now) c.args.text.now c.loop-kind.at c.loop-kind.kind-index c.loop-kind.invariant

pub returns-clause-longest : goal.returns-clause-longest
returns-clause-longest c =
    none_longer (shape c.args.config.now) c.args.text.now c.loop-kind.at c.loop-kind.kind-index c.loop-kind.invariant (omega arith)
