use Rattle.std.proofs.Common.{arith}
use Rattle.fault_script.specs.Grammar.{shown}
use Rattle.fault_script.proofs.DecimalText.{after_zero, first_digit, next_digit, no_digit}
use Rattle.fault_script.proofs.operand.digit_after.Goals as goal
use Rattle.fault_script.proofs.operand.digit_after.Goals.{then-byte-lt48-via-then-byte-lt48, then-byte-lt48-via-else-byte-lt48+then-byte-gt57}

pub returns-then-byte-lt48-clause-none : goal.returns-then-byte-lt48-clause-none
returns-then-byte-lt48-clause-none c = λ _ number rest small.
    no_digit number c.args.byte (shown c.args.so_far) rest (omega arith)
    (λ low high. elim c.then-byte-lt48.branch [
      | then-byte-lt48-via-then-byte-lt48 w ↦ absurd (omega arith)
      | then-byte-lt48-via-else-byte-lt48+then-byte-gt57 w ↦ absurd (omega arith)
    ])

pub returns-in-None-clause-some : goal.returns-in-None-clause-some
returns-in-None-clause-some c = first_digit c.args.so_far c.from-digit.result c.args.byte c.in-None.is c.if-byte-lt48.false c.if-byte-gt57.false c.from-digit.ensures

pub returns-then-value-eq0-clause-none : goal.returns-then-value-eq0-clause-none
returns-then-value-eq0-clause-none c = λ _ number rest small. after_zero c.args.so_far c.in-Some.value number c.args.byte rest c.in-Some.is c.if-value-eq0.true small

pub returns-in-Some-clause-some : goal.returns-in-Some-clause-some
returns-in-Some-clause-some c =
    next_digit c.args.so_far c.in-Some.value c.from-digit.result c.args.byte c.in-Some.is c.requires c.if-value-eq0.false c.if-byte-lt48.false c.if-byte-gt57.false c.from-digit.ensures
