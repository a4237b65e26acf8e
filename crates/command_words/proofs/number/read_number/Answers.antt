use Rattle.std.proofs.Common.{◌≡◌, ◌≢◌, ◌<◌, ◌≤◌, ℕ, List, length, get_or, sym, ap, subst, arith, rules}
use Rattle.command_words.proofs.NumberText.{decimal-first, decimal-length, decimal-zero, not_parsed, parsed}
use Rattle.command_words.proofs.number.read_number.Goals as goal
use Rattle.command_words.proofs.number.read_number.Goals.{then-is_empty-via-then-is_empty, then-is_empty-via-else-is_empty+then-digits-gt-MOST_DIGITS, then-is_empty-via-else-is_empty+else-digits-gt-MOST_DIGITS+then-digits-eq43, else-digits-eq48-via-then-digits-eq48+else-digits-gt1, else-digits-eq48-via-else-digits-eq48}

pub returns-then-is_empty : goal.returns-then-is_empty
returns-then-is_empty c = λ number small shown.
    let same : c.as_bytes-digits.result.now ≡ c.args.word.now = c.as_bytes-digits.ensures.value in
    let long = decimal-length number small in
    let some : 0 < length c.args.word.now = subst (λ (text : List ℕ). 0 < length text) (sym shown) long.0 in
    let few : length c.args.word.now ≤ 10 = subst (λ (text : List ℕ). length text ≤ 10) (sym shown) long.1 in
    let first : get_or c.args.word.now 0 0 ≢ 43 = subst (λ (text : List ℕ). get_or text 0 0 ≢ 43) (sym shown) (decimal-first number small) in
    let few_digits : length c.as_bytes-digits.result.now ≡ length c.args.word.now = ap length same in
    let first_digit : get_or c.as_bytes-digits.result.now 0 0 ≡ get_or c.args.word.now 0 0 = ap (λ (text : List ℕ). get_or text 0 0) same in
    elim c.then-is_empty.branch [
      | then-is_empty-via-then-is_empty w ↦
          let none : length c.as_bytes-digits.result.now ≡ 0 = grind (arith, c.is_empty.ensures, w.if-is_empty.true) in
          absurd (omega arith)
      | then-is_empty-via-else-is_empty+then-digits-gt-MOST_DIGITS w ↦ absurd (omega arith)
      | then-is_empty-via-else-is_empty+else-digits-gt-MOST_DIGITS+then-digits-eq43 w ↦ absurd (omega arith)
    ]

pub returns-then-digits-gt1 : goal.returns-then-digits-gt1
returns-then-digits-gt1 c = λ number small shown.
    let same : c.as_bytes-digits.result.now ≡ c.args.word.now = c.as_bytes-digits.ensures.value in
    let few_digits : length c.as_bytes-digits.result.now ≡ length c.args.word.now = ap length same in
    let first_digit : get_or c.as_bytes-digits.result.now 0 0 ≡ get_or c.args.word.now 0 0 = ap (λ (text : List ℕ). get_or text 0 0) same in
    let zero_alone : get_or c.args.word.now 0 0 ≡ 48 → length c.args.word.now ≡ 1
    = subst (λ (text : List ℕ). get_or text 0 0 ≡ 48 → length text ≡ 1) (sym shown) (decimal-zero number small) in
    let alone : length c.args.word.now ≡ 1 = zero_alone (omega arith) in
    absurd (omega arith)

pub returns-in-Ok : goal.returns-in-Ok
returns-in-Ok c =
    let same : c.as_bytes-digits.result.now ≡ c.args.word.now = c.as_bytes-digits.ensures.value in
    let few_digits : length c.as_bytes-digits.result.now ≡ length c.args.word.now = ap length same in
    let first_digit : get_or c.as_bytes-digits.result.now 0 0 ≡ get_or c.args.word.now 0 0 = ap (λ (text : List ℕ). get_or text 0 0) same in
    let some : 0 < length c.args.word.now = search rules in
    parsed c.args.word.now c.in-Ok.number c.parse.result some (omega arith) (λ plus. absurd (omega arith))
    (λ zero. elim c.else-digits-eq48.branch [
      | else-digits-eq48-via-then-digits-eq48+else-digits-gt1 w ↦ omega arith
      | else-digits-eq48-via-else-digits-eq48 w ↦ absurd (omega arith)
    ])
    c.parse.ensures.value.0 c.in-Ok.is

pub returns-in-Err : goal.returns-in-Err
returns-in-Err c = λ number small. not_parsed c.args.word.now number c.parse.result c.in-Err.field-0 c.parse.ensures.value.0 c.in-Err.is small
