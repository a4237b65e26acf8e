-- Numbers of at most ten digits, and their texts.
use Rattle.std.proofs.Common.{◌≡◌, ◌≢◌, ℕ, zero, suc, ◌^◌, ◌<◌, ◌≤◌, List, length, get_or, sym, ◌∙◌, ap, subst, Option, Some, None, Result, Ok, Err, arith}
use Rattle.std.specs.Option.{MatchOption}
use Rattle.std.specs.Fmt.{decimal}
use Rattle.std.specs.Str.Parse.{AllDigits, ParsesUnsigned, digits_value}
use Rattle.std.proofs.lemmas.Fmt.{decimal-digits_value, decimal_digit, decimal_injective, decimal_is_IsNumeral, decimal_nonempty, first_decimal, length-decimal-le, parse-decimal}
use Rattle.std.proofs.lemmas.Str.Parse.{IsNumeralModel, digit_at, digits_value_short, numerals_by_value, parse_plain, tells_digits}

digits : IsNumeralModel (AllDigits 10) (digits_value 10)
digits = numerals_by_value (AllDigits 10) tells_digits

-- the text of a number is not empty, has at most ten digits, begins with a digit, and with a zero only where it
-- has no other
pub decimal-length : (number : ℕ) → number < 10 ^ 10 → (0 < length (decimal number)) × (length (decimal number) ≤ 10)
decimal-length number small = (decimal_nonempty number (omega arith), length-decimal-le 10 number (omega arith) small (omega arith))

pub decimal-first : (number : ℕ) → number < 10 ^ 10 → get_or (decimal number) 0 0 ≢ 43
decimal-first number small is =
    let some = decimal_nonempty number (omega arith) in
    let digit = digit_at (decimal number) 0 (decimal_is_IsNumeral number (omega arith)).0.1 some in
    omega arith

pub decimal-zero : (number : ℕ) → number < 10 ^ 10 → get_or (decimal number) 0 0 ≡ 48 → length (decimal number) ≡ 1
decimal-zero zero small is = ap length (decimal_digit 0 (omega arith))
decimal-zero (suc n) small is =
    let first : 48 < get_or (decimal (suc n)) 0 0 = first_decimal (suc n) (omega arith) (omega arith) in
    absurd (omega arith)

-- what is parsed of such a text is its number
pub parsed : {E : Type 0} (text : List ℕ) (number : ℕ) (result : Result ℕ E) → 0 < length text → length text ≤ 10 → get_or text 0 0 ≢ 43
    → (get_or text 0 0 ≡ 48 → length text ≡ 1) → ParsesUnsigned 64 10 text result → result ≡ Ok number
    → (number < 10 ^ 10) × (text ≡ decimal number)
parsed {E} text number result some few plus zero_alone parses is =
    let gives = subst (λ (r : Result ℕ E). ParsesUnsigned 64 10 text r) is parses in
    let facts = parse_plain digits {E = E} 64 text (Ok number) gives plus in
    let small : digits_value 10 text < 10 ^ 10 = digits_value_short digits text 10 facts.0.0 few in
    let shown = decimal-digits_value digits text facts.0.0 some zero_alone (omega arith) in
    (subst (λ (n : ℕ). n < 10 ^ 10) (sym facts.1) small, sym shown ∙ ap decimal (sym facts.1))

-- the text of a number is parsed
pub not_parsed : {E : Type 0} (text : List ℕ) (number : ℕ) (result : Result ℕ E) (error : E) → ParsesUnsigned 64 10 text result → result ≡ Err error
    → number < 10 ^ 10 → text ≢ decimal number
not_parsed text number result error parses is small shown =
    let given = parse-decimal 64 number text result (omega arith) (omega arith) shown parses in
    cc

-- a number that is read is in the range, or its text is that of none in it
pub in_range : (text : List ℕ) (number least most : ℕ) (result : Option ℕ) → number < 10 ^ 10 → text ≡ decimal number → most < 2 ^ 32
    → MatchOption result (least ≤ number → number ≤ most → ⊥) (λ same. (same ≡ number) × (least ≤ number) × (number ≤ most))
    → MatchOption result ((other : ℕ) → least ≤ other → other ≤ most → text ≢ decimal other) (λ same. (least ≤ same) × (same ≤ most) × (text ≡ decimal same))
in_range text number least most None small shown wide tells = λ other low high is.
    let same : number ≡ other = decimal_injective number other (omega arith) (omega arith) (sym shown ∙ is) in
    tells (omega arith) (omega arith)
in_range text number least most (Some same) small shown wide tells =
    let is : same ≡ number = tells.0 in
    (omega arith, omega arith, shown ∙ ap decimal (sym is))
