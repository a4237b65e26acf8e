-- The decimal digits of a number.
use Rattle.std.proofs.Common.{◌≡◌, ◌≢◌, ℕ, zero, suc, ◌+◌, ◌-◌, ◌*◌, ◌/◌, ◌%◌, ◌^◌, ◌<◌, ◌≤◌, List, [], ◌∷◌, ◌++◌, get_or, refl, sym, ◌∙◌, ap, subst, Option, None, Some, arith}
use Rattle.std.specs.Fmt.{decimal}
use Rattle.std.specs.Option.{IfSome}
use Rattle.std.specs.Char.{digit_value}
use Rattle.std.specs.Str.Parse.{AllDigits, digits_value, digits_value_after}
use Rattle.std.proofs.lemmas.Fmt.{decimal_digit, decimal_is_IsNumeral, decimal_step, first_decimal}
use Rattle.std.proofs.lemmas.Str.Parse.{digit_from_value}
use Rattle.fault_script.specs.Grammar.{shown}

-- each byte behind a front is a digit
pub digit_in : (front rest : List ℕ) (byte : ℕ) → AllDigits 10 (front ++ byte ∷ rest) → (48 ≤ byte) × (byte ≤ 57)
digit_in [] rest byte digits = let range = digit_from_value byte digits.0 in (omega arith, omega arith)
digit_in (c ∷ front) rest byte digits = digit_in front rest byte digits.1

-- a byte that is no digit stands in no number
pub no_digit : (number byte : ℕ) (front rest : List ℕ) → number < 2 ^ 64 → (48 ≤ byte → byte ≤ 57 → ⊥)
    → decimal number ≢ front ++ byte ∷ rest
no_digit number byte front rest small other is =
    let range = digit_in front rest byte (subst (AllDigits 10) is (decimal_is_IsNumeral number small).0.1) in
    other range.0 range.1

-- no number has a digit behind a leading zero
pub no_leading_zero : (number byte : ℕ) (rest : List ℕ) → number < 2 ^ 64 → decimal number ≢ decimal 0 ++ byte ∷ rest
no_leading_zero zero byte rest small is =
    let one : decimal 0 ≡ 48 ∷ [] = decimal_digit 0 (omega arith) in
    absurd (cc)
no_leading_zero (suc n) byte rest small is =
    let one : decimal 0 ≡ 48 ∷ [] = decimal_digit 0 (omega arith) in
    let first : 48 < get_or (decimal (suc n)) 0 0 = first_decimal (suc n) (omega arith) small in
    let zero_first : get_or (decimal (suc n)) 0 0 ≡ 48 = ap (λ (ds : List ℕ). get_or ds 0 0) (is ∙ ap (λ (ds : List ℕ). ds ++ byte ∷ rest) one) in
    omega arith

-- one digit more
pub decimal-more : (value digit : ℕ) → 0 < value → digit < 10 → value * 10 + digit < 2 ^ 64
    → decimal (value * 10 + digit) ≡ decimal value ++ (48 + digit) ∷ []
decimal-more value digit some small fits =
    let front : (value * 10 + digit) / 10 ≡ value = omega arith in
    let end : (value * 10 + digit) % 10 ≡ digit = omega arith in
    decimal_step (value * 10 + digit) (omega arith) fits
    ∙ ap (λ (n : ℕ). decimal n ++ (48 + (value * 10 + digit) % 10) ∷ []) front
    ∙ ap (λ (n : ℕ). decimal value ++ (48 + n) ∷ []) end

value_after-append : (n : ℕ) (ds es : List ℕ) → digits_value_after 10 n (ds ++ es) ≡ digits_value_after 10 (digits_value_after 10 n ds) es
value_after-append n [] es = refl
value_after-append n (d ∷ ds) es = value_after-append (n * 10 + digit_value d) ds es

value_after-ge : (n : ℕ) (ds : List ℕ) → n ≤ digits_value_after 10 n ds
value_after-ge n [] = omega arith
value_after-ge n (d ∷ ds) = omega (arith, value_after-ge (n * 10 + digit_value d) ds)

-- a number that begins with the digits of another is that one, or at least ten times as great
pub longer-ge : (number value byte : ℕ) (rest : List ℕ) → number < 2 ^ 64 → value < 2 ^ 64
    → decimal number ≡ decimal value ++ byte ∷ rest → value * 10 ≤ number
longer-ge number value byte rest small value_small is =
    let whole : number ≡ digits_value 10 (decimal value ++ byte ∷ rest) = sym (decimal_is_IsNumeral number small).1 ∙ ap (digits_value 10) is in
    let front : digits_value 10 (decimal value) ≡ value = (decimal_is_IsNumeral value value_small).1 in
    let parts : digits_value 10 (decimal value ++ byte ∷ rest) ≡ digits_value_after 10 (value * 10 + digit_value byte) rest
    = value_after-append 0 (decimal value) (byte ∷ rest) ∙ ap (λ (n : ℕ). digits_value_after 10 n (byte ∷ rest)) front in
    omega (arith, value_after-ge (value * 10 + digit_value byte) rest)

-- the first digit
pub first_digit : (so_far : Option ℕ) (digit byte : ℕ) → so_far ≡ None → 48 ≤ byte → byte ≤ 57 → digit ≡ byte - 48
    → (digit ≤ 10000009) × (decimal digit ≡ shown so_far ++ byte ∷ [])
first_digit so_far digit byte none low high is =
    let same : 48 + digit ≡ byte = omega arith in
    (omega arith, decimal_digit digit (omega arith) ∙ ap (λ (n : ℕ). n ∷ []) same ∙ ap (λ (o : Option ℕ). shown o ++ byte ∷ []) (sym none))

-- the next digit
pub next_digit : (so_far : Option ℕ) (value digit byte : ℕ) → so_far ≡ Some value → IfSome so_far (λ n. n ≤ 1000000) → value ≢ 0
    → 48 ≤ byte → byte ≤ 57 → digit ≡ byte - 48
    → (value * 10 + digit ≤ 10000009) × (decimal (value * 10 + digit) ≡ shown so_far ++ byte ∷ [])
next_digit so_far value digit byte some small not_zero low high is =
    let same : 48 + digit ≡ byte = omega arith in
    let at_most : value ≤ 1000000 = subst (λ (o : Option ℕ). IfSome o (λ n. n ≤ 1000000)) some small in (
      omega arith,
      decimal-more value digit (omega arith) (omega arith) (omega arith) ∙ ap (λ (n : ℕ). decimal value ++ n ∷ []) same
          ∙ ap (λ (o : Option ℕ). shown o ++ byte ∷ []) (sym some),
    )

-- no digit behind a leading zero
pub after_zero : (so_far : Option ℕ) (value number byte : ℕ) (rest : List ℕ) → so_far ≡ Some value → value ≡ 0 → number ≤ 1000000
    → decimal number ≢ shown so_far ++ byte ∷ rest
after_zero so_far value number byte rest some none small is =
    no_leading_zero number byte rest (omega arith)
    (is ∙ ap (λ (o : Option ℕ). shown o ++ byte ∷ rest) some ∙ ap (λ (n : ℕ). decimal n ++ byte ∷ rest) none)
