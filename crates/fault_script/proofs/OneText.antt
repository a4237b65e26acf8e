-- No two faults have one text.
use Rattle.std.proofs.Common.{◌≡◌, ◌≢◌, ℕ, ◌≤◌, ◌==◌, ◌⊎◌, if◌then◌else◌, Bool, true, false, cond, eqb, List, [], ◌∷◌, ◌++◌, drop, get_or, inl, inr, refl, sym, ◌∙◌, ap, subst, arith}
use Rattle.std.specs.Fmt.{decimal}
use Rattle.std.specs.Str.Parse.{AllDigits}
use Rattle.std.proofs.lemmas.Bool.{ne_eqb}
use Rattle.std.proofs.lemmas.Fmt.{decimal_injective, decimal_is_IsNumeral}
use Rattle.std.proofs.lemmas.List.{append_cancel_left}
use Rattle.std.proofs.lemmas.Str.Parse.{digit_from_value}
use Rattle.log_base.specs.ClusterShape.{InRange, Shape}
use Rattle.fault_script.specs.declared.fault.Fault.{Fault}
use Rattle.fault_script.specs.declared.kind.Kind.{Kind}
use Rattle.fault_script.specs.declared.kind.Kind.TheVariants.{Hold, Settle, Tick, Deliver, Drop, Again, Stop, StopAfter, Lose, Restart, Lead, Resubmit}
use Rattle.fault_script.specs.declared.operand.Operand.{Operand}
use Rattle.fault_script.specs.declared.operand.Operand.TheVariants.{Node, NodeWithDisks, After, Keep}
use Rattle.fault_script.specs.Lines.{IsFault, fault_line}
use Rattle.fault_script.specs.Grammar.{Fits, before_number, fault_of, line_of, operands_of, spell, word_of}
use Rattle.fault_script.proofs.AllowedNumbers.{allowed-small}
use Rattle.fault_script.proofs.KindLaws.{fault_of-parts, kind_of, line-parts, numbers_of, parts-fit, second, third}
use Rattle.fault_script.proofs.NumberSteps.{Ends, spell-ends}

-- no byte of a text is a space
abbrev spaceless : List ℕ → Bool
spaceless [] = true
spaceless (byte ∷ text) = if byte == 32 then false else spaceless text

first_other : (byte : ℕ) (text : List ℕ) → spaceless (byte ∷ text) ≡ true → byte ≢ 32
first_other byte text is same =
    let space : eqb byte 32 ≡ true = ap (λ (n : ℕ). eqb n 32) same in
    let no : spaceless (byte ∷ text) ≡ false = ap (λ (b : Bool). cond b false (spaceless text)) space in
    cc

rest_spaceless : (byte : ℕ) (text : List ℕ) → spaceless (byte ∷ text) ≡ true → spaceless text ≡ true
rest_spaceless byte text is =
    let other : eqb byte 32 ≡ false = ne_eqb byte 32 (first_other byte text is) in
    sym (ap (λ (b : Bool). cond b false (spaceless text)) other) ∙ is

-- texts with no space, each behind which the text ends or a space stands
same_front : (word other rest more : List ℕ) → spaceless word ≡ true → spaceless other ≡ true → Ends rest → Ends more
    → word ++ rest ≡ other ++ more → (word ≡ other) × (rest ≡ more)
same_front [] [] rest more w o ends other_ends is = (refl, is)
same_front [] (y ∷ other) [] more w o ends other_ends is = absurd (cc)
same_front [] (y ∷ other) (x ∷ rest) more w o ends other_ends is =
    let same : x ≡ y = cc in
    absurd (first_other y other o (sym same ∙ ends))
same_front (x ∷ word) [] rest [] w o ends other_ends is = absurd (cc)
same_front (x ∷ word) [] rest (y ∷ more) w o ends other_ends is =
    let same : x ≡ y = cc in
    absurd (first_other x word w (same ∙ other_ends))
same_front (x ∷ word) (y ∷ other) rest more w o ends other_ends is =
    let same : x ≡ y = cc in
    let tail : word ++ rest ≡ other ++ more = cc in
    let deeper = same_front word other rest more (rest_spaceless x word w) (rest_spaceless y other o) ends other_ends tail in
    (cc, deeper.1)

word-spaceless : (kind : Kind) → spaceless (word_of kind) ≡ true
word-spaceless Hold = refl
word-spaceless Settle = refl
word-spaceless Tick = refl
word-spaceless Deliver = refl
word-spaceless Drop = refl
word-spaceless Again = refl
word-spaceless Stop = refl
word-spaceless StopAfter = refl
word-spaceless Lose = refl
word-spaceless Restart = refl
word-spaceless Lead = refl
word-spaceless Resubmit = refl

digits-spaceless : (digits : List ℕ) → AllDigits 10 digits → spaceless digits ≡ true
digits-spaceless [] all = refl
digits-spaceless (d ∷ digits) all =
    let low = digit_from_value d all.0 in
    let other : d ≢ 32 = λ same. omega arith in
    ap (λ (b : Bool). cond b false (spaceless digits)) (ne_eqb d 32 other) ∙ digits-spaceless digits all.1

decimal-spaceless : (number : ℕ) → number ≤ 1000000 → spaceless (decimal number) ≡ true
decimal-spaceless number small = digits-spaceless (decimal number) (decimal_is_IsNumeral number (omega arith)).0.1

-- the kind by its word; a plan to stop has the word of a stop
abbrev kind_by : ℕ → ℕ → Kind
kind_by first fourth =
    if first == 104 then Hold
    else if first == 116 then Tick
    else if first == 97 then Again
    else if first == 115 then (if fourth == 116 then Settle else Stop)
    else if first == 100 then (if fourth == 105 then Deliver else Drop)
    else if first == 108 then (if fourth == 101 then Lose else Lead)
    else (if fourth == 116 then Restart else Resubmit)

abbrev kind_from : List ℕ → Kind
kind_from word = kind_by (get_or word 0 0) (get_or word 3 0)

known_kind : (kind : Kind) → (kind_from (word_of kind) ≡ kind) ⊎ (kind ≡ StopAfter)
known_kind Hold = inl refl
known_kind Settle = inl refl
known_kind Tick = inl refl
known_kind Deliver = inl refl
known_kind Drop = inl refl
known_kind Again = inl refl
known_kind Stop = inl refl
known_kind StopAfter = inr refl
known_kind Lose = inl refl
known_kind Restart = inl refl
known_kind Lead = inl refl
known_kind Resubmit = inl refl

-- the same numbers, as far as they are asked for
abbrev SameNumbers : List Operand → List ℕ → List ℕ → Type 0
SameNumbers [] numbers others = Unit {0}
SameNumbers (operand ∷ operands) numbers others = (get_or numbers 0 0 ≡ get_or others 0 0) × SameNumbers operands (drop 1 numbers) (drop 1 others)

same_spelling : (shape : Shape) (operands : List Operand) (numbers others : List ℕ) → InRange shape → Fits shape operands numbers → Fits shape operands others
    → spell operands numbers ≡ spell operands others → SameNumbers operands numbers others
same_spelling shape [] numbers others range fits others_fit is = tt
same_spelling shape (operand ∷ operands) numbers others range fits others_fit is =
    let small = allowed-small shape operand (get_or numbers 0 0) range fits.0 in
    let other_small = allowed-small shape operand (get_or others 0 0) range others_fit.0 in
    let behind = append_cancel_left (before_number operand) (decimal (get_or numbers 0 0) ++ spell operands (drop 1 numbers))
    (decimal (get_or others 0 0) ++ spell operands (drop 1 others)) is in
    let parts = same_front (decimal (get_or numbers 0 0)) (decimal (get_or others 0 0)) (spell operands (drop 1 numbers)) (spell operands (drop 1 others))
    (decimal-spaceless (get_or numbers 0 0) small) (decimal-spaceless (get_or others 0 0) other_small)
    (spell-ends operands (drop 1 numbers)) (spell-ends operands (drop 1 others)) behind in (
      decimal_injective (get_or numbers 0 0) (get_or others 0 0) (omega arith) (omega arith) parts.0,
      same_spelling shape operands (drop 1 numbers) (drop 1 others) range fits.1 others_fit.1 parts.1,
    )

-- a fault has no other numbers than those
same_fault : (kind : Kind) (numbers others : List ℕ) → SameNumbers (operands_of kind) numbers others → fault_of kind numbers ≡ fault_of kind others
same_fault Hold numbers others same = refl
same_fault Settle numbers others same = refl
same_fault Tick numbers others same = cc (same.0)
same_fault Deliver numbers others same = cc (same.0)
same_fault Drop numbers others same = cc (same.0)
same_fault Again numbers others same = cc (same.0)
same_fault Stop numbers others same = cc (same.0)
same_fault StopAfter numbers others same = cc (same.0, same.1.0, same.1.1.0, second numbers, second others, third numbers, third others)
same_fault Lose numbers others same = cc (same.0, same.1.0, second numbers, second others)
same_fault Restart numbers others same = cc (same.0)
same_fault Lead numbers others same = cc (same.0)
same_fault Resubmit numbers others same = refl

-- a stop is no plan to stop
not_both : (shape : Shape) (numbers others : List ℕ) → InRange shape → Fits shape (operands_of Stop) numbers → Fits shape (operands_of StopAfter) others
    → spell (operands_of Stop) numbers ≡ spell (operands_of StopAfter) others → ⊥
not_both shape numbers others range fits others_fit is =
    let small = allowed-small shape Node (get_or numbers 0 0) range fits.0 in
    let other_small = allowed-small shape NodeWithDisks (get_or others 0 0) range others_fit.0 in
    let after = After ∷ Keep ∷ [] in
    let behind = append_cancel_left (32 ∷ []) (decimal (get_or numbers 0 0) ++ []) (decimal (get_or others 0 0) ++ spell after (drop 1 others)) is in
    let parts = same_front (decimal (get_or numbers 0 0)) (decimal (get_or others 0 0)) [] (spell after (drop 1 others))
    (decimal-spaceless (get_or numbers 0 0) small) (decimal-spaceless (get_or others 0 0) other_small) tt (spell-ends after (drop 1 others)) behind in
    cc (parts.1)

same_line : (shape : Shape) (kind other : Kind) (numbers others : List ℕ) → InRange shape → Fits shape (operands_of kind) numbers
    → Fits shape (operands_of other) others → line_of kind numbers ≡ line_of other others → fault_of kind numbers ≡ fault_of other others
same_line shape kind other numbers others range fits others_fit is =
    let parts = same_front (word_of kind) (word_of other) (spell (operands_of kind) numbers) (spell (operands_of other) others)
    (word-spaceless kind) (word-spaceless other) (spell-ends (operands_of kind) numbers) (spell-ends (operands_of other) others) is in
    let words : kind_from (word_of kind) ≡ kind_from (word_of other) = ap kind_from parts.0 in
    elim (known_kind kind) [
      | inl known ↦ elim (known_kind other) [
        | inl other_known ↦ by_kind (sym known ∙ words ∙ other_known) parts.1
        | inr plan ↦
            let stop : kind ≡ Stop = sym known ∙ words ∙ ap (λ (k : Kind). kind_from (word_of k)) plan in
            absurd (not_both shape numbers others range (subst (λ (k : Kind). Fits shape (operands_of k) numbers) stop fits)
            (subst (λ (k : Kind). Fits shape (operands_of k) others) plan others_fit)
            (sym (ap (λ (k : Kind). spell (operands_of k) numbers) stop) ∙ parts.1 ∙ ap (λ (k : Kind). spell (operands_of k) others) plan))
      ]
      | inr plan ↦ elim (known_kind other) [
        | inl other_known ↦
            let stop : other ≡ Stop = sym other_known ∙ sym words ∙ ap (λ (k : Kind). kind_from (word_of k)) plan in
            absurd (not_both shape others numbers range (subst (λ (k : Kind). Fits shape (operands_of k) others) stop others_fit)
            (subst (λ (k : Kind). Fits shape (operands_of k) numbers) plan fits)
            (sym (ap (λ (k : Kind). spell (operands_of k) others) stop) ∙ sym parts.1 ∙ ap (λ (k : Kind). spell (operands_of k) numbers) plan))
        | inr other_plan ↦ by_kind (plan ∙ sym other_plan) parts.1
      ]
    ]
  where
    by_kind : kind ≡ other → spell (operands_of kind) numbers ≡ spell (operands_of other) others → fault_of kind numbers ≡ fault_of other others
    by_kind same spelled =
        same_fault kind numbers others
        (same_spelling shape (operands_of kind) numbers others range fits (subst (λ (k : Kind). Fits shape (operands_of k) others) (sym same) others_fit)
        (spelled ∙ ap (λ (k : Kind). spell (operands_of k) others) (sym same)))
        ∙ ap (λ (k : Kind). fault_of k others) same

pub one_text : (shape : Shape) (f other : Fault) → InRange shape → IsFault shape f → IsFault shape other → fault_line f ≡ fault_line other → f ≡ other
one_text shape f other range is other_is same =
    sym (fault_of-parts f)
    ∙ same_line shape (kind_of f) (kind_of other) (numbers_of f) (numbers_of other) range (parts-fit shape f is) (parts-fit shape other other_is)
    (sym (line-parts f) ∙ same ∙ line-parts other)
    ∙ fault_of-parts other
