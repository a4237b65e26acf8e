-- A number at the front of each line, by the longest run of digits that begins one.
use Rattle.std.proofs.Common.{◌≡◌, ◌≢◌, ℕ, zero, suc, ◌+◌, ◌*◌, ◌<◌, ◌≤◌, List, [], ◌∷◌, ◌++◌, length, drop, get_or, inl, inr, Option, None, Some, refl, sym, ◌∙◌, ap, subst, arith, append-nil, append_assoc}
use Rattle.std.specs.Fmt.{decimal}
use Rattle.std.specs.Option.{IfSome}
use Rattle.std.specs.Str.Parse.{AllDigits}
use Rattle.std.proofs.lemmas.Fmt.{decimal_injective, decimal_is_IsNumeral, decimal_nonempty}
use Rattle.std.proofs.lemmas.List.{append_cancel_left, length-append, length-take, take-append-drop}
use Rattle.std.proofs.Math.Seq.{drop-append-add}
use Rattle.std.proofs.lemmas.Str.Parse.{digit_from_value}
use Rattle.log_base.specs.ClusterShape.{InRange, Shape}
use Rattle.fault_script.specs.declared.operand.Operand.{Operand}
use Rattle.fault_script.specs.declared.operand.Operand.TheVariants.{Node, NodeWithDisks, Orderer, Letter, After, Keep}
use Rattle.fault_script.specs.Grammar.{Allows, BeginsOne, Fits, IsRun, before_number, shown, spell}
use Rattle.fault_script.specs.Longest.{Goes, Longest, Stops, shared}
use Rattle.fault_script.proofs.AllowedNumbers.{allowed-small, zero_allowed, zeros_fit}
use Rattle.fault_script.proofs.DecimalText.{decimal-more}
use Rattle.fault_script.proofs.SharedFronts.{same_or_other, shared-cons_other, shared-cons_same}
use Rattle.fault_script.proofs.WordSteps.{behind_word, word_goes, word_stops}

-- a text that ends or begins with a space
abbrev pub Ends : List ℕ → Type 0
Ends [] = Unit {0}
Ends (byte ∷ text) = byte ≡ 32

pub spell-ends : (operands : List Operand) (numbers : List ℕ) → Ends (spell operands numbers)
spell-ends [] numbers = tt
spell-ends (Node ∷ operands) numbers = refl
spell-ends (NodeWithDisks ∷ operands) numbers = refl
spell-ends (Orderer ∷ operands) numbers = refl
spell-ends (Letter ∷ operands) numbers = refl
spell-ends (After ∷ operands) numbers = refl
spell-ends (Keep ∷ operands) numbers = refl

not_space : (digit byte : ℕ) → 48 ≤ digit → byte ≡ 32 → digit ≢ byte
not_space digit byte low is same = omega arith

-- digits that are not a number share at most these digits with it, where no more of them begin it
run-most : (run rest digits more : List ℕ) → AllDigits 10 run → Ends more
    → ((byte : ℕ) (after others : List ℕ) → rest ≡ byte ∷ others → digits ≢ run ++ byte ∷ after) → digits ≢ run
    → shared (run ++ rest) (digits ++ more) ≤ length run
run-most [] rest [] more all ends longest other = absurd (other refl)
run-most [] [] (y ∷ digits) more all ends longest other = omega arith
run-most [] (x ∷ rest) (y ∷ digits) more all ends longest other =
    elim (same_or_other x y) [
      | inl same ↦ absurd (longest x digits rest refl (ap (λ (n : ℕ). n ∷ digits) (sym same)))
      | inr differ ↦ omega (arith, shared-cons_other x y rest (digits ++ more) differ)
    ]
run-most (x ∷ run) rest [] [] all ends longest other = omega arith
run-most (x ∷ run) rest [] (y ∷ more) all ends longest other =
    let low = digit_from_value x all.0 in
    omega (arith, shared-cons_other x y (run ++ rest) more (not_space x y (omega arith) ends))
run-most (x ∷ run) rest (y ∷ digits) more all ends longest other =
    elim (same_or_other x y) [
      | inl same ↦
          let deeper = run-most run rest digits more all.1 ends
          (λ byte after others is no. longest byte after others is (cc))
          (λ no. other (cc)) in
          omega (arith, shared-cons_same x y (run ++ rest) (digits ++ more) same)
      | inr differ ↦ omega (arith, shared-cons_other x y (run ++ rest) (digits ++ more) differ)
    ]

-- and a text that begins with a number begins with just its digits
run-same : (run rest digits more : List ℕ) → AllDigits 10 run → Ends more
    → ((byte : ℕ) (after others : List ℕ) → rest ≡ byte ∷ others → digits ≢ run ++ byte ∷ after)
    → run ++ rest ≡ digits ++ more → digits ≡ run
run-same [] rest [] more all ends longest is = refl
run-same [] rest (y ∷ digits) more all ends longest is = absurd (longest y digits (digits ++ more) is refl)
run-same (x ∷ run) rest [] [] all ends longest is = absurd (cc)
run-same (x ∷ run) rest [] (y ∷ more) all ends longest is =
    let low = digit_from_value x all.0 in
    let same : x ≡ y = cc in
    absurd (not_space x y (omega arith) ends same)
run-same (x ∷ run) rest (y ∷ digits) more all ends longest is =
    let same : x ≡ y = cc in
    let tail : run ++ rest ≡ digits ++ more = cc in
    let deeper : digits ≡ run = run-same run rest digits more all.1 ends (λ byte after others rest_is no. longest byte after others rest_is (cc)) tail in
    cc

-- what stands from a number on
abbrev pub number_line : List Operand → List ℕ → List ℕ
number_line operands numbers = decimal (get_or numbers 0 0) ++ spell operands (drop 1 numbers)

begins-small : (shape : Shape) (operand : Operand) (number : ℕ) → InRange shape → BeginsOne shape operand number → number ≤ 1000000
begins-small shape operand number range (inl allowed) = allowed-small shape operand number range allowed
begins-small shape operand number range (inr allowed) = omega (arith, allowed-small shape operand (number * 10) range allowed)

shown-digits : (shape : Shape) (operand : Operand) (value : Option ℕ) → InRange shape → IfSome value (BeginsOne shape operand) → AllDigits 10 (shown value)
shown-digits shape operand None range begins = tt
shown-digits shape operand (Some number) range begins =
    (decimal_is_IsNumeral number (omega (arith, begins-small shape operand number range begins))).0.1

-- no number that is allowed has the digits of a run that is none
differs : (shape : Shape) (operand : Operand) (value : Option ℕ) (number : ℕ) → InRange shape → IfSome value (BeginsOne shape operand)
    → IfSome value (λ n. Allows shape operand n → ⊥) → Allows shape operand number → decimal number ≢ shown value
differs shape operand None number range begins none allowed is =
    let some = decimal_nonempty number (omega (arith, allowed-small shape operand number range allowed)) in
    omega (arith, ap (length {A = ℕ}) is)
differs shape operand (Some n) number range begins none allowed is =
    let same : number ≡ n = decimal_injective number n (omega (arith, allowed-small shape operand number range allowed))
    (omega (arith, begins-small shape operand n range begins)) is in
    none (subst (Allows shape operand) same allowed)

-- some number that is allowed begins with the run
begun : (shape : Shape) (operand : Operand) (value : Option ℕ) → InRange shape → IfSome value (BeginsOne shape operand)
    → (number : ℕ) × (rest : List ℕ) × Allows shape operand number × (decimal number ≡ shown value ++ rest)
begun shape operand None range begins = (0, decimal 0, zero_allowed shape operand range, refl)
begun shape operand (Some n) range (inl allowed) = (n, [], allowed, sym (append-nil (decimal n)))
begun shape operand (Some zero) range (inr allowed) = (0, [], allowed, sym (append-nil (decimal 0)))
begun shape operand (Some (suc n)) range (inr allowed) =
    let small = allowed-small shape operand (suc n * 10) range allowed in
    let plus : suc n * 10 + 0 ≡ suc n * 10 = omega arith in
    (suc n * 10, 48 ∷ [], allowed, ap decimal (sym plus) ∙ decimal-more (suc n) 0 (omega arith) (omega arith) (omega arith))

module _ (shape : Shape) (operand : Operand) (text : List ℕ) (value : Option ℕ) (count : ℕ) (range : InRange shape)
    (run : IsRun shape operand text value count) where
  -- the text is the digits of the run and what is left
  is_text : text ≡ shown value ++ drop count text
  is_text = sym (take-append-drop count text) ∙ ap (λ (ds : List ℕ). ds ++ drop count text) run.front

  long : length (shown value) ≡ count
  long = let taken = ap (length {A = ℕ}) run.front in omega (arith, run.within, length-take count text)

  all : AllDigits 10 (shown value)
  all = shown-digits shape operand value range run.begins

  module _ (operands : List Operand) where
    -- another number shares no more than the run
    other_number : (numbers : List ℕ) → Fits shape (operand ∷ operands) numbers → decimal (get_or numbers 0 0) ≢ shown value
        → shared text (number_line operands numbers) ≤ count
    other_number numbers fits other =
        let number = get_or numbers 0 0 in
        let less = run-most (shown value) (drop count text) (decimal number) (spell operands (drop 1 numbers)) all (spell-ends operands (drop 1 numbers))
        (λ byte after others. run.longest number byte after others fits.0) other in
        omega (arith, ap (λ (t : List ℕ). shared t (number_line operands numbers)) is_text, long)

    -- the number of a line that the text is has the digits of the run
    number_same : (numbers : List ℕ) → Fits shape (operand ∷ operands) numbers → text ≡ number_line operands numbers
        → decimal (get_or numbers 0 0) ≡ shown value
    number_same numbers fits is =
        let number = get_or numbers 0 0 in
        run-same (shown value) (drop count text) (decimal number) (spell operands (drop 1 numbers)) all (spell-ends operands (drop 1 numbers))
        (λ byte after others. run.longest number byte after others fits.0) (sym is_text ∙ is)

    -- a line whose number begins with the run shares it
    enough : (number : ℕ) (rest : List ℕ) → decimal number ≡ shown value ++ rest → count ≤ shared text (number_line operands (number ∷ []))
    enough number rest is =
        let line : number_line operands (number ∷ []) ≡ shown value ++ (rest ++ spell operands [])
        = ap (λ (ds : List ℕ). ds ++ spell operands []) is ∙ append_assoc (shown value) rest (spell operands []) in
        let both : shared text (number_line operands (number ∷ [])) ≡ length (shown value) + shared (drop count text) (rest ++ spell operands [])
        = ap (shared text) line ∙ behind_word text (shown value) (drop count text) (rest ++ spell operands []) is_text in
        omega (arith, long)

    -- the run is no number that is allowed
    pub run_stops : IfSome value (λ number. Allows shape operand number → ⊥) → Longest (Fits shape (operand ∷ operands)) (number_line operands) text count
    run_stops none =
        let one = begun shape operand value range run.begins in
        let fits : Fits shape (operand ∷ operands) (one.0 ∷ []) = (one.2, zeros_fit shape operands range) in
        let most : (numbers : List ℕ) → Fits shape (operand ∷ operands) numbers → shared text (number_line operands numbers) ≤ count
        = λ numbers numbers_fit. other_number numbers numbers_fit (differs shape operand value (get_or numbers 0 0) range run.begins none numbers_fit.0) in
        record {
          none = λ numbers numbers_fit is. differs shape operand value (get_or numbers 0 0) range run.begins none numbers_fit.0 (number_same numbers numbers_fit is);
          most = most;
          some = (one.0 ∷ [], fits, omega (arith, most (one.0 ∷ []) fits, enough one.0 one.1 one.3));
        }

    -- the run is a number that is allowed: what stands behind it decides
    pub run_goes : (number at : ℕ) → value ≡ Some number → Allows shape operand number → Stops shape operands (drop count text) at
        → Longest (Fits shape (operand ∷ operands)) (number_line operands) text (count + at)
    run_goes number at some allowed stops =
        let digits : shown value ≡ decimal number = ap shown some in
        let behind : (numbers : List ℕ) → decimal (get_or numbers 0 0) ≡ shown value
        → shared text (number_line operands numbers) ≡ count + shared (drop count text) (spell operands (drop 1 numbers))
        = λ numbers same. ap (λ (ds : List ℕ). shared text (ds ++ spell operands (drop 1 numbers))) same
        ∙ behind_word text (shown value) (drop count text) (spell operands (drop 1 numbers)) is_text
        ∙ ap (λ (n : ℕ). n + shared (drop count text) (spell operands (drop 1 numbers))) long in
        record {
          none = λ numbers fits is. stops.none (drop 1 numbers) fits.1
              (append_cancel_left (shown value) (drop count text) (spell operands (drop 1 numbers))
              (sym is_text ∙ is ∙ ap (λ (ds : List ℕ). ds ++ spell operands (drop 1 numbers)) (number_same numbers fits is)));
          most = λ numbers fits. elim (same_or_other (get_or numbers 0 0) number) [
            | inl same ↦ omega (arith, behind numbers (ap decimal same ∙ sym digits), stops.most (drop 1 numbers) fits.1)
            | inr other ↦ omega (
              arith,
              other_number numbers fits (λ same. other (decimal_injective (get_or numbers 0 0) number
                  (omega (arith, allowed-small shape operand (get_or numbers 0 0) range fits.0)) (omega (arith, allowed-small shape operand number range allowed)) (same ∙ digits))),
            )
          ];
          some = (
            number ∷ stops.some.0,
            (allowed, stops.some.1),
            behind (number ∷ stops.some.0) (sym digits) ∙ ap (λ (n : ℕ). count + n) stops.some.2,
          );
        }

-- the text before a number is not there as a whole
pub before_stops : (shape : Shape) (operand : Operand) (text : List ℕ) → InRange shape → shared text (before_number operand) < length (before_number operand)
    → (operands : List Operand) → Stops shape (operand ∷ operands) text (shared text (before_number operand))
before_stops shape operand text range less operands =
    word_stops (Fits shape (operand ∷ operands)) (number_line operands) text (before_number operand) less [] (zeros_fit shape (operand ∷ operands) range)

-- it is there, and no number that is allowed
pub number_stops : (shape : Shape) (operand : Operand) (text rest : List ℕ) (value : Option ℕ) (before count : ℕ) → InRange shape
    → before ≡ length (before_number operand) → text ≡ before_number operand ++ rest → IsRun shape operand rest value count
    → IfSome value (λ number. Allows shape operand number → ⊥)
    → (operands : List Operand) → Stops shape (operand ∷ operands) text (before + count)
number_stops shape operand text rest value before count range long is run none operands =
    subst (Stops shape (operand ∷ operands) text) (ap (λ (n : ℕ). n + count) (sym long))
    (word_goes (Fits shape (operand ∷ operands)) (number_line operands) text (before_number operand) rest count is
    (run_stops shape operand rest value count range run operands none))

-- it is there, and a number that is allowed
pub number_goes : (shape : Shape) (operand : Operand) (text rest : List ℕ) (value : Option ℕ) (before count number : ℕ) → InRange shape
    → before ≡ length (before_number operand) → text ≡ before_number operand ++ rest → IsRun shape operand rest value count
    → value ≡ Some number → Allows shape operand number → Goes shape operand number (before + count) text
number_goes shape operand text rest value before count number range long is run some allowed =
    let behind : drop (before + count) text ≡ drop count rest
    = ap (λ (n : ℕ). drop (n + count) text) long ∙ ap (drop (length (before_number operand) + count)) is ∙ drop-append-add (before_number operand) rest count in
    let text_length : length text ≡ before + length rest = ap (length {A = ℕ}) is ∙ length-append (before_number operand) rest ∙ ap (λ (n : ℕ). n + length rest) (sym long) in
    let digits : shown value ≡ decimal number = ap shown some in
    let all : rest ≡ decimal number ++ drop count rest
    = sym (take-append-drop count rest) ∙ ap (λ (ds : List ℕ). ds ++ drop count rest) (run.front ∙ digits) in
    record {
      within = omega (arith, run.within);
      reads = λ operands numbers reads. record {
        fits = (allowed, reads.fits);
        text_is = is ∙ ap (λ (t : List ℕ). before_number operand ++ t) (all ∙ ap (λ (t : List ℕ). decimal number ++ t) (sym behind ∙ reads.text_is));
      };
      stops = λ operands at stops.
          let deeper = run_goes shape operand rest value count range run operands number at some allowed (subst (λ (t : List ℕ). Stops shape operands t at) behind stops) in
          let whole = word_goes (Fits shape (operand ∷ operands)) (number_line operands) text (before_number operand) rest (count + at) is deeper in
          let sums : length (before_number operand) + (count + at) ≡ before + count + at = omega arith in
          subst (Stops shape (operand ∷ operands) text) sums whole;
    }
