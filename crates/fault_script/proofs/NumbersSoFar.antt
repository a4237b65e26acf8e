-- The numbers of a line that are read so far.
use Rattle.std.proofs.Common.{◌≡◌, ℕ, suc, ◌+◌, ◌-◌, ◌<◌, ◌≤◌, List, [], ◌∷◌, ◌++◌, length, take, drop, get_or, set, refl, sym, ◌∙◌, ap, subst, append_assoc, arith}
use Rattle.std.proofs.lemmas.List.{drop-drop, length-drop, length-set, take-append-drop, take_all, take_more_set}
use Rattle.std.proofs.Math.ListN.{drop_of_length-le}
use Rattle.std.proofs.Math.Seq.{drop-cons}
use Rattle.log_base.specs.ClusterShape.{Shape}
use Rattle.fault_script.specs.declared.operand.Operand.{Operand}
use Rattle.fault_script.specs.Grammar.{Reads}
use Rattle.fault_script.specs.Longest.{Goes, Stops}

-- whatever stands behind the numbers so far decides what the whole is
pub record SoFar (shape : Shape) (operands : List Operand) (text numbers : List ℕ) (index at : ℕ) : Type 0 where
  pub within : at ≤ length text
  pub full : length numbers ≡ 3
  pub reads : (more : List ℕ) → Reads shape (drop index operands) more (drop at text) → Reads shape operands (take index numbers ++ more) text
  pub stops : (further : ℕ) → Stops shape (drop index operands) (drop at text) further → Stops shape operands text (at + further)

-- what is left of a text
rest-is : (at : ℕ) (text : List ℕ) → take (length text - at) (drop at text) ≡ drop at text
rest-is at text = take_all (length text - at) (drop at text) (omega (arith, length-drop at text))

pub one_more : (shape : Shape) (operands : List Operand) (text numbers : List ℕ) (index at number count : ℕ) (default : Operand)
    → SoFar shape operands text numbers index at → index < length operands → index < 3
    → Goes shape (get_or operands index default) number count (take (length text - at) (drop at text)) → SoFar shape operands text (set numbers index number) (index + 1) (at + count)
one_more shape operands text numbers index at number count default so_far less three rest_goes =
    let operand = get_or operands index default in
    let same : suc index ≡ index + 1 = omega arith in
    let next : drop index operands ≡ operand ∷ drop (index + 1) operands
    = drop-cons operands index default less ∙ ap (λ (n : ℕ). operand ∷ drop n operands) same in
    let goes : Goes shape operand number count (drop at text) = subst (Goes shape operand number count) (rest-is at text) rest_goes in
    let behind : drop count (drop at text) ≡ drop (at + count) text = drop-drop count at text in
    let written : take (index + 1) (set numbers index number) ≡ take index numbers ++ number ∷ [] = take_more_set numbers index number (omega (arith, so_far.full)) in
    record {
      within = omega (arith, so_far.within, goes.within, length-drop at text);
      full = length-set numbers index number ∙ so_far.full;
      reads = λ more reads.
          let one = goes.reads (drop (index + 1) operands) more (subst (Reads shape (drop (index + 1) operands) more) (sym behind) reads) in
          let whole = so_far.reads (number ∷ more) (subst (λ (os : List Operand). Reads shape os (number ∷ more) (drop at text)) (sym next) one) in
          let listed : take index numbers ++ number ∷ more ≡ take (index + 1) (set numbers index number) ++ more
          = sym (append_assoc (take index numbers) (number ∷ []) more) ∙ ap (λ (ns : List ℕ). ns ++ more) (sym written) in
          subst (λ (ns : List ℕ). Reads shape operands ns text) listed whole;
      stops = λ further stops.
          let one = goes.stops (drop (index + 1) operands) further (subst (λ (t : List ℕ). Stops shape (drop (index + 1) operands) t further) (sym behind) stops) in
          let whole = so_far.stops (count + further) (subst (λ (os : List Operand). Stops shape os (drop at text) (count + further)) (sym next) one) in
          let sums : at + (count + further) ≡ at + count + further = omega arith in
          subst (Stops shape operands text) sums whole;
    }

-- the next number is not there
pub stops_here : (shape : Shape) (operands : List Operand) (text numbers : List ℕ) (index at further : ℕ) (default : Operand)
    → SoFar shape operands text numbers index at → index < length operands
    → ((behind : List Operand) → Stops shape (get_or operands index default ∷ behind) (take (length text - at) (drop at text)) further)
    → Stops shape operands text (at + further)
stops_here shape operands text numbers index at further default so_far less stops =
    let next : drop index operands ≡ get_or operands index default ∷ drop (suc index) operands = drop-cons operands index default less in
    so_far.stops further
    (subst (λ (os : List Operand). Stops shape os (drop at text) further) (sym next)
    (subst (λ (t : List ℕ). Stops shape (get_or operands index default ∷ drop (suc index) operands) t further) (rest-is at text) (stops (drop (suc index) operands))))

nothing_stops : (shape : Shape) (text : List ℕ) → 0 < length text → Stops shape [] text 0
nothing_stops shape [] some = absurd (omega arith)
nothing_stops shape (byte ∷ text) some = record {
  none = λ numbers fits. λ is. absurd (cc is);
  most = λ numbers fits. omega arith;
  some = ([], tt, refl);
}

-- all numbers are there, and more text
pub left_over : (shape : Shape) (operands : List Operand) (text numbers : List ℕ) (index at : ℕ) → SoFar shape operands text numbers index at
    → length operands ≤ index → at < length text → Stops shape operands text at
left_over shape operands text numbers index at so_far all less =
    let none : drop index operands ≡ [] = drop_of_length-le operands all in
    let some : 0 < length (drop at text) = omega (arith, length-drop at text) in
    let sums : at + 0 ≡ at = omega arith in
    subst (Stops shape operands text) sums
    (so_far.stops 0 (subst (λ (os : List Operand). Stops shape os (drop at text) 0) (sym none) (nothing_stops shape (drop at text) some)))

-- all numbers are there, and nothing else
pub all_read : (shape : Shape) (operands : List Operand) (text numbers : List ℕ) (index at : ℕ) → SoFar shape operands text numbers index at
    → length operands ≤ index → length text ≤ at → Reads shape operands numbers text
all_read shape operands text numbers index at so_far all ended =
    let none : drop index operands ≡ [] = drop_of_length-le operands all in
    let end : drop at text ≡ [] = drop_of_length-le text ended in
    let nothing : Reads shape [] (drop index numbers) [] = record { fits = tt; text_is = refl } in
    let whole = so_far.reads (drop index numbers)
    (subst (λ (os : List Operand). Reads shape os (drop index numbers) (drop at text)) (sym none)
    (subst (Reads shape [] (drop index numbers)) (sym end) nothing)) in
    subst (λ (ns : List ℕ). Reads shape operands ns text) (take-append-drop index numbers) whole
