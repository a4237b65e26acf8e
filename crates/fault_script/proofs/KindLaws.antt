-- A fault is its kind and its numbers.
use Rattle.std.proofs.Common.{◌≡◌, ℕ, List, [], ◌∷◌, ◌++◌, drop, get_or, refl, sym, ◌∙◌, ap, append-nil, append_assoc, codes, arith}
use Rattle.std.specs.Fmt.{decimal}
use Rattle.log_base.specs.ClusterShape.{Shape}
use Rattle.fault_script.specs.declared.fault.Fault.{Fault}
use Rattle.fault_script.specs.declared.fault.Fault.TheVariants as fault
use Rattle.fault_script.specs.declared.kind.Kind.{Kind}
use Rattle.fault_script.specs.declared.kind.Kind.TheVariants.{Hold, Settle, Tick, Deliver, Drop, Again, Stop, StopAfter, Lose, Restart, Lead, Resubmit}
use Rattle.fault_script.specs.Lines.{IsFault, fault_line}
use Rattle.fault_script.specs.Grammar.{Fits, fault_of, line_of, operands_of}

pub second : (numbers : List ℕ) → get_or (drop 1 numbers) 0 0 ≡ get_or numbers 1 0
second [] = refl
second (n ∷ numbers) = refl

pub third : (numbers : List ℕ) → get_or (drop 1 (drop 1 numbers)) 0 0 ≡ get_or numbers 2 0
third [] = refl
third (n ∷ []) = refl
third (n ∷ m ∷ numbers) = refl

-- the kind of a fault
abbrev pub kind_of : Fault → Kind
kind_of fault.Hold = Hold
kind_of fault.Settle = Settle
kind_of (fault.Tick node) = Tick
kind_of (fault.Deliver letter) = Deliver
kind_of (fault.Drop letter) = Drop
kind_of (fault.Again letter) = Again
kind_of (fault.Stop node) = Stop
kind_of (fault.StopAfter node after keep) = StopAfter
kind_of (fault.Lose node after) = Lose
kind_of (fault.Restart node) = Restart
kind_of (fault.Lead orderer) = Lead
kind_of fault.Resubmit = Resubmit

-- its numbers
abbrev pub numbers_of : Fault → List ℕ
numbers_of fault.Hold = []
numbers_of fault.Settle = []
numbers_of (fault.Tick node) = node.0 ∷ []
numbers_of (fault.Deliver letter) = letter ∷ []
numbers_of (fault.Drop letter) = letter ∷ []
numbers_of (fault.Again letter) = letter ∷ []
numbers_of (fault.Stop node) = node.0 ∷ []
numbers_of (fault.StopAfter node after keep) = node.0 ∷ after ∷ keep ∷ []
numbers_of (fault.Lose node after) = node.0 ∷ after ∷ []
numbers_of (fault.Restart node) = node.0 ∷ []
numbers_of (fault.Lead orderer) = orderer ∷ []
numbers_of fault.Resubmit = []

pub fault_of-parts : (f : Fault) → fault_of (kind_of f) (numbers_of f) ≡ f
fault_of-parts fault.Hold = refl
fault_of-parts fault.Settle = refl
fault_of-parts (fault.Tick node) = refl
fault_of-parts (fault.Deliver letter) = refl
fault_of-parts (fault.Drop letter) = refl
fault_of-parts (fault.Again letter) = refl
fault_of-parts (fault.Stop node) = refl
fault_of-parts (fault.StopAfter node after keep) = refl
fault_of-parts (fault.Lose node after) = refl
fault_of-parts (fault.Restart node) = refl
fault_of-parts (fault.Lead orderer) = refl
fault_of-parts fault.Resubmit = refl

-- the numbers of a fault that the cluster has fit its kind
pub parts-fit : (shape : Shape) (f : Fault) → IsFault shape f → Fits shape (operands_of (kind_of f)) (numbers_of f)
parts-fit shape fault.Hold is = tt
parts-fit shape fault.Settle is = tt
parts-fit shape (fault.Tick node) is = (is, tt)
parts-fit shape (fault.Deliver letter) is = (is, tt)
parts-fit shape (fault.Drop letter) is = (is, tt)
parts-fit shape (fault.Again letter) is = (is, tt)
parts-fit shape (fault.Stop node) is = (is, tt)
parts-fit shape (fault.StopAfter node after keep) is = (is.0, (is.1, (is.2, tt)))
parts-fit shape (fault.Lose node after) is = (is.0, (is.1, tt))
parts-fit shape (fault.Restart node) is = (is, tt)
parts-fit shape (fault.Lead orderer) is = (is, tt)
parts-fit shape fault.Resubmit is = tt

-- and numbers that fit a kind make a fault that the cluster has
pub fault-is : (shape : Shape) (kind : Kind) (numbers : List ℕ) → Fits shape (operands_of kind) numbers → IsFault shape (fault_of kind numbers)
fault-is shape Hold numbers fits = tt
fault-is shape Settle numbers fits = tt
fault-is shape Tick numbers fits = fits.0
fault-is shape Deliver numbers fits = fits.0
fault-is shape Drop numbers fits = fits.0
fault-is shape Again numbers fits = fits.0
fault-is shape Stop numbers fits = fits.0
fault-is shape StopAfter numbers fits = (fits.0, omega (arith, second numbers), omega (arith, third numbers))
fault-is shape Lose numbers fits = (fits.0, omega (arith, second numbers))
fault-is shape Restart numbers fits = fits.0
fault-is shape Lead numbers fits = fits.0
fault-is shape Resubmit numbers fits = tt

one_number : (front : List ℕ) (number : ℕ) → front ++ decimal number ≡ front ++ (decimal number ++ [])
one_number front number = ap (λ (ds : List ℕ). front ++ ds) (sym (append-nil (decimal number)))

two_numbers : (front a between b : List ℕ) → ((front ++ a) ++ between) ++ b ≡ front ++ (a ++ (between ++ (b ++ [])))
two_numbers front a between b = simp (append_assoc, append-nil)

three_numbers : (front a between b next c : List ℕ)
    → ((((front ++ a) ++ between) ++ b) ++ next) ++ c ≡ front ++ (a ++ (between ++ (b ++ (next ++ (c ++ [])))))
three_numbers front a between b next c = simp (append_assoc, append-nil)

-- the text of a fault is that of its kind and numbers
pub line-is : (kind : Kind) (numbers : List ℕ) → fault_line (fault_of kind numbers) ≡ line_of kind numbers
line-is Hold numbers = refl
line-is Settle numbers = refl
line-is Tick numbers = one_number (codes "tick ") (get_or numbers 0 0)
line-is Deliver numbers = one_number (codes "deliver ") (get_or numbers 0 0)
line-is Drop numbers = one_number (codes "drop ") (get_or numbers 0 0)
line-is Again numbers = one_number (codes "again ") (get_or numbers 0 0)
line-is Stop numbers = one_number (codes "stop ") (get_or numbers 0 0)
line-is StopAfter numbers =
    three_numbers (codes "stop ") (decimal (get_or numbers 0 0)) (codes " after ") (decimal (get_or numbers 1 0)) (codes " keep ") (decimal (get_or numbers 2 0))
    ∙ ap (λ (n : ℕ). codes "stop " ++ (decimal (get_or numbers 0 0) ++ (codes " after " ++ (decimal n ++ (codes " keep " ++ (decimal (get_or numbers 2 0) ++ []))))))
    (sym (second numbers))
    ∙ ap (λ (n : ℕ). codes "stop " ++ (decimal (get_or numbers 0 0) ++ (codes " after " ++ (decimal (get_or (drop 1 numbers) 0 0) ++ (codes " keep " ++ (decimal n ++ []))))))
    (sym (third numbers))
line-is Lose numbers =
    two_numbers (codes "lose ") (decimal (get_or numbers 0 0)) (codes " after ") (decimal (get_or numbers 1 0))
    ∙ ap (λ (n : ℕ). codes "lose " ++ (decimal (get_or numbers 0 0) ++ (codes " after " ++ (decimal n ++ [])))) (sym (second numbers))
line-is Restart numbers = one_number (codes "restart ") (get_or numbers 0 0)
line-is Lead numbers = one_number (codes "lead ") (get_or numbers 0 0)
line-is Resubmit numbers = refl

-- so it is of its own kind and numbers
pub line-parts : (f : Fault) → fault_line f ≡ line_of (kind_of f) (numbers_of f)
line-parts f = ap fault_line (sym (fault_of-parts f)) ∙ line-is (kind_of f) (numbers_of f)
