-- Reading a line of a kind: its word, and then its numbers.
use Rattle.std.proofs.Common.{◌≡◌, ◌+◌, ◌<◌, ◌++◌, List, ℕ, [], length, sym, ◌∙◌, ap, subst}
use Rattle.log_base.specs.ClusterShape.{InRange, Shape}
use Rattle.fault_script.specs.declared.fault.Fault.{Fault}
use Rattle.fault_script.specs.declared.kind.Kind.{Kind}
use Rattle.fault_script.specs.declared.operand.Operand.{Operand}
use Rattle.fault_script.specs.Lines.{IsFault, fault_line}
use Rattle.fault_script.specs.Grammar.{Fits, Reads, fault_of, operands_of, spell, word_of}
use Rattle.fault_script.specs.Longest.{Stops, StopsKind, shared}
use Rattle.fault_script.proofs.AllowedNumbers.{zeros_fit}
use Rattle.fault_script.proofs.KindLaws.{fault-is, line-is}
use Rattle.fault_script.proofs.WordSteps.{word_goes, word_stops}

-- the word is not there as a whole
pub word_missing : (shape : Shape) (kind : Kind) (text is_word : List ℕ) (count : ℕ) → InRange shape → is_word ≡ word_of kind
    → count ≡ shared text is_word → count < length is_word → StopsKind shape kind text count
word_missing shape kind text is_word count range same is less =
    let word : count ≡ shared text (word_of kind) = is ∙ ap (shared text) same in
    let short : shared text (word_of kind) < length (word_of kind)
    = subst (λ (n : ℕ). n < length (word_of kind)) word (subst (λ (w : List ℕ). count < length w) same less) in
    subst (StopsKind shape kind text) (sym word)
    (word_stops (Fits shape (operands_of kind)) (spell (operands_of kind)) text (word_of kind) short [] (zeros_fit shape (operands_of kind) range))

-- it is there, and behind it no numbers that fit
pub line_stops : (shape : Shape) (kind : Kind) (operands : List Operand) (text rest : List ℕ) (before at : ℕ) → operands ≡ operands_of kind
    → before ≡ length (word_of kind) → text ≡ word_of kind ++ rest → Stops shape operands rest at → StopsKind shape kind text (before + at)
line_stops shape kind operands text rest before at same long is stops =
    subst (StopsKind shape kind text) (ap (λ (n : ℕ). n + at) (sym long))
    (word_goes (Fits shape (operands_of kind)) (spell (operands_of kind)) text (word_of kind) rest at is
    (subst (λ (os : List Operand). Stops shape os rest at) same stops))

-- it is there, and behind it numbers that fit
pub line_read : (shape : Shape) (kind : Kind) (operands : List Operand) (text rest numbers : List ℕ) (fault : Fault) → operands ≡ operands_of kind
    → text ≡ word_of kind ++ rest → Reads shape operands numbers rest → fault ≡ fault_of kind numbers
    → IsFault shape fault × (text ≡ fault_line fault)
line_read shape kind operands text rest numbers fault same is reads fault_is =
    let read : Reads shape (operands_of kind) numbers rest = subst (λ (os : List Operand). Reads shape os numbers rest) same reads in (
      subst (IsFault shape) (sym fault_is) (fault-is shape kind numbers read.fits),
      is ∙ ap (λ (t : List ℕ). word_of kind ++ t) read.text_is ∙ sym (line-is kind numbers) ∙ ap fault_line (sym fault_is),
    )
