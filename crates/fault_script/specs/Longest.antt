-- The longest front of a text that begins some line of a kind.
use Rattle.std.specs.Prelude.{◌≡◌, ◌≢◌, ℕ, ◌+◌, ◌≤◌, List, ◌∷◌, length, drop, nat_eq}
use Rattle.std.specs.List.{common_prefix_len}
use Rattle.log_base.specs.ClusterShape.{Shape}
use Rattle.fault_script.specs.declared.kind.Kind.{Kind}
use Rattle.fault_script.specs.declared.operand.Operand.{Operand}
use Rattle.fault_script.specs.Grammar.{Fits, Reads, line_of, operands_of, spell}

-- how many bytes two texts share at their fronts
abbrev pub shared : List ℕ → List ℕ → ℕ
shared text other = common_prefix_len nat_eq text other

-- the text is none of the lines that fit, and shares its front of this length, but none longer, with one
pub record Longest {A : Type 0} (fits : A → Type 0) (line : A → List ℕ) (text : List ℕ) (at : ℕ) : Type 0 where
  pub none : (a : A) → fits a → text ≢ line a
  pub most : (a : A) → fits a → shared text (line a) ≤ at
  pub some : (a : A) × fits a × (shared text (line a) ≡ at)

-- so for the numbers behind a word
abbrev pub Stops : Shape → List Operand → List ℕ → ℕ → Type 0
Stops shape operands text at = Longest (Fits shape operands) (spell operands) text at

-- and for the lines of a kind
abbrev pub StopsKind : Shape → Kind → List ℕ → ℕ → Type 0
StopsKind shape kind text at = Longest (Fits shape (operands_of kind)) (line_of kind) text at

-- the text begins with a number of the operand, and whatever stands behind it goes on from there
pub record Goes (shape : Shape) (operand : Operand) (number count : ℕ) (text : List ℕ) : Type 0 where
  pub within : count ≤ length text
  pub reads : (operands : List Operand) (numbers : List ℕ) → Reads shape operands numbers (drop count text)
      → Reads shape (operand ∷ operands) (number ∷ numbers) text
  pub stops : (operands : List Operand) (at : ℕ) → Stops shape operands (drop count text) at
      → Stops shape (operand ∷ operands) text (count + at)
