-- The lines by their parts: a word, and behind it numbers, each with the text before it.
use Rattle.std.specs.Prelude.{◌≡◌, ◌≢◌, ℕ, ◌*◌, ◌^◌, ◌<◌, ◌≤◌, List, [], ◌∷◌, ◌++◌, length, take, drop, slice_index, codes, ◌⊎◌, Option, Some, None, IfSome}
use Rattle.std.specs.Fmt.{decimal}
use Rattle.log_base.specs.ClusterShape.{Shape}
use Rattle.node_table.specs.Numbering.{nodes_of}
use Rattle.fault_script.specs.Lines.{HasDisks, most_counted}
use Rattle.fault_script.specs.declared.fault.Fault.{Fault}
use Rattle.fault_script.specs.declared.fault.Fault.TheVariants as fault
use Rattle.fault_script.specs.declared.kind.Kind.{Kind}
use Rattle.fault_script.specs.declared.kind.Kind.TheVariants.{Hold, Settle, Tick, Deliver, Drop, Again, Stop, StopAfter, Lose, Restart, Lead, Resubmit}
use Rattle.fault_script.specs.declared.operand.Operand.{Operand}
use Rattle.fault_script.specs.declared.operand.Operand.TheVariants.{Node, NodeWithDisks, Orderer, Letter, After, Keep}

-- the first word of a kind of line
abbrev pub word_of : Kind → List ℕ
word_of Hold = codes "hold"
word_of Settle = codes "settle"
word_of Tick = codes "tick"
word_of Deliver = codes "deliver"
word_of Drop = codes "drop"
word_of Again = codes "again"
word_of Stop = codes "stop"
word_of StopAfter = codes "stop"
word_of Lose = codes "lose"
word_of Restart = codes "restart"
word_of Lead = codes "lead"
word_of Resubmit = codes "resubmit"

-- the numbers behind the word
abbrev pub operands_of : Kind → List Operand
operands_of Hold = []
operands_of Settle = []
operands_of Tick = Node ∷ []
operands_of Deliver = Letter ∷ []
operands_of Drop = Letter ∷ []
operands_of Again = Letter ∷ []
operands_of Stop = Node ∷ []
operands_of StopAfter = NodeWithDisks ∷ After ∷ Keep ∷ []
operands_of Lose = NodeWithDisks ∷ After ∷ []
operands_of Restart = Node ∷ []
operands_of Lead = Orderer ∷ []
operands_of Resubmit = []

-- the text before a number
abbrev pub before_number : Operand → List ℕ
before_number Node = codes " "
before_number NodeWithDisks = codes " "
before_number Orderer = codes " "
before_number Letter = codes " "
before_number After = codes " after "
before_number Keep = codes " keep "

-- the numbers that a place allows
abbrev pub Allows : Shape → Operand → ℕ → Type 0
Allows shape Node number = number < nodes_of shape
Allows shape NodeWithDisks number = HasDisks shape number
Allows shape Orderer number = number < shape.orderers
Allows shape Letter number = number ≤ most_counted
Allows shape After number = number ≤ most_counted
Allows shape Keep number = number ≤ most_counted

-- a number that is allowed begins with the digits of this one
abbrev pub BeginsOne : Shape → Operand → ℕ → Type 0
BeginsOne shape operand number = Allows shape operand number ⊎ Allows shape operand (number * 10)

-- the digits of a number, if there is one
abbrev pub shown : Option ℕ → List ℕ
shown None = []
shown (Some number) = decimal number

-- the longest front of the text that begins a number of the operand
pub record IsRun (shape : Shape) (operand : Operand) (text : List ℕ) (value : Option ℕ) (count : ℕ) : Type 0 where
  pub within : count ≤ length text
  pub front : take count text ≡ shown value
  pub begins : IfSome value (BeginsOne shape operand)
  pub longest : (number byte : ℕ) (rest more : List ℕ) → Allows shape operand number → drop count text ≡ byte ∷ more
      → decimal number ≢ shown value ++ byte ∷ rest

-- what the numbers behind the word say, each after its text; numbers that are not asked for are left out
abbrev pub spell : List Operand → List ℕ → List ℕ
spell [] numbers = []
spell (operand ∷ operands) numbers = before_number operand ++ (decimal (slice_index numbers 0) ++ spell operands (drop 1 numbers))

-- each number is allowed in its place
abbrev pub Fits : Shape → List Operand → List ℕ → Type 0
Fits shape [] numbers = Unit {0}
Fits shape (operand ∷ operands) numbers = Allows shape operand (slice_index numbers 0) × Fits shape operands (drop 1 numbers)

-- the text is that of the numbers
pub record Reads (shape : Shape) (operands : List Operand) (numbers text : List ℕ) : Type 0 where
  pub fits : Fits shape operands numbers
  pub text_is : text ≡ spell operands numbers

-- the line of a kind with these numbers
abbrev pub line_of : Kind → List ℕ → List ℕ
line_of kind numbers = word_of kind ++ spell (operands_of kind) numbers

-- the fault of a kind with these numbers
abbrev pub fault_of : Kind → List ℕ → Fault
fault_of Hold numbers = fault.Hold
fault_of Settle numbers = fault.Settle
fault_of Tick numbers = fault.Tick (record { 0 = slice_index numbers 0 })
fault_of Deliver numbers = fault.Deliver (slice_index numbers 0)
fault_of Drop numbers = fault.Drop (slice_index numbers 0)
fault_of Again numbers = fault.Again (slice_index numbers 0)
fault_of Stop numbers = fault.Stop (record { 0 = slice_index numbers 0 })
fault_of StopAfter numbers = fault.StopAfter (record { 0 = slice_index numbers 0 }) (slice_index numbers 1) (slice_index numbers 2)
fault_of Lose numbers = fault.Lose (record { 0 = slice_index numbers 0 }) (slice_index numbers 1)
fault_of Restart numbers = fault.Restart (record { 0 = slice_index numbers 0 })
fault_of Lead numbers = fault.Lead (slice_index numbers 0)
fault_of Resubmit numbers = fault.Resubmit

-- the first number has the width that the fault keeps it in
abbrev pub FirstFits : Kind → ℕ → Type 0
FirstFits Hold number = Unit {0}
FirstFits Settle number = Unit {0}
FirstFits Tick number = number < 2 ^ 16
FirstFits Deliver number = Unit {0}
FirstFits Drop number = Unit {0}
FirstFits Again number = Unit {0}
FirstFits Stop number = number < 2 ^ 16
FirstFits StopAfter number = number < 2 ^ 16
FirstFits Lose number = number < 2 ^ 16
FirstFits Restart number = number < 2 ^ 16
FirstFits Lead number = number < 2 ^ 8
FirstFits Resubmit number = Unit {0}
