-- The text of each fault, and the faults that a cluster has.
use Rattle.std.specs.Prelude.{◌≡◌, ℕ, List, ◌++◌, ◌<◌, ◌≤◌, Bool, true, false, IsTrue, codes}
use Rattle.std.specs.Fmt.{decimal}
use Rattle.log_base.specs.ClusterShape.{Shape}
use Rattle.node_table.specs.Numbering.{nodes_of, role_at}
use Rattle.node_table.specs.declared.role.Role.{Role}
use Rattle.node_table.specs.declared.role.Role.TheVariants.{Storage, Gatherer, Orderer}
use Rattle.fault_script.specs.declared.fault.Fault.{Fault}
use Rattle.fault_script.specs.declared.fault.Fault.TheVariants.{Hold, Settle, Tick, Deliver, Drop, Again, Stop, StopAfter, Lose, Restart, Lead, Resubmit}

-- the text of a fault
abbrev pub fault_line : Fault → List ℕ
fault_line Hold = codes "hold"
fault_line Settle = codes "settle"
fault_line (Tick node) = codes "tick " ++ decimal node.0
fault_line (Deliver letter) = codes "deliver " ++ decimal letter
fault_line (Drop letter) = codes "drop " ++ decimal letter
fault_line (Again letter) = codes "again " ++ decimal letter
fault_line (Stop node) = codes "stop " ++ decimal node.0
fault_line (StopAfter node after keep) = codes "stop " ++ decimal node.0 ++ codes " after " ++ decimal after ++ codes " keep " ++ decimal keep
fault_line (Lose node after) = codes "lose " ++ decimal node.0 ++ codes " after " ++ decimal after
fault_line (Restart node) = codes "restart " ++ decimal node.0
fault_line (Lead orderer) = codes "lead " ++ decimal orderer
fault_line Resubmit = codes "resubmit"

-- whether a node of a role keeps disks
abbrev pub keeps_disks : Role → Bool
keeps_disks (Storage shard replica) = true
keeps_disks (Gatherer index) = false
keeps_disks (Orderer index) = true

-- the number is that of a node with disks
abbrev pub HasDisks : Shape → ℕ → Type 0
HasDisks shape node = (node < nodes_of shape) × IsTrue (keeps_disks (role_at shape node))

-- the greatest number of a letter, of a plan's writes and of its bytes
abbrev pub most_counted : ℕ
most_counted = 1000000

-- the faults that a cluster has
abbrev pub IsFault : Shape → Fault → Type 0
IsFault shape Hold = Unit {0}
IsFault shape Settle = Unit {0}
IsFault shape (Tick node) = node.0 < nodes_of shape
IsFault shape (Deliver letter) = letter ≤ most_counted
IsFault shape (Drop letter) = letter ≤ most_counted
IsFault shape (Again letter) = letter ≤ most_counted
IsFault shape (Stop node) = node.0 < nodes_of shape
IsFault shape (StopAfter node after keep) = HasDisks shape node.0 × (after ≤ most_counted) × (keep ≤ most_counted)
IsFault shape (Lose node after) = HasDisks shape node.0 × (after ≤ most_counted)
IsFault shape (Restart node) = node.0 < nodes_of shape
IsFault shape (Lead orderer) = orderer < shape.orderers
IsFault shape Resubmit = Unit {0}

-- some line begins with the text
abbrev pub Begins : Shape → List ℕ → Type 0
Begins shape text = (fault : Fault) × (rest : List ℕ) × IsFault shape fault × (fault_line fault ≡ text ++ rest)

-- the text is no line
abbrev pub NoLine : Shape → List ℕ → Type 0
NoLine shape text = (fault : Fault) → IsFault shape fault → ¬ (text ≡ fault_line fault)
