-- A decision that a leader comes to.
use Rattle.std.specs.Prelude.{ℕ, Option, Some, None}
use Rattle.message_frame.specs.Spelling.{IsMessage}
use Rattle.node_model.specs.Messages.{decide_message}
use Rattle.orderer_node.specs.Announcing.{IsSaid}
use Rattle.orderer_node.specs.declared.announcing.Decided.{Decided}

-- what it tells has a spelling
abbrev pub IsDecision : ℕ → Option Decided → Type 0
IsDecision slot None = Unit {0}
IsDecision slot (Some decided) = IsMessage (decide_message slot decided.value) × IsSaid decided.next
