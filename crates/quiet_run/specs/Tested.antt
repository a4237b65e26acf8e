-- What the tests begin with: nodes whose disks kept nothing.
use Rattle.std.specs.Prelude.{◌≡◌, ℕ, ◌<◌, List, [], length, Some, slice_get}
use Rattle.std.specs.List.{AllByRecursion}
use Rattle.log_base.specs.ClusterShape.{Shape}
use Rattle.node_model.specs.Machine.{ClusterNode}
use Rattle.node_model.specs.NodeState.{node_at_first}
use Rattle.node_model.specs.Sound.{payloads_on}
use Rattle.segment_journal.specs.Journalled.{Journalled, loaded}

-- journals without payloads
abbrev pub AreEmpty : {X : Type 0} → (X → Journalled) → List X → Type 0
AreEmpty {X} state journals = AllByRecursion (λ (j : X). state j ≡ loaded []) journals

-- a node that is down, and whose disks kept nothing
abbrev pub first_node : Shape → ℕ → ClusterNode
first_node config number = record { config = config; number = number; state = node_at_first config (payloads_on []) number }

-- the first so many nodes of a cluster are
pub record AreFirst (config : Shape) (count : ℕ) (nodes : List ClusterNode) : Type 0 where
  pub all : length nodes ≡ count
  pub each : (k : ℕ) → k < count → slice_get nodes k ≡ Some (first_node config k)
