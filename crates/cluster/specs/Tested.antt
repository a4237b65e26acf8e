-- What the tests begin with: nodes whose disks kept nothing.
use Rattle.std.specs.Prelude.{◌≡◌, ℕ, ◌<◌, List, [], length, Some, slice_get}
use Rattle.std.specs.List.{AllByRecursion}
use Rattle.log_base.specs.ClusterShape.{Shape}
use Rattle.node_model.specs.Machine.{ClusterNode}
use Rattle.node_model.specs.Sound.{payloads_on}
use Rattle.segment_journal.specs.Journalled.{Journalled, loaded}
use Rattle.cluster.specs.Clusters.{first_node}

-- one storage node, one gatherer, one orderer
abbrev pub trio : Shape
trio = record { replicas = 1; shards = 1; orderers = 1; gatherers = 1 }

-- journals without payloads
abbrev pub AreEmpty : {X : Type 0} → (X → Journalled) → List X → Type 0
AreEmpty {X} state journals = AllByRecursion (λ (j : X). state j ≡ loaded []) journals

-- the first so many nodes of a cluster, whose disks kept nothing
pub record AreFirstOf (config : Shape) (count : ℕ) (nodes : List ClusterNode) : Type 0 where
  pub all : length nodes ≡ count
  pub each : (k : ℕ) → k < count → slice_get nodes k ≡ Some (first_node config (payloads_on []) k)
