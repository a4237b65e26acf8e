-- What the journals of a node hold, by the state of the node.
use Rattle.std.specs.Prelude.{◌≡◌, ℕ, ◌<◌, ◌≤◌, length, List, [], IfSome}
use Rattle.log_base.specs.ClusterShape.{Shape}
use Rattle.log_base.specs.Wide.{IsBytes}
use Rattle.node_model.specs.Durable.{payload_in_flight, payloads_of}
use Rattle.node_model.specs.NodeState.{NodeState}
use Rattle.segment_journal.specs.Journalled.{Journalled}
use Rattle.shard_replica.specs.Journals.{journal_at}
use Rattle.core_step.specs.declared.part.Part.{Part}
use Rattle.core_step.specs.declared.part.Part.TheVariants.{Storage as Stores, Gatherer as Gathers, Orderer as Orders}
use Rattle.core_step.specs.Standing.{IsSeated}

-- Journals, in order of segment, hold the durable lists of a node, and what is in flight to them is that of the node, if it is
-- bytes.
pub record HoldsState (journals : List Journalled) (node : NodeState) : Type 0 where
  pub payloads : (k : ℕ) → k < length journals → (journal_at journals k).payloads ≡ payloads_of node k
  pub flights : (k : ℕ) → k < length journals → IfSome (journal_at journals k).flight IsBytes → (journal_at journals k).flight ≡ payload_in_flight node k

-- a list of this capacity has room for the journal of an orderer
abbrev pub HasPlaceFor : {J P : Type 0} → Part J P → ℕ → Type 0
HasPlaceFor (Stores node) capacity = Unit {0}
HasPlaceFor (Gathers node) capacity = Unit {0}
HasPlaceFor (Orders node) capacity = 1 ≤ capacity

-- What a node keeps true: its part is that of its number in its cluster, and a spare list has room for the journal of an orderer.
pub record IsNode {J P : Type 0} (config : Shape) (number : ℕ) (part : Part J P) (spare : List J) (capacity : ℕ) : Type 0 where
  pub seat : IsSeated config number part
  pub none : spare ≡ []
  pub room : HasPlaceFor part capacity
