-- What a cluster tells of the disks of its nodes.
use Rattle.std.specs.Prelude.{◌≡◌, ℕ, Bool, List, Option, map, slice_get, Some}
use Rattle.core_step.specs.Standing.{Standing}
use Rattle.counted_node.specs.Causes.{HaveCauses, StartsAreClean, journals_at, node_media}
use Rattle.counted_node.specs.Counted.{AreCounted, Counted, CountedState, counted_node, not_counted}
use Rattle.history_frame.specs.declared.events.Event.{Event}
use Rattle.history_frame.specs.declared.events.Happened.{Happened}
use Rattle.log_base.specs.ClusterShape.{Shape}
use Rattle.log_base.specs.Machines.{Event as NodeEvent}
use Rattle.node_model.specs.Machine.{ClusterNode, node_meanings}
use Rattle.segment_journal.specs.Journalled.{Journalled, Turns}
use Rattle.shard_replica.specs.Lists.{Medium}
use Rattle.tied_cells.specs.Opening.{AreLeft, made_by}
use Rattle.cluster.specs.History.{history_from}
use Rattle.cluster.specs.Opening.{opening}

module _ {J P : Type 0} (state : J → Journalled) (faults : J → ℕ) (keeps_synced : J → Bool) (turns : J → Option Turns) where
  -- a node of which nothing is counted yet, and its state
  abbrev pub fresh_node : Standing J P → Counted J P
  fresh_node node = not_counted (node_media state faults keeps_synced turns node) node

  abbrev pub fresh_state : Standing J P → CountedState
  fresh_state node = counted_node state (fresh_node node)

  -- the counts of a node's journals rose as often as its events showed that they failed
  abbrev pub HasCounted : Counted J P → Type 0
  HasCounted counted = AreCounted (journals_at counted.node.config counted.node.number) counted.first (node_media state faults keeps_synced turns counted.node) counted.halted counted.stayed

-- of each node nothing is counted yet
abbrev pub NoneCounted : {J P : Type 0} → List (Counted J P) → Type 0
NoneCounted {J} {P} nodes = (n : ℕ) (node : Counted J P) → slice_get nodes n ≡ Some node → (node.halted ≡ 0) × (node.stayed ≡ 0)

-- the events of all nodes, the first at place 0
abbrev pub history_of : List (NodeEvent Happened) → List Event
history_of log = history_from 0 (made_by 0 log)

-- The nodes stand after those events of the opening that were made, and these have causes in what is told of their disks before and now.
pub record AreLeftWithCauses {A : Type 0} (config : Shape) (state : A → ClusterNode) (told : A → List Medium) (before now : List A) : Type 0 where
  pub left : AreLeft state node_meanings (map state before) (opening config) now
  pub causes : HaveCauses config (history_of left.log) (map told before) (map told now)
  pub clean : StartsAreClean config (history_of left.log) (map told before) (map told now)
