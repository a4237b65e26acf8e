-- Failures to come: what is told of the journals of some nodes once plans are handed to them.
use Rattle.std.specs.Prelude.{◌≡◌, ◌≢◌, ℕ, List, [], ◌∷◌, map, Some, slice_get}
use Rattle.disk_base.specs.declared.disk.Plan.{Plan}
use Rattle.node_model.specs.Durable.{payload_in_flight}
use Rattle.node_model.specs.Machine.{ClusterNode}
use Rattle.node_model.specs.NodeState.{NodeState}
use Rattle.schedule_model.specs.declared.duties.Planned.{Planned}
use Rattle.segment_journal.specs.Journalled.{planned}
use Rattle.shard_replica.specs.Lists.{Medium, but_turns, medium_at}
use Rattle.counted_node.specs.Causes.{media_at}

-- The next put and the next reload of each journal of a node turn out by the plan, and nothing else is told otherwise.
pub record TurnBy (plan : Plan) (state : NodeState) (old new : List Medium) : Type 0 where
  pub same : map but_turns new ≡ map but_turns old
  pub turns : (k : ℕ) → (medium_at new k).turns ≡ planned (payload_in_flight state k) plan (medium_at old k).turns

-- so it is at the node of this number, and of the others all is told as before
pub record IsHandedTo (number : ℕ) (plan : Plan) (nodes : List ClusterNode) (old new : List (List Medium)) : Type 0 where
  pub node : ClusterNode
  pub at : slice_get nodes number ≡ Some node
  pub here : TurnBy plan node.state (media_at old number) (media_at new number)
  pub others : (other : ℕ) → other ≢ number → media_at new other ≡ media_at old other

-- plans are handed over, one after another
abbrev pub AreHandedOver : List Planned → List ClusterNode → List (List Medium) → List (List Medium) → Type 0
AreHandedOver [] nodes old new = new ≡ old
AreHandedOver (first ∷ plans) nodes old new =
    (told : List (List Medium)) × IsHandedTo first.node.0 first.plan nodes old told × AreHandedOver plans nodes told new
