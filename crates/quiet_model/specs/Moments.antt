-- A moment of a run is what all nodes are, and the letters under way. One moment comes from another where a node takes an
-- input, where nodes take one in turn, and where letters are delivered until none is left.
use Rattle.std.specs.Prelude.{◌≡◌, ◌≢◌, ℕ, zero, suc, ◌*◌, List, [], ◌∷◌, ◌++◌, Some}
use Rattle.reply_frame.specs.declared.replies.Reply.{Reply}
use Rattle.history_frame.specs.declared.events.Sent.{Sent}
use Rattle.history_frame.specs.declared.inputs.Input.{Input}
use Rattle.history_frame.specs.declared.inputs.Input.TheVariants.{Deliver, Tick}
use Rattle.history_frame.specs.declared.inputs.Mark.{Mark}
use Rattle.history_frame.specs.declared.inputs.Mark.TheVariants.{Done}
use Rattle.log_base.specs.ClusterShape.{Shape}
use Rattle.node_table.specs.Numbering.{gatherer_node, orderer_node}
use Rattle.node_model.specs.NodeState.{NodeOutcome, NodeState, node_outcome}

-- the nodes by their numbers, and the letters, the oldest first
pub record Moment : Type 0 where
  pub nodes : ℕ → NodeState
  pub queue : List Sent

-- A node takes an input, as a row of the rules has it: the node and the letters of the row follow, and all other nodes stay.
pub record Takes (config : Shape) (before : Moment) (node : ℕ) (input : Input) (mark : Mark) (answer : Reply) (after : Moment) : Type 0 where
  pub made : NodeOutcome
  pub rule : node_outcome config node (before.nodes node) input mark ≡ Some made
  pub reply : answer ≡ made.reply
  pub state : after.nodes node ≡ made.state
  pub others : (other : ℕ) → other ≢ node → after.nodes other ≡ before.nodes other
  pub posted : after.queue ≡ before.queue ++ made.outputs

-- so many nodes, from one on, take the same input one after another
abbrev pub TakeInTurn : Shape → Input → Mark → ℕ → ℕ → Moment → Moment → Type 0
TakeInTurn config input mark first zero before after = before ≡ after
TakeInTurn config input mark first (suc count) before after =
    (reply : Reply) × (next : Moment) × Takes config before first input mark reply next × TakeInTurn config input mark (suc first) count next after

-- the first letter is taken out and delivered
pub record IsDelivery (config : Shape) (before after : Moment) : Type 0 where
  pub sent : Sent
  pub rest : List Sent
  pub first : before.queue ≡ sent ∷ rest
  pub place : ℕ
  pub index : ℕ
  pub reply : Reply
  pub taken : Takes config (record before { queue = rest }) sent.to.0 (Deliver place index (Some sent.message)) Done reply after

-- so many letters are delivered, each the first when its turn comes
abbrev pub DeliveredIn : Shape → ℕ → Moment → Moment → Type 0
DeliveredIn config zero before after = before ≡ after
DeliveredIn config (suc count) before after = (next : Moment) × IsDelivery config before next × DeliveredIn config count next after

-- letters are delivered until none is left
pub record AreDelivered (config : Shape) (before after : Moment) : Type 0 where
  pub count : ℕ
  pub deliveries : DeliveredIn config count before after
  pub none_left : after.queue ≡ []

-- nodes take an input in turn, and then all letters are delivered
pub record IsRound (config : Shape) (input : Input) (mark : Mark) (first count : ℕ) (before after : Moment) : Type 0 where
  pub middle : Moment
  pub turns : TakeInTurn config input mark first count before middle
  pub deliveries : AreDelivered config middle after

-- Settling: the storage nodes tick, then the gatherers, then the orderers, then the storage nodes again, each in a round.
pub record IsSettling (config : Shape) (before after : Moment) : Type 0 where
  pub stored : Moment
  pub gathered : Moment
  pub decided : Moment
  pub copies : IsRound config Tick Done 0 (config.replicas * config.shards) before stored
  pub lengths : IsRound config Tick Done (gatherer_node config 0) config.gatherers stored gathered
  pub decision : IsRound config Tick Done (orderer_node config 0) config.orderers gathered decided
  pub reports : IsRound config Tick Done 0 (config.replicas * config.shards) decided after
