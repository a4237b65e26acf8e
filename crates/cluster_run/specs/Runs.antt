-- The run of a cluster: what its history shows of its lanes and workers.
use Rattle.std.specs.Prelude.{◌≡◌, ℕ, ◌+◌, ◌<◌, ◌≤◌, List, [], length, map, slice_get, Some, Ok}
use Rattle.client_session.specs.Sessions.{fresh}
use Rattle.cluster.specs.History.{StandAfter}
use Rattle.cluster.specs.Opening.{opening}
use Rattle.command_frame.specs.declared.items.Item.{Item}
use Rattle.core_step.specs.Known.{known_count}
use Rattle.counted_node.specs.Causes.{HaveCauses}
use Rattle.history_frame.specs.declared.events.Event.{Event}
use Rattle.history_frame.specs.declared.events.History.{History}
use Rattle.history_frame.specs.declared.events.Kept.{Kept}
use Rattle.history_frame.specs.declared.inputs.Input.{Input}
use Rattle.lane_work.specs.Items.{ItemsGo, items_of, lane_of}
use Rattle.lane_work.specs.Workers.{WorkerTurns}
use Rattle.log_base.specs.ClusterShape.{Shape}
use Rattle.log_base.specs.Shape.{shape}
use Rattle.log_base.specs.declared.numbers.NodeId.{NodeId}
use Rattle.node_model.specs.Durable.{IsFounded}
use Rattle.node_model.specs.Legal.{IsLegal}
use Rattle.node_model.specs.Machine.{ClusterNode}
use Rattle.node_model.specs.NodeState.{KeptLists, node_after}
use Rattle.node_model.specs.Sound.{payloads_on}
use Rattle.node_table.specs.Numbering.{nodes_of}
use Rattle.quiet_run.specs.declared.outcomes.DriveStop.{DriveStop}
use Rattle.quiet_run.specs.declared.outcomes.DriveStop.TheVariants.{Limit, Memory}
use Rattle.reply_frame.specs.declared.replies.Reply.{Reply}
use Rattle.sequence_law.specs.Safe.{IsSafe}
use Rattle.shard_replica.specs.Lists.{Medium}
use Rattle.cluster_run.specs.Makers.{Counts, MakeAll, Maker}
use Rattle.cluster_run.specs.Ordering.{AreInOrder, AreLanes}
use Rattle.cluster_run.specs.Passes.{AreOpening}

-- the lanes of items
abbrev pub lanes_in : List Item → List ℕ
lanes_in items = map lane_of items

-- the events begin with those of the opening: each node starts, in order, and then orderer 0 is ordered to lead
abbrev pub BeginWithOpening : Shape → List Event → Type 0
BeginWithOpening config events = (k : ℕ) (asked : NodeId × Input) → slice_get (opening config) k ≡ Some asked
    → (event : Event) × (slice_get events k ≡ Some event) × (event.node ≡ asked.0) × (event.happened.input ≡ asked.1)

-- Each event was made by a lane, by a worker or in the opening. The items of each lane went one after another, and each worker made
-- whole rounds, unless its pass was spent. The replies of the lanes are those of the items.
pub record AreShared (config : Shape) (run : ℕ) (items : List Item) (workers : ℕ) (events : List Event) (replies : List Reply) : Type 0 where
  pub lanes : ℕ
  pub lanes_are : AreLanes (lanes_in items) lanes
  pub makers : List Maker
  pub lists : List (List Reply)
  pub as_many : length makers ≡ lanes + workers + 1
  pub answered : length lists ≡ lanes
  pub counted : (k : ℕ) (maker : Maker) → slice_get makers k ≡ Some maker → Counts maker
  pub all : MakeAll makers events
  pub lane : (k : ℕ) (maker : Maker) (list : List Reply) → slice_get makers k ≡ Some maker → slice_get lists k ≡ Some list
      → ItemsGo config k maker.account (fresh k run) (items_of k items) maker.own list
  pub worker : (k : ℕ) (maker : Maker) → k < workers → slice_get makers (lanes + k) ≡ Some maker → WorkerTurns (nodes_of config) maker.account [] maker.own (Ok tt)
  pub last : (maker : Maker) → slice_get makers (lanes + workers) ≡ Some maker → AreOpening config maker.own
  pub in_order : AreInOrder (lanes_in items) lists replies

-- how many values a node knows after events
abbrev pub known_after : Shape → KeptLists → List Event → ℕ → ℕ
known_after config kept events number = known_count (node_after config kept events number)

-- The run of a cluster over items: its history is legal, and safe where what was kept is founded. It begins with the opening, lanes
-- and workers made the other events, the items have these replies, and no node knows as many values as there may be.
pub record IsClusterRun (config : Shape) (run : ℕ) (items : List Item) (workers : ℕ) (kept : List Kept) (history : History) (replies : List Reply) : Type 0 where
  pub config_is : shape history.config ≡ config
  pub run_is : history.run ≡ run
  pub kept_is : history.kept ≡ kept
  pub legal : IsLegal config run (payloads_on kept) history.events
  pub safe : IsFounded config run (payloads_on kept) → IsSafe config (payloads_on kept) history.events
  pub opening : BeginWithOpening config history.events
  pub shared : AreShared config run items workers history.events replies
  pub few : (number : ℕ) → number < nodes_of config → known_after config (payloads_on kept) history.events number < 16384

-- why a run stopped: a node knows as many values as there may be, or memory ran out
abbrev pub StopsWith : Shape → KeptLists → List Event → DriveStop → Type 0
StopsWith config kept events (Limit cause) = (cause ≡ 4) × (number : ℕ) × (number < nodes_of config) × (16384 ≤ known_after config kept events number)
StopsWith config kept events Memory = Unit {0}

-- A run that stopped: its nodes stand after legal events.
pub record IsHalted (config : Shape) (run : ℕ) (kept : KeptLists) (nodes : List ClusterNode) (stop : DriveStop) : Type 0 where
  pub events : List Event
  pub legal : IsLegal config run kept events
  pub stand : StandAfter config kept events nodes
  pub stops : StopsWith config kept events stop

-- Its events have causes, in what was told of the nodes' disks before it and is told after it.
pub record IsHaltedWith (config : Shape) (run : ℕ) (kept : KeptLists) (nodes : List ClusterNode) (first now : List (List Medium)) (stop : DriveStop) : Type 0 where
  pub halted : IsHalted config run kept nodes stop
  pub causes : HaveCauses config halted.events first now
