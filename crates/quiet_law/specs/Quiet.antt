-- Runs in which no disk fails, over empty disks.
use Rattle.std.specs.Prelude.{◌≡◌, ◌<◌, ◌≤◌, ℕ, List, [], length, take}
use Rattle.std.specs.List.{AllByRecursion}
use Rattle.command_frame.specs.declared.items.Item.{Item}
use Rattle.command_frame.specs.Items.{IsItem, IsNoFault}
use Rattle.history_frame.specs.declared.events.Event.{Event}
use Rattle.history_frame.specs.declared.inputs.Input.{Input}
use Rattle.history_frame.specs.declared.inputs.Input.TheVariants.{Deliver, Call, Tick, Lead, Stop, Restart}
use Rattle.history_frame.specs.declared.inputs.Mark.{Mark}
use Rattle.history_frame.specs.declared.inputs.Mark.TheVariants.{Done, Halted, OpenedWith, OpenedWithout, StayedDown}
use Rattle.log_base.specs.ClusterShape.{Shape}
use Rattle.node_table.specs.Numbering.{orderer_node}
use Rattle.paxos_model.specs.Leader.{slot_limit}
use Rattle.node_model.specs.Legal.{IsLegal}
use Rattle.node_model.specs.NodeState.{NodeState, Storing, Gathering, Ordering, node_after}
use Rattle.node_model.specs.OrdererNode.{known_of}
use Rattle.schedule_model.specs.Driven.{IsDriven}
use Rattle.quiet_model.specs.Moments.{Moment}
use Rattle.quiet_model.specs.Opening.{empty_disks}

-- how an input turns out where no disk fails: a restart opens the disks with what they stored, and all else is done
abbrev pub quiet_mark : Input → Mark
quiet_mark (Deliver place index message) = Done
quiet_mark (Call call) = Done
quiet_mark Tick = Done
quiet_mark Lead = Done
quiet_mark Stop = Done
quiet_mark Restart = OpenedWithout

-- a mark that tells neither of a disk that failed nor of a payload that was in flight
abbrev pub TellsNoFailure : Mark → Type 0
TellsNoFailure Done = Unit {0}
TellsNoFailure OpenedWithout = Unit {0}
TellsNoFailure Halted = ⊥
TellsNoFailure OpenedWith = ⊥
TellsNoFailure StayedDown = ⊥

abbrev pub IsQuiet : Event → Type 0
IsQuiet event = event.happened.mark ≡ quiet_mark event.happened.input

-- A legal history over empty disks that is driven by items, none of which is a line of the fault script, and in which no disk fails.
pub record IsQuietRun (config : Shape) (run : ℕ) (items : List Item) (events : List Event) : Type 0 where
  pub each : AllByRecursion (IsItem config) items
  pub no_faults : AllByRecursion IsNoFault items
  pub legal : IsLegal config run empty_disks events
  pub driven : IsDriven config run items events
  pub quiet : AllByRecursion IsQuiet events

-- how many values an orderer knows, up or down
abbrev pub known_at : NodeState → ℕ
known_at (Storing node) = 0
known_at (Gathering node) = 0
known_at (Ordering node) = length (known_of node.mode)

-- At no moment of a run over empty disks orderer 0 knows as many values as there are slots.
abbrev pub HasSlots : Shape → List Event → Type 0
HasSlots config events = (count : ℕ) → count ≤ length events
    → known_at (node_after config empty_disks (take count events) (orderer_node config 0)) < slot_limit

-- the moment after the events of a run over empty disks, once every letter is delivered
abbrev pub moment_after : Shape → List Event → Moment
moment_after config events = record { nodes = node_after config empty_disks events; queue = [] }
