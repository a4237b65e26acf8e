-- Runs of items of a cluster, and which turns are those of its nodes.
use Rattle.std.specs.Prelude.{ℕ, ◌<◌, ◌≤◌, List, length}
use Rattle.std.specs.List.{AllByRecursion}
use Rattle.log_base.specs.ClusterShape.{InRange, Shape}
use Rattle.fault_script.specs.Lines.{HasDisks}
use Rattle.command_frame.specs.declared.items.Item.{Item}
use Rattle.command_frame.specs.Items.{IsItem}
use Rattle.history_frame.specs.declared.inputs.Input.{Input}
use Rattle.history_frame.specs.declared.inputs.Input.TheVariants.{Deliver, Call as ACall, Tick, Lead, Stop, Restart}
use Rattle.node_table.specs.Numbering.{nodes_of, role_at}
use Rattle.node_model.specs.Fits.{IsInput}
use Rattle.schedule_model.specs.declared.duties.Planned.{Planned}
use Rattle.schedule_model.specs.declared.turns.Turn.{Turn}

-- an input that delivers no letter
abbrev pub IsNoLetter : Input → Type 0
IsNoLetter (Deliver place index message) = ⊥
IsNoLetter (ACall call) = Unit {0}
IsNoLetter Tick = Unit {0}
IsNoLetter Lead = Unit {0}
IsNoLetter Stop = Unit {0}
IsNoLetter Restart = Unit {0}

-- a node of the cluster takes an input that is named for its role, with numbers in range
pub record IsAllowed (config : Shape) (turn : Turn) : Type 0 where
  pub node : turn.node.0 < nodes_of config
  pub input : IsInput config (role_at config turn.node.0) turn.input

-- a run of items of a cluster
pub record IsRun (config : Shape) (run : ℕ) (items : List Item) : Type 0 where
  pub in_range : InRange config
  pub run_fits : run ≤ 1000000
  pub few : length items ≤ 65536
  pub each : AllByRecursion (IsItem config) items

-- what is planned is for a node of the cluster that keeps disks
abbrev pub IsPlanned : Shape → Planned → Type 0
IsPlanned config planned = HasDisks config planned.node.0
