-- What a run is given, and its nodes as its events left them.
use Rattle.std.specs.Prelude.{◌≡◌, ℕ, ◌<◌, List, length, Some, slice_get}
use Rattle.command_frame.specs.declared.items.Item.{Item}
use Rattle.history_frame.specs.declared.events.Event.{Event}
use Rattle.history_frame.specs.declared.events.Kept.{Kept}
use Rattle.log_base.specs.ClusterShape.{Shape}
use Rattle.node_model.specs.Machine.{ClusterNode}
use Rattle.node_model.specs.NodeState.{KeptLists, node_after}
use Rattle.node_model.specs.Sound.{IsSound, payloads_on}
use Rattle.node_table.specs.Numbering.{nodes_of}
use Rattle.schedule_model.specs.Calling.{IsRun}

-- A run: its config and its number, the items that it serves, and what the disks kept before it.
pub record Job : Type 0 where
  pub config : Shape
  pub run : ℕ
  pub items : List Item
  pub kept : KeptLists

abbrev pub job : Shape → ℕ → List Item → List Kept → Job
job config run items kept = record { config = config; run = run; items = items; kept = payloads_on kept }

-- it is a run of items of a cluster, and what the disks kept is sound
pub record IsJob (job : Job) : Type 0 where
  pub is_run : IsRun job.config job.run job.items
  pub sound : IsSound job.config job.run job.kept

-- a node of the run after events
abbrev pub node_of : Job → List Event → ℕ → ClusterNode
node_of job events number =
    record { config = job.config; number = number; state = node_after job.config job.kept events number }

-- The nodes of the cluster, in order of their numbers, stand after the events.
pub record StandAfter (job : Job) (events : List Event) (nodes : List ClusterNode) : Type 0 where
  pub all : length nodes ≡ nodes_of job.config
  pub each : (number : ℕ) → number < nodes_of job.config → slice_get nodes number ≡ Some (node_of job events number)
