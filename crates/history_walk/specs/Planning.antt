-- The plan by which the disks of a node turn out as a mark says.
use Rattle.std.specs.Prelude.{◌≡◌, ◌<◌, true, false, Some}
use Rattle.disk_base.specs.declared.disk.Plan.{Plan}
use Rattle.history_frame.specs.declared.inputs.Mark.{Mark}
use Rattle.history_frame.specs.declared.inputs.Mark.TheVariants.{Done, Halted, OpenedWithout, OpenedWith, StayedDown}
use Rattle.log_base.specs.ClusterShape.{Shape}
use Rattle.node_model.specs.Marks.{flight_of}
use Rattle.node_model.specs.NodeState.{NodeState, Storing, Gathering, Ordering}
use Rattle.node_model.specs.StorageNode.{Put}

abbrev pub mark_plan : Mark → Plan
mark_plan Done = record { after = 1; keep = 0; lose = false }
mark_plan Halted = record { after = 0; keep = 0; lose = false }
mark_plan OpenedWithout = record { after = 1; keep = 0; lose = false }
mark_plan OpenedWith = record { after = 1; keep = 1; lose = false }
mark_plan StayedDown = record { after = 1; keep = 0; lose = true }

-- what is in flight to a replica is to a segment of its shard
abbrev pub IsFlown : Shape → NodeState → Type 0
IsFlown config (Storing node) = (put : Put) → flight_of node.mode ≡ Some put → put.segment < config.replicas
IsFlown config (Gathering node) = Unit {0}
IsFlown config (Ordering node) = Unit {0}
