-- Runs: as far as they came, to their ends, and up to a stop.
use Rattle.std.specs.Prelude.{◌≡◌, ℕ, ◌<◌, ◌≤◌, List, length, map, take, Some, None, slice_get, slice_index}
use Rattle.std.specs.List.{AllByRecursion}
use Rattle.history_frame.specs.declared.events.Event.{Event}
use Rattle.history_frame.specs.Spelling.{IsEvent}
use Rattle.node_model.specs.Legal.{IsLegal}
use Rattle.node_model.specs.Machine.{ClusterNode}
use Rattle.node_model.specs.NodeState.{node_after}
use Rattle.node_table.specs.Numbering.{nodes_of}
use Rattle.schedule_model.specs.Driven.{IsFollowed}
use Rattle.quiet_run.specs.declared.outcomes.DriveStop.{DriveStop}
use Rattle.quiet_run.specs.declared.outcomes.DriveStop.TheVariants.{Limit, Memory}
use Rattle.core_step.specs.Known.{known_chain, known_count}
use Rattle.shard_replica.specs.Lists.{Medium}
use Rattle.counted_node.specs.Causes.{HaveCauses}
use Rattle.quiet_run.specs.Limits.{known_by, limit_passed}
use Rattle.quiet_run.specs.Standing.{Job, StandAfter}

-- The events of a run so far: they are legal, they follow the schedule, each has a spelling, and the nodes stand after them.
pub record IsRunSoFar (job : Job) (events : List Event) (nodes : List ClusterNode) : Type 0 where
  pub legal : IsLegal job.config job.run job.kept events
  pub followed : IsFollowed job.config job.run job.items events
  pub spelled : AllByRecursion IsEvent events
  pub stand : StandAfter job events nodes

-- before the last event no limit was passed
abbrev pub NoLimitBefore : Job → List Event → Type 0
NoLimitBefore job events = (count : ℕ) → count < length events → limit_passed job (take count events) ≡ None

-- at no moment of a run a limit was passed
abbrev pub IsWithinLimits : Job → List Event → Type 0
IsWithinLimits job events = (count : ℕ) → count ≤ length events → limit_passed job (take count events) ≡ None

-- a run stopped after its events at a limit, which it passed with the last of them, or for want of memory
abbrev pub StopsAt : Job → List Event → DriveStop → Type 0
StopsAt job events (Limit cause) = (limit_passed job events ≡ Some cause) × NoLimitBefore job events
StopsAt job events Memory = Unit {0}

-- a run that stopped
pub record IsStoppedRun (job : Job) (nodes : List ClusterNode) (stop : DriveStop) : Type 0 where
  pub events : List Event
  pub so_far : IsRunSoFar job events nodes
  pub stops : StopsAt job events stop

-- A run that stopped, with the causes of the failures that its events show. What is told of the journals was this and is that.
pub record IsStoppedWith (job : Job) (nodes : List ClusterNode) (old new : List (List Medium)) (stop : DriveStop) : Type 0 where
  pub run : IsStoppedRun job nodes stop
  pub causes : HaveCauses job.config run.events old new

-- how many values a node of a cluster knows
abbrev pub count_in : ClusterNode → ℕ
count_in node = known_count node.state

-- the lowest of the nodes that know the most values
pub record IsFirstToKnowMost (job : Job) (events : List Event) (number : ℕ) : Type 0 where
  pub within : number < nodes_of job.config
  pub most : (other : ℕ) → other < nodes_of job.config → known_by job events other ≤ known_by job events number
  pub first : (other : ℕ) → other < number → known_by job events other < known_by job events number

-- The first of some nodes that know the most values, and what it knows: how many values, and by these the end of the log and its
-- mark.
pub record KnowsMost (nodes : List ClusterNode) (known end mark : ℕ) : Type 0 where
  pub number : ℕ
  pub node : ClusterNode
  pub at : slice_get nodes number ≡ Some node
  pub most : (other : ℕ) → other < length nodes → slice_index (map count_in nodes) other ≤ slice_index (map count_in nodes) number
  pub first : (other : ℕ) → other < number → slice_index (map count_in nodes) other < slice_index (map count_in nodes) number
  pub known_is : known ≡ count_in node
  pub end_is : end ≡ (known_chain node.config node.state).end
  pub mark_is : mark ≡ (known_chain node.config node.state).mark

-- what that node knows: how many values, and by these the end of the log and its mark
pub record IsKnownAtMost (job : Job) (events : List Event) (known end mark : ℕ) : Type 0 where
  pub number : ℕ
  pub node : IsFirstToKnowMost job events number
  pub known_is : known ≡ known_by job events number
  pub end_is : end ≡ (known_chain job.config (node_after job.config job.kept events number)).end
  pub mark_is : mark ≡ (known_chain job.config (node_after job.config job.kept events number)).mark
