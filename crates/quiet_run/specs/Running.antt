-- A run on its way.
use Rattle.std.specs.Prelude.{◌≡◌, ◌≢◌, ℕ, ◌+◌, ◌<◌, ◌≤◌, List, [], ◌∷◌, ◌++◌, length, Some, None}
use Rattle.reply_frame.specs.declared.replies.Reply.{Reply}
use Rattle.history_frame.specs.declared.events.Event.{Event}
use Rattle.history_frame.specs.declared.events.Happened.{Happened}
use Rattle.history_frame.specs.Spelling.{IsHappened, event_size}
use Rattle.log_base.specs.declared.numbers.NodeId.{NodeId}
use Rattle.log_base.specs.ClusterShape.{Shape}
use Rattle.log_base.specs.Shape.{shape}
use Rattle.node_model.specs.Machine.{ClusterNode}
use Rattle.schedule_model.specs.declared.turns.Turn.{Turn}
use Rattle.schedule_model.specs.Driven.{next_plans_after, next_turn_after, replies_of, scheduled_after}
use Rattle.schedule_model.specs.Streams.{IsSingle}
use Rattle.schedule_model.specs.Scheduling.{Scheduled, given, noted}
use Rattle.quiet_run.specs.declared.running.Running.{Running}
use Rattle.shard_replica.specs.Lists.{Medium}
use Rattle.quiet_run.specs.declared.outcomes.DriveStop.{DriveStop}
use Rattle.counted_node.specs.Causes.{HaveCauses, media_at}
use Rattle.quiet_run.specs.Limits.{byte_limit, bytes_of, event_limit, limit_passed}
use Rattle.quiet_run.specs.Planning.{AreHandedOver}
use Rattle.quiet_run.specs.Runs.{IsRunSoFar, IsStoppedWith, NoLimitBefore}
use Rattle.quiet_run.specs.Standing.{IsJob, Job, job}

-- what it is given
abbrev pub job_of : Running → Job
job_of running = job (shape running.config) running.run running.items.now running.kept.now

-- the schedule after events, and the turn that comes next
abbrev pub scheduled_in : Job → List Event → Scheduled
scheduled_in job events = scheduled_after job.config job.run job.items events

-- Its events so far are legal and follow the schedule, the nodes stand after them, no limit was passed before the last of them,
-- and their bytes are counted.
pub record IsOnItsWay (job : Job) (events : List Event) (bytes : ℕ) (nodes : List ClusterNode) : Type 0 where
  pub is_job : IsJob job
  pub so_far : IsRunSoFar job events nodes
  pub no_limit : NoLimitBefore job events
  pub counted : bytes ≡ bytes_of events

-- no limit is passed, and a turn has come, which the schedule gave
pub record IsTurnDue (job : Job) (events : List Event) (scheduled : Scheduled) (turn : Turn) : Type 0 where
  pub none : limit_passed job events ≡ None
  pub next : next_turn_after job.config job.run job.items events ≡ Some turn
  pub given_is : scheduled ≡ given (scheduled_in job events)

-- the event that a node makes of it
abbrev pub event_next : Running → NodeId → Happened → Event
event_next running node happened = record { place = length running.events.items; node = node; happened = happened }

-- What happened can be kept: it has a spelling and no reply but a node's, and there is room for one event more.
pub record CanKeep (running : Running) (happened : Happened) : Type 0 where
  pub spelled : IsHappened happened
  pub single : IsSingle happened.reply
  pub events : length running.events.items < event_limit
  pub place : running.schedule.place ≡ length running.events.items
  pub bytes : running.bytes ≤ byte_limit

-- what happened was kept, and the schedule noted it
pub record Keeps (node : NodeId) (happened : Happened) (old new : Running) : Type 0 where
  pub job_stays : job_of new ≡ job_of old
  pub events : new.events.items ≡ old.events.items ++ event_next old node happened ∷ []
  pub scheduled : new.schedule ≡ noted old.schedule happened.outputs happened.reply
  pub bytes : new.bytes ≡ old.bytes + event_size happened

-- a run that has not begun
pub record IsBeginning (job : Job) (running : Running) : Type 0 where
  pub job_is : job_of running ≡ job
  pub events_are : running.events.items ≡ []
  pub bytes_are : running.bytes ≡ 0
  pub scheduled : running.schedule ≡ scheduled_in job []

-- the run went on by one event
pub record HasGoneOn (old new : Running) (nodes : List ClusterNode) : Type 0 where
  pub job_stays : job_of new ≡ job_of old
  pub way : IsOnItsWay (job_of new) new.events.items new.bytes nodes
  pub scheduled : new.schedule ≡ scheduled_in (job_of new) new.events.items
  pub room : length old.events.items < event_limit
  pub more : length new.events.items ≡ length old.events.items + 1

-- the way that a run has come, with its schedule
pub record IsUnderWay (job : Job) (running : Running) (nodes : List ClusterNode) : Type 0 where
  pub job_is : job_of running ≡ job
  pub way : IsOnItsWay job running.events.items running.bytes nodes
  pub scheduled : running.schedule ≡ scheduled_in job running.events.items

-- The run is over: no turn comes next, no limit is passed, and each item has its reply.
pub record IsOver (job : Job) (events : List Event) (bytes : ℕ) (replies : List Reply) (nodes : List ClusterNode) : Type 0 where
  pub way : IsOnItsWay job events bytes nodes
  pub over : next_turn_after job.config job.run job.items events ≡ None
  pub none : limit_passed job events ≡ None
  pub replies_are : replies ≡ replies_of job.config job.run job.items events

-- The failures to come that the schedule plans are handed to the disks, and then the node whose turn comes takes it: of the others all
-- is told as before.
pub record TakesPlannedTurn (job : Job) (events : List Event) (nodes : List ClusterNode) (old new : List (List Medium)) : Type 0 where
  pub turn : Turn
  pub comes : next_turn_after job.config job.run job.items events ≡ Some turn
  pub told : List (List Medium)
  pub planned : AreHandedOver (next_plans_after job.config job.run job.items events) nodes old told
  pub others : (other : ℕ) → other ≢ turn.node.0 → media_at new other ≡ media_at told other

-- Whatever was told at first: where the failures of the earlier events have causes, so have those of the later ones.
abbrev pub CausesGoOn : Shape → List Event → List Event → List (List Medium) → List (List Medium) → Type 0
CausesGoOn config earlier later old new = (first : List (List Medium)) → HaveCauses config earlier first old → HaveCauses config later first new

-- Whatever was told at first: where the failures of the events have causes, so have those of the run that stopped.
abbrev pub StopsWith : Job → List Event → List ClusterNode → List (List Medium) → List (List Medium) → DriveStop → Type 0
StopsWith job events nodes old new stop = (first : List (List Medium)) → HaveCauses job.config events first old → IsStoppedWith job nodes first new stop
