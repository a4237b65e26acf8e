-- The history of a run over disks that are lent.
use Rattle.std.specs.Prelude.{◌≡◌, ◌⊎◌, ℕ, ◌≤◌, List, [], length, slice_get, IfSome, IsTrue, Some, Result, Ok, Err}
use Rattle.std.specs.List.{AllByRecursion}
use Rattle.command_frame.specs.declared.items.Item.{Item}
use Rattle.command_frame.specs.Items.{IsNoFault}
use Rattle.reply_frame.specs.declared.replies.Reply.{Reply}
use Rattle.history_frame.specs.declared.events.Event.{Event}
use Rattle.history_frame.specs.declared.events.History.{History}
use Rattle.history_frame.specs.declared.events.Kept.{Kept}
use Rattle.history_frame.specs.Spelling.{IsHistory}
use Rattle.log_base.specs.ClusterShape.{Shape}
use Rattle.log_base.specs.Shape.{shape}
use Rattle.log_base.specs.Wide.{IsBytes}
use Rattle.node_model.specs.Durable.{IsFounded, Keeps, durable, in_flight}
use Rattle.node_model.specs.Legal.{IsLegal}
use Rattle.node_model.specs.NodeState.{KeptLists}
use Rattle.node_model.specs.Sound.{IsSound, payloads_on}
use Rattle.plain_log.specs.Log.{log_of}
use Rattle.segment_journal.specs.File.{recovered}
use Rattle.sequence_law.specs.Safe.{IsSafe}
use Rattle.schedule_model.specs.Driven.{IsDriven, IsFollowed, replies_of}
use Rattle.stream_law.specs.Replies.{IsReplyTo}
use Rattle.stream_law.specs.Streams.{StreamsAgree}
use Rattle.cluster_disks.specs.declared.stop.OpenStop.{OpenStop}
use Rattle.cluster_disks.specs.Failing.{IsRejected, OpensNot}
use Rattle.cluster_disks.specs.Found.{AreRecovered, bytes_in, kept_limit}
use Rattle.cluster_disks.specs.Lent.{Disks, IsDisk, Lying}
use Rattle.quiet_run.specs.declared.outcomes.DriveStop.{DriveStop}
use Rattle.quiet_run.specs.Runs.{IsWithinLimits, StopsAt}
use Rattle.quiet_run.specs.Standing.{Job, job}
use Rattle.quiet_run.specs.Unfailing.{ShowsNone}
use Rattle.scalog_run.specs.declared.fault.RunFault.{RunFault}
use Rattle.scalog_run.specs.declared.report.Report.{Report}
use Rattle.scalog_run.specs.Causes.{HasCauses, IsOpening}
use Rattle.scalog_run.specs.Faults.{opening_fault, stopping_fault}
use Rattle.scalog_run.specs.Report.{Reports}

-- ---- disks that a history leaves

-- whatever bytes a crash may leave of a disk recover to a list that a history leaves there
abbrev pub IsLeftOn : Shape → KeptLists → List Event → ℕ → (List ℕ → Type 0) → Type 0
IsLeftOn config kept events number images = (c : List ℕ) → images c → IsBytes c
    → (list : List (List ℕ)) × (recovered c ≡ Ok list) × Keeps (durable config kept events number) (in_flight config kept events number) list

-- the disks that lie there, where they keep synced bytes, are left by a history
abbrev pub AreLeft : {D : Type 0} → Disks D → Shape → KeptLists → List Event → (ℕ → Lying D) → Type 0
AreLeft by config kept events lain = (number : ℕ) → IsDisk config number
    → IfSome (lain number).disk (λ disk. IsTrue (by.keeps_synced disk) → IsLeftOn config kept events number (by.may_leave disk))

-- Events over disks: what was kept before them is what the lent disks recover to, they are legal, they follow the schedule, and
-- the disks that lie there after them are left by them.
pub record AreOver {D : Type 0} (by : Disks D) (job : Job) (events : List Event) (old new : ℕ → Lying D) : Type 0 where
  pub found : AreRecovered by job.config job.kept old
  pub legal : IsLegal job.config job.run job.kept events
  pub followed : IsFollowed job.config job.run job.items events
  pub left : AreLeft by job.config job.kept events new

-- ---- a run that came to its end

-- The history of a run that came to its end: no limit was passed on the way, each item has its reply, one that it may have, what it
-- shows of its disks has its causes, and from founded lists it is safe and its streams agree with the one sequence. Where the disks
-- kept nothing, no item is a line of the fault script and it shows no failure of the disks, the replies are those of the log of one
-- thread.
pub record IsWholeRun {D : Type 0} (by : Disks D) (config : Shape) (run : ℕ) (items : List Item) (history : History) (old new : ℕ → Lying D) : Type 0 where
  pub config_is : shape history.config ≡ config
  pub run_is : history.run ≡ run
  pub over : AreOver by (job config run items history.kept) history.events old new
  pub driven : IsDriven config run items history.events
  pub few : bytes_in history.kept ≤ kept_limit
  pub within : IsWithinLimits (job config run items history.kept) history.events
  pub each : length (replies_of config run items history.events) ≡ length items
  pub fit : (k : ℕ) (item : Item) (reply : Reply) → slice_get items k ≡ Some item → slice_get (replies_of config run items history.events) k ≡ Some reply
      → IsReplyTo item reply
  pub spelled : IsHistory history
  pub opening : IsOpening by config history.events old new
  pub causes : HasCauses by config history.events old new
  pub safe : IsFounded config run (payloads_on history.kept) → IsSafe config (payloads_on history.kept) history.events
  pub streams : IsFounded config run (payloads_on history.kept)
      → StreamsAgree config (payloads_on history.kept) history.events (replies_of config run items history.events)
  pub quiet : history.kept ≡ [] → AllByRecursion IsNoFault items → ShowsNone config history.events → replies_of config run items history.events ≡ log_of config run items

-- ---- a run that did not

-- A run over what the disks kept that stopped after its first events. It stopped at a limit, which it passed with the last of
-- them, or for want of memory.
pub record IsStopped {D : Type 0} (by : Disks D) (config : Shape) (run : ℕ) (items : List Item) (stop : DriveStop) (old new : ℕ → Lying D) : Type 0 where
  pub kept : List Kept
  pub events : List Event
  pub few : bytes_in kept ≤ kept_limit
  pub over : AreOver by (job config run items kept) events old new
  pub causes : HasCauses by config events old new
  pub stops : StopsAt (job config run items kept) events stop

-- All disks were opened, and the run does not begin with their lists. Where these are sound, the history without events is over
-- the disks.
pub record IsUnbegun {D : Type 0} (by : Disks D) (config : Shape) (run : ℕ) (items : List Item) (stop : OpenStop) (old new : ℕ → Lying D) : Type 0 where
  pub rejected : IsRejected by config run stop old new
  pub empty : IsSound config run (payloads_on rejected.kept) → AreOver by (job config run items rejected.kept) [] old new

-- ---- what answering items comes to

-- Not all disks were opened, or the run does not begin with their lists.
pub record IsUnstarted {D : Type 0} (by : Disks D) (config : Shape) (run : ℕ) (items : List Item) (fault : RunFault) (old new : ℕ → Lying D) : Type 0 where
  pub stop : OpenStop
  pub fault_is : fault ≡ opening_fault stop
  pub why : OpensNot by config old new stop ⊎ IsUnbegun by config run items stop old new

-- The run began and stopped.
pub record IsUnfinished {D : Type 0} (by : Disks D) (config : Shape) (run : ℕ) (items : List Item) (fault : RunFault) (old new : ℕ → Lying D) : Type 0 where
  pub stop : DriveStop
  pub fault_is : fault ≡ stopping_fault stop
  pub stopped : IsStopped by config run items stop old new

-- The output is the report of the one history of the run.
pub record IsOutput {D : Type 0} (by : Disks D) (config : Shape) (run : ℕ) (report : Report) (items : List Item) (output : List ℕ) (old new : ℕ → Lying D) : Type 0 where
  pub history : History
  pub whole : IsWholeRun by config run items history old new
  pub reports : Reports report config run items history output

-- why items have no output
abbrev pub IsUnanswered : {D : Type 0} → Disks D → Shape → ℕ → List Item → RunFault → (ℕ → Lying D) → (ℕ → Lying D) → Type 0
IsUnanswered by config run items fault old new = IsUnstarted by config run items fault old new ⊎ IsUnfinished by config run items fault old new

abbrev pub AnswersTo : {D : Type 0} → Disks D → Shape → ℕ → Report → List Item → (ℕ → Lying D) → (ℕ → Lying D) → Result (List ℕ) RunFault → Type 0
AnswersTo by config run report items old new (Ok output) = IsOutput by config run report items output old new
AnswersTo by config run report items old new (Err fault) = IsUnanswered by config run items fault old new
