-- The history of a cluster that served items over disks that are lent.
use Rattle.std.specs.Prelude.{◌≡◌, ◌⊎◌, ℕ, ◌++◌, ◌≤◌, List, [], length, slice_get, Some, Result, Ok, Err}
use Rattle.command_frame.specs.declared.items.Item.{Item}
use Rattle.reply_frame.specs.declared.replies.Reply.{Reply}
use Rattle.history_frame.specs.declared.events.Event.{Event}
use Rattle.history_frame.specs.declared.events.History.{History}
use Rattle.history_frame.specs.declared.events.Kept.{Kept}
use Rattle.history_frame.specs.Spelling.{IsHistory, history_spelling}
use Rattle.log_base.specs.ClusterShape.{Shape}
use Rattle.node_model.specs.Durable.{IsFounded}
use Rattle.node_model.specs.Legal.{IsLegal}
use Rattle.node_model.specs.NodeState.{KeptLists}
use Rattle.node_model.specs.Sound.{IsSound, payloads_on}
use Rattle.cluster_disks.specs.declared.stop.OpenStop.{OpenStop}
use Rattle.cluster_disks.specs.Failing.{IsRejected, OpensNot}
use Rattle.cluster_disks.specs.Found.{AreRecovered, bytes_in, kept_limit}
use Rattle.cluster_disks.specs.Lent.{Disks, Lying}
use Rattle.cluster_disks.specs.Opened.{AreLater}
use Rattle.cluster_run.specs.Runs.{IsClusterRun, StopsWith}
use Rattle.lane_law.specs.Answers.{MayAnswer}
use Rattle.stream_law.specs.Streams.{StreamsAgree}
use Rattle.quiet_run.specs.declared.outcomes.DriveStop.{DriveStop}
use Rattle.scalog_run.specs.declared.fault.RunFault.{RunFault}
use Rattle.scalog_run.specs.declared.fault.RunFault.TheVariants.{Memory}
use Rattle.scalog_run.specs.Causes.{HasCauses, IsOpening}
use Rattle.scalog_run.specs.Faults.{opening_fault, stopping_fault}
use Rattle.scalog_run.specs.Histories.{AreLeft}
use Rattle.scalog_run.specs.Output.{reply_frames}

-- Legal events over disks: what was kept before them is what the lent disks recover to, and the disks that lie there after them are
-- left by them.
pub record AreServedOver {D : Type 0} (by : Disks D) (config : Shape) (run : ℕ) (kept : KeptLists) (events : List Event) (old new : ℕ → Lying D) : Type 0 where
  pub found : AreRecovered by config kept old
  pub legal : IsLegal config run kept events
  pub left : AreLeft by config kept events new

-- ---- a cluster that served all items

-- The history of a cluster that served all items, with their replies: it is the one of lanes and workers, over the disks. Each reply is
-- one that its item may have, and from founded lists the streams agree with the one sequence. What the history shows of the disks has
-- its causes, and no count fell.
pub record IsServedRun {D : Type 0} (by : Disks D) (config : Shape) (run : ℕ) (items : List Item) (workers : ℕ) (history : History) (replies : List Reply)
    (old new : ℕ → Lying D) : Type 0 where
  pub ran : IsClusterRun config run items workers history.kept history replies
  pub over : AreServedOver by config run (payloads_on history.kept) history.events old new
  pub few : bytes_in history.kept ≤ kept_limit
  pub each : length replies ≡ length items
  pub fit : (k : ℕ) (item : Item) (reply : Reply) → slice_get items k ≡ Some item → slice_get replies k ≡ Some reply → MayAnswer item reply
  pub streams : IsFounded config run (payloads_on history.kept) → StreamsAgree config (payloads_on history.kept) history.events replies
  pub spelled : IsHistory history
  pub opening : IsOpening by config history.events old new
  pub causes : HasCauses by config history.events old new
  pub later : AreLater by config old new

-- The output is the frames of the replies, in the items' order, and then the history.
pub record IsServedOutput {D : Type 0} (by : Disks D) (config : Shape) (run : ℕ) (items : List Item) (workers : ℕ) (output : List ℕ) (old new : ℕ → Lying D) : Type 0 where
  pub history : History
  pub replies : List Reply
  pub served : IsServedRun by config run items workers history replies old new
  pub output_is : output ≡ reply_frames items replies ++ history_spelling history

-- ---- a cluster that did not

-- A cluster over what the disks kept that stopped: where a node knew as many values as there may be, or for want of memory. What its
-- events show of the disks has its causes, and no count fell.
pub record IsHaltedOver {D : Type 0} (by : Disks D) (config : Shape) (run : ℕ) (stop : DriveStop) (old new : ℕ → Lying D) : Type 0 where
  pub kept : List Kept
  pub events : List Event
  pub few : bytes_in kept ≤ kept_limit
  pub over : AreServedOver by config run (payloads_on kept) events old new
  pub causes : HasCauses by config events old new
  pub later : AreLater by config old new
  pub stops : StopsWith config (payloads_on kept) events stop

-- All disks were opened, and no cluster may begin with their lists. If these are sound, no event and what was kept are left by the disks.
pub record IsUnserved {D : Type 0} (by : Disks D) (config : Shape) (run : ℕ) (stop : OpenStop) (old new : ℕ → Lying D) : Type 0 where
  pub rejected : IsRejected by config run stop old new
  pub empty : IsSound config run (payloads_on rejected.kept) → AreServedOver by config run (payloads_on rejected.kept) [] old new

-- ---- what serving items comes to

-- The cluster did not begin, and no count fell.
pub record IsNotBegun {D : Type 0} (by : Disks D) (config : Shape) (run : ℕ) (fault : RunFault) (old new : ℕ → Lying D) : Type 0 where
  pub stop : OpenStop
  pub fault_is : fault ≡ opening_fault stop
  pub why : OpensNot by config old new stop ⊎ IsUnserved by config run stop old new
  pub later : AreLater by config old new

-- It began and stopped.
pub record IsHalfServed {D : Type 0} (by : Disks D) (config : Shape) (run : ℕ) (fault : RunFault) (old new : ℕ → Lying D) : Type 0 where
  pub stop : DriveStop
  pub fault_is : fault ≡ stopping_fault stop
  pub halted : IsHaltedOver by config run stop old new

-- It began, and could not be closed for want of memory. Its disks did not come back.
pub record IsDropped {D : Type 0} (by : Disks D) (config : Shape) (run : ℕ) (fault : RunFault) (old : ℕ → Lying D) : Type 0 where
  pub fault_is : fault ≡ Memory
  pub kept : List Kept
  pub found : AreRecovered by config (payloads_on kept) old
  pub few : bytes_in kept ≤ kept_limit
  pub sound : IsSound config run (payloads_on kept)

-- why items were not all served
abbrev pub IsNotServed : {D : Type 0} → Disks D → Shape → ℕ → RunFault → (ℕ → Lying D) → (ℕ → Lying D) → Type 0
IsNotServed by config run fault old new =
    IsNotBegun by config run fault old new ⊎ IsHalfServed by config run fault old new ⊎ IsDropped by config run fault old

abbrev pub ServesTo : {D : Type 0} → Disks D → Shape → ℕ → List Item → ℕ → (ℕ → Lying D) → (ℕ → Lying D) → Result (List ℕ) RunFault → Type 0
ServesTo by config run items workers old new (Ok output) = IsServedOutput by config run items workers output old new
ServesTo by config run items workers old new (Err fault) = IsNotServed by config run fault old new
