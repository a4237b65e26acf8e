-- Runs over empty disks without lines of the fault script in which nothing fails: they are answered as the log of one thread answers.
use Rattle.std.specs.Prelude.{◌≡◌, ◌⊎◌, ℕ, List, [], ◌++◌, Option, Some, None, IsSomeAnd, IsTrue, Ok}
use Rattle.std.specs.Io.KnownBytes.{Appends}
use Rattle.std.specs.List.{AllByRecursion, flat_map}
use Rattle.command_frame.specs.declared.items.Item.{Item}
use Rattle.command_frame.specs.Items.{IsItem, IsNoFault, item_spelling, passed_limit}
use Rattle.history_frame.specs.declared.events.History.{History}
use Rattle.history_frame.specs.Spelling.{history_spelling}
use Rattle.log_base.specs.ClusterShape.{Shape}
use Rattle.log_base.specs.Outside.{Rose}
use Rattle.plain_log.specs.Log.{log_of}
use Rattle.segment_journal.specs.File.{recovered}
use Rattle.cluster_disks.specs.Lent.{Disks, IsDisk, Lying}
use Rattle.cluster_disks.specs.Opened.{HasFailed}
use Rattle.quiet_run.specs.declared.outcomes.DriveStop.TheVariants.{Limit}
use Rattle.scalog_run.specs.declared.report.Report.{Report}
use Rattle.scalog_run.specs.declared.report.Report.TheVariants.{Full, Brief}
use Rattle.scalog_run.specs.Histories.{IsStopped, IsWholeRun}
use Rattle.item_input.specs.Input.{counts_of}
use Rattle.scalog_run.specs.Output.{Sinking, fault_frame, fault_spelling, reply_frames}
use Rattle.scalog_run.specs.Report.{Reports}
use Rattle.scalog_run.specs.Run.{World}

-- ---- what is given

-- The source holds the spellings of items and nothing else. The items are within the limits.
pub record HoldsItems (config : Shape) (left : Option (List ℕ)) (items : List Item) : Type 0 where
  pub each : AllByRecursion (IsItem config) items
  pub within : passed_limit (counts_of items) ≡ None
  pub bytes : left ≡ Some (flat_map item_spelling items)

-- The disk is told, and holds no payload.
abbrev pub HoldsNone : {D : Type 0} → Disks D → Lying D → Type 0
HoldsNone by lying = IsSomeAnd lying.disk (λ disk. IsSomeAnd (by.reads disk) (λ bytes. recovered bytes ≡ Ok []))

-- It is told, and keeps synced bytes.
abbrev pub KeepsSynced : {D : Type 0} → Disks D → Lying D → Type 0
KeepsSynced by lying = IsSomeAnd lying.disk (λ disk. IsTrue (by.keeps_synced disk))

-- All disks of the cluster are empty and keep synced bytes, and neither they nor the rack fail.
pub record AreUnfailing {D : Type 0} (by : Disks D) (config : Shape) (old new : ℕ → Lying D) : Type 0 where
  pub empty : (number : ℕ) → IsDisk config number → HoldsNone by (old number)
  pub keep : (number : ℕ) → IsDisk config number → KeepsSynced by (old number)
  pub none_failed : (number : ℕ) → IsDisk config number → ¬ HasFailed (old number) (new number)

-- Nor does the source fail, nor the sink.
pub record NothingFails {D : Type 0} (by : Disks D) (config : Shape) (old new : World D) (sink_old sink_new : Sinking) : Type 0 where
  pub source : ¬ Rose old.read_faults new.read_faults
  pub sink : ¬ Rose sink_old.faults sink_new.faults
  pub disks : AreUnfailing by config old.lain new.lain

-- ---- what comes of it

-- the report of a history with the replies of the log of one thread
abbrev pub ReportsLog : Report → Shape → ℕ → List Item → History → List ℕ → Type 0
ReportsLog Full config run items history bytes = bytes ≡ reply_frames items (log_of config run items) ++ history_spelling history
ReportsLog Brief config run items history bytes = Reports Brief config run items history bytes

-- The run came to its end, and its report was sent.
pub record SendsLog {D : Type 0} (by : Disks D) (config : Shape) (run : ℕ) (report : Report) (items : List Item) (old new : ℕ → Lying D) (sink_old sink_new : Sinking) : Type 0 where
  pub history : History
  pub output : List ℕ
  pub whole : IsWholeRun by config run items history old new
  pub reports : ReportsLog report config run items history output
  pub sent : Appends sink_old.taken sink_new.taken output

-- The run passed a limit, and that was sent.
pub record SendsLimit {D : Type 0} (by : Disks D) (config : Shape) (run : ℕ) (items : List Item) (old new : ℕ → Lying D) (sink_old sink_new : Sinking) : Type 0 where
  pub cause : ℕ
  pub stopped : IsStopped by config run items (Limit cause) old new
  pub sent : Appends sink_old.taken sink_new.taken (fault_spelling (fault_frame 7 cause 0 0))

-- The run ends with the replies of the log, or at a limit that it passes, or for want of memory, and then nothing was sent.
abbrev pub EndsAsLog : {D : Type 0} → Disks D → Shape → ℕ → Report → List Item → (ℕ → Lying D) → (ℕ → Lying D) → Sinking → Sinking → ℕ → Type 0
EndsAsLog by config run report items old new sink_old sink_new status =
    ((status ≡ 0) × SendsLog by config run report items old new sink_old sink_new)
    ⊎ ((status ≡ 7) × SendsLimit by config run items old new sink_old sink_new)
    ⊎ ((status ≡ 9) × Appends sink_old.taken sink_new.taken [])

-- Where nothing fails, items over empty disks are answered as the log of one thread answers them, if none is a line of the fault script.
abbrev pub AnswersAsLog : {D : Type 0} → Disks D → Shape → ℕ → Report → World D → World D → Sinking → Sinking → ℕ → Type 0
AnswersAsLog by config run report old new sink_old sink_new status =
    (items : List Item) → HoldsItems config old.left items → AllByRecursion IsNoFault items → NothingFails by config old new sink_old sink_new
    → EndsAsLog by config run report items old.lain new.lain sink_old sink_new status
