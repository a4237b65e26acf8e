-- Where nothing fails, a cluster serves all items over disks that it may begin with.
use Rattle.std.specs.Prelude.{◌≡◌, ◌⊎◌, ℕ, ◌≤◌, List, [], IsSomeAnd, Ok}
use Rattle.std.specs.Io.KnownBytes.{Appends}
use Rattle.std.specs.List.{AllByRecursion}
use Rattle.command_frame.specs.declared.items.Item.{Item}
use Rattle.command_frame.specs.Items.{IsNoFault}
use Rattle.history_frame.specs.declared.events.Kept.{Kept}
use Rattle.log_base.specs.ClusterShape.{Shape}
use Rattle.log_base.specs.Outside.{Rose}
use Rattle.node_model.specs.Sound.{IsSound, payloads_on}
use Rattle.segment_journal.specs.File.{recovered}
use Rattle.cluster_disks.specs.Found.{bytes_in, kept_limit}
use Rattle.cluster_disks.specs.Lent.{Disks, IsDisk, Lying}
use Rattle.cluster_disks.specs.Opened.{HasFailed}
use Rattle.quiet_run.specs.declared.outcomes.DriveStop.TheVariants.{Limit}
use Rattle.scalog_run.specs.Output.{Sinking, fault_frame, fault_spelling}
use Rattle.scalog_run.specs.Quiet.{HoldsItems}
use Rattle.scalog_run.specs.Run.{World}
use Rattle.scalog_run.specs.Served.{IsHaltedOver, IsServedOutput}

-- ---- what is given

-- the disk is told, and recovers to this list
abbrev pub HoldsList : {D : Type 0} → Disks D → Lying D → List (List ℕ) → Type 0
HoldsList by lying list = IsSomeAnd lying.disk (λ disk. IsSomeAnd (by.reads disk) (λ bytes. recovered bytes ≡ Ok list))

-- The disks of the cluster hold lists that are sound, within the limit on their bytes.
pub record MayBegin {D : Type 0} (by : Disks D) (config : Shape) (run : ℕ) (lain : ℕ → Lying D) : Type 0 where
  pub kept : List Kept
  pub on_disks : AllByRecursion (λ (one : Kept). IsDisk config one.disk) kept
  pub hold : (number : ℕ) → IsDisk config number → HoldsList by (lain number) (payloads_on kept number)
  pub sound : IsSound config run (payloads_on kept)
  pub few : bytes_in kept ≤ kept_limit

-- Neither the source fails, nor the sink, nor the rack, nor a disk.
pub record NoneFails {D : Type 0} (config : Shape) (old new : World D) (sink_old sink_new : Sinking) : Type 0 where
  pub source : ¬ Rose old.read_faults new.read_faults
  pub sink : ¬ Rose sink_old.faults sink_new.faults
  pub disks : (number : ℕ) → IsDisk config number → ¬ HasFailed (old.lain number) (new.lain number)

-- ---- what comes of it

-- All items were served, and the output was sent.
pub record SendsServed {D : Type 0} (by : Disks D) (config : Shape) (run : ℕ) (items : List Item) (workers : ℕ) (old new : ℕ → Lying D) (sink_old sink_new : Sinking) : Type 0 where
  pub output : List ℕ
  pub served : IsServedOutput by config run items workers output old new
  pub sent : Appends sink_old.taken sink_new.taken output

-- A node knew as many values as there may be, and that was sent.
pub record SendsFull {D : Type 0} (by : Disks D) (config : Shape) (run : ℕ) (old new : ℕ → Lying D) (sink_old sink_new : Sinking) : Type 0 where
  pub halted : IsHaltedOver by config run (Limit 4) old new
  pub sent : Appends sink_old.taken sink_new.taken (fault_spelling (fault_frame 7 4 0 0))

-- The items are served, or a node knows as many values as there may be, or memory runs out, and then nothing was sent.
abbrev pub EndsServed : {D : Type 0} → Disks D → Shape → ℕ → List Item → ℕ → (ℕ → Lying D) → (ℕ → Lying D) → Sinking → Sinking → ℕ → Type 0
EndsServed by config run items workers old new sink_old sink_new status =
    ((status ≡ 0) × SendsServed by config run items workers old new sink_old sink_new)
    ⊎ ((status ≡ 7) × SendsFull by config run old new sink_old sink_new)
    ⊎ ((status ≡ 9) × Appends sink_old.taken sink_new.taken [])

-- So ends a cluster where nothing fails, over items none of which is a line of the fault script, and disks that it may begin with.
abbrev pub ServesAll : {D : Type 0} → Disks D → Shape → ℕ → ℕ → World D → World D → Sinking → Sinking → ℕ → Type 0
ServesAll by config run workers old new sink_old sink_new status =
    (items : List Item) → HoldsItems config old.left items → AllByRecursion IsNoFault items → MayBegin by config run old.lain
    → NoneFails config old new sink_old sink_new → EndsServed by config run items workers old.lain new.lain sink_old sink_new status
