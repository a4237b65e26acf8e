-- Why a cluster is not open, and how its disks lie there then.
use Rattle.std.specs.Prelude.{ℕ, List}
use Rattle.std.specs.List.{AllByRecursion}
use Rattle.history_frame.specs.declared.events.Kept.{Kept}
use Rattle.log_base.specs.ClusterShape.{Shape}
use Rattle.node_model.specs.Sound.{payloads_on}
use Rattle.cluster_disks.specs.declared.stop.OpenStop.{OpenStop}
use Rattle.cluster_disks.specs.declared.stop.OpenStop.TheVariants.{Unopened, BadDisk, TooManyKept, Memory}
use Rattle.cluster_disks.specs.Found.{AreHeld, AreRecovered, Rejects}
use Rattle.cluster_disks.specs.Lent.{Disks, IsDisk, Lying}
use Rattle.cluster_disks.specs.Opened.{AreAlike, AreWholeBelow, HasFailed, IsDamagedAt}

-- A disk could not be opened: the rack failed or the disk. Those of smaller numbers are whole, and all came back.
pub record IsUnopened {D : Type 0} (by : Disks D) (config : Shape) (number : ℕ) (old new : ℕ → Lying D) : Type 0 where
  pub number_is : IsDisk config number
  pub cause : HasFailed (old number) (new number)
  pub below : AreWholeBelow by config number old
  pub alike : AreAlike by config old new

-- A disk is damaged at this place, and those of smaller numbers are whole. All came back.
pub record IsDamaged {D : Type 0} (by : Disks D) (config : Shape) (number at : ℕ) (old new : ℕ → Lying D) : Type 0 where
  pub number_is : IsDisk config number
  pub damage : IsDamagedAt by (old number) at
  pub below : AreWholeBelow by config number old
  pub alike : AreAlike by config old new

-- why not all disks are open
abbrev pub OpensNot : {D : Type 0} → Disks D → Shape → (ℕ → Lying D) → (ℕ → Lying D) → OpenStop → Type 0
OpensNot by config old new (Unopened disk) = IsUnopened by config disk old new
OpensNot by config old new (BadDisk disk at) = IsDamaged by config disk at old new
OpensNot by config old new TooManyKept = ⊥
OpensNot by config old new Memory = AreAlike by config old new

-- All disks were opened, and a run may not begin with their lists, or memory ran out. They lie there again with these lists.
pub record IsRejected {D : Type 0} (by : Disks D) (config : Shape) (run : ℕ) (fault : OpenStop) (old new : ℕ → Lying D) : Type 0 where
  pub kept : List Kept
  pub on_disks : AllByRecursion (λ (one : Kept). IsDisk config one.disk) kept
  pub found : AreRecovered by config (payloads_on kept) old
  pub held : AreHeld by config (payloads_on kept) new
  pub rejects : Rejects config run kept fault
