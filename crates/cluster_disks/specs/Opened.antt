-- What opening disks finds, and how they come back.
use Rattle.std.specs.Prelude.{◌≡◌, ◌⊎◌, ℕ, ◌<◌, ◌≤◌, length, List, Option, Some, IfSome, IsTrue, Ok, Err, slice_get}
use Rattle.log_base.specs.ClusterShape.{Shape}
use Rattle.log_base.specs.Outside.{Rose}
use Rattle.log_base.specs.Wide.{IsBytes}
use Rattle.node_table.specs.Numbering.{disk_of, nodes_of}
use Rattle.segment_journal.specs.declared.journal.OpenFault.{OpenFault}
use Rattle.segment_journal.specs.declared.journal.OpenFault.TheVariants.{Failed, Damaged, Memory as NoMemory}
use Rattle.segment_journal.specs.File.{recovered}
use Rattle.segment_journal.specs.Journalled.{loaded}
use Rattle.segment_journal.specs.Kept.{AlikeImages, RecoversKept}
use Rattle.segment_journal.specs.OnDisk.{OnDisk}
use Rattle.cluster_disks.specs.declared.stop.OpenStop.{OpenStop}
use Rattle.cluster_disks.specs.declared.stop.OpenStop.TheVariants.{Unopened, BadDisk, TooManyKept, Memory}
use Rattle.cluster_disks.specs.Lent.{Disks, IsDisk, IsLater, Lying, disks_at}

-- ---- what a disk holds

-- the bytes of what lies there, where they are told, are such
abbrev pub Tells : {D : Type 0} → Disks D → Lying D → (List ℕ → Type 0) → Type 0
Tells by lying Are = IfSome lying.disk (λ disk. IfSome (by.reads disk) Are)

-- they recover to this list
abbrev pub Recovers : {D : Type 0} → Disks D → Lying D → List (List ℕ) → Type 0
Recovers by lying list = Tells by lying (λ bytes. recovered bytes ≡ Ok list)

-- they recover to some list
abbrev pub IsWhole : {D : Type 0} → Disks D → Lying D → Type 0
IsWhole by lying = Tells by lying (λ bytes. (list : List (List ℕ)) × (recovered bytes ≡ Ok list))

-- they are damaged at this place
abbrev pub IsDamagedAt : {D : Type 0} → Disks D → Lying D → ℕ → Type 0
IsDamagedAt by lying at = Tells by lying (λ bytes. recovered bytes ≡ Err at)

-- each image, which is bytes, recovers to this list, or to it with the payload of a put that failed
abbrev pub KeepsList : List (List ℕ) → Option (List ℕ) → (List ℕ → Type 0) → Type 0
KeepsList list flight images = (c : List ℕ) → images c → IsBytes c → RecoversKept list flight c

-- ---- opening

-- each image recovers as one of these does
abbrev pub RecoverAlike : (List ℕ → Type 0) → (List ℕ → Type 0) → Type 0
RecoverAlike before images = (c : List ℕ) → images c → AlikeImages before c

-- A disk is opened. Its journal has what the bytes recover to, and nothing else was put on it.
pub record IsOpened {D : Type 0} (by : Disks D) (old : Lying D) (journal : OnDisk D) : Type 0 where
  pub fresh : journal.journal ≡ loaded journal.journal.payloads
  pub list : Recovers by old journal.journal.payloads
  pub count : old.disk_faults ≤ by.faults journal.disk
  pub keeps : IfSome old.disk (λ before. by.keeps_synced journal.disk ≡ by.keeps_synced before)
  pub images : IfSome old.disk (λ before. IsTrue (by.keeps_synced before) → RecoverAlike (by.may_leave before) (by.may_leave journal.disk))

-- the disks of a node's first segments are open
abbrev pub AreOpened : {D : Type 0} → Disks D → ℕ → (ℕ → Lying D) → List (OnDisk D) → Type 0
AreOpened {D = D} by node lain journals = (segment : ℕ) (journal : OnDisk D) → slice_get journals segment ≡ Some journal
    → IsOpened by (lain (disk_of node segment)) journal

-- The disks of all nodes of a cluster are open, in order of their numbers.
pub record AreAllOpened {D : Type 0} (by : Disks D) (config : Shape) (lain : ℕ → Lying D) (nodes : List (List (OnDisk D))) : Type 0 where
  pub all : length nodes ≡ nodes_of config
  pub counts : (node : ℕ) (journals : List (OnDisk D)) → slice_get nodes node ≡ Some journals → length journals ≡ disks_at config node
  pub each : (node : ℕ) (journals : List (OnDisk D)) → slice_get nodes node ≡ Some journals → AreOpened by node lain journals

-- the rack failed, or the disk
abbrev pub HasFailed : {D : Type 0} → Lying D → Lying D → Type 0
HasFailed old new = Rose old.rack_faults new.rack_faults ⊎ Rose old.disk_faults new.disk_faults

-- the disks of smaller numbers recover to some lists
abbrev pub AreWholeBelow : {D : Type 0} → Disks D → Shape → ℕ → (ℕ → Lying D) → Type 0
AreWholeBelow by config number lain = (lower : ℕ) → lower < number → IsDisk config lower → IsWhole by (lain lower)

-- ---- coming back

-- what lies there recovers as what lay there does, where this keeps synced bytes
abbrev pub IsAlike : {D : Type 0} → Disks D → Lying D → Lying D → Type 0
IsAlike by old new = IfSome old.disk (λ before. IfSome new.disk (λ disk. IsTrue (by.keeps_synced before) → RecoverAlike (by.may_leave before) (by.may_leave disk)))

abbrev pub AreAlike : {D : Type 0} → Disks D → Shape → (ℕ → Lying D) → (ℕ → Lying D) → Type 0
AreAlike by config old new = (number : ℕ) → IsDisk config number → IsAlike by (old number) (new number)

-- It came back with nothing on it that was not there, and no count fell.
pub record IsReturned {D : Type 0} (by : Disks D) (old new : Lying D) : Type 0 where
  pub alike : IsAlike by old new
  pub later : IsLater by old new

-- A disk lies there again, and keeps the list that its journal had.
pub record IsGivenBack {D : Type 0} (by : Disks D) (journal : OnDisk D) (new : Lying D) : Type 0 where
  pub count : new.disk_faults ≡ by.faults journal.disk
  pub keeps : IfSome new.disk (λ disk. by.keeps_synced disk ≡ by.keeps_synced journal.disk)
  pub list : IfSome new.disk (λ disk. IsTrue (by.keeps_synced disk) → KeepsList journal.journal.payloads journal.journal.flight (by.may_leave disk))
  pub images : IfSome new.disk (λ disk. (c : List ℕ) → by.may_leave disk c → by.may_leave journal.disk c)

-- ---- why disks are not open

-- why a disk is not open: it failed, it is damaged, or memory ran out
abbrev pub FailsToOpen : {D : Type 0} → Disks D → ℕ → Lying D → Lying D → OpenStop → Type 0
FailsToOpen by number old new (Unopened disk) = (disk ≡ number) × HasFailed old new
FailsToOpen by number old new (BadDisk disk at) = (disk ≡ number) × IsDamagedAt by old at
FailsToOpen by number old new TooManyKept = ⊥
FailsToOpen by number old new Memory = Unit {0}

-- why a disk whose journal could not be read is not open
abbrev pub unopened_as : ℕ → OpenFault → OpenStop
unopened_as disk Failed = Unopened disk
unopened_as disk (Damaged at) = BadDisk disk at
unopened_as disk NoMemory = Memory

-- one of these disks is not open, and those of them with smaller numbers are whole
pub record FailsAt {D : Type 0} (by : Disks D) (Among : ℕ → Type 0) (old new : ℕ → Lying D) (fault : OpenStop) : Type 0 where
  pub number : ℕ
  pub among : Among number
  pub fails : FailsToOpen by number (old number) (new number) fault
  pub below : (lower : ℕ) → lower < number → Among lower → IsWhole by (old lower)

-- why not all of these disks are open
abbrev pub FailsAmong : {D : Type 0} → Disks D → (ℕ → Type 0) → (ℕ → Lying D) → (ℕ → Lying D) → OpenStop → Type 0
FailsAmong by Among old new fault = (fault ≡ Memory) ⊎ FailsAt by Among old new fault

-- no count of a disk of the cluster fell
abbrev pub AreLater : {D : Type 0} → Disks D → Shape → (ℕ → Lying D) → (ℕ → Lying D) → Type 0
AreLater by config old new = (number : ℕ) → IsDisk config number → IsLater by (old number) (new number)

-- these disks came back
abbrev pub AreReturned : {D : Type 0} → Disks D → (ℕ → Type 0) → (ℕ → Lying D) → (ℕ → Lying D) → Type 0
AreReturned by Among old new = (number : ℕ) → Among number → IsReturned by (old number) (new number)

-- it is the disk of one of the journals of some nodes
pub record IsDiskIn {D : Type 0} (nodes : List (List (OnDisk D))) (number : ℕ) : Type 0 where
  pub node : ℕ
  pub segment : ℕ
  pub journals : List (OnDisk D)
  pub at : slice_get nodes node ≡ Some journals
  pub within : segment < length journals
  pub number_is : number ≡ disk_of node segment

-- the disks of a node's journals, and those of some nodes, lie there again
abbrev pub AreGivenBack : {D : Type 0} → Disks D → ℕ → List (OnDisk D) → (ℕ → Lying D) → Type 0
AreGivenBack {D = D} by node journals lain = (segment : ℕ) (journal : OnDisk D) → slice_get journals segment ≡ Some journal
    → IsGivenBack by journal (lain (disk_of node segment))

abbrev pub AreAllGivenBack : {D : Type 0} → Disks D → List (List (OnDisk D)) → (ℕ → Lying D) → Type 0
AreAllGivenBack {D = D} by nodes lain = (node : ℕ) (journals : List (OnDisk D)) → slice_get nodes node ≡ Some journals
    → AreGivenBack by node journals lain

-- each of some nodes has at most eight journals
abbrev pub AreSmall : {D : Type 0} → List (List (OnDisk D)) → Type 0
AreSmall {D = D} nodes = (node : ℕ) (journals : List (OnDisk D)) → slice_get nodes node ≡ Some journals → length journals ≤ 8

-- each journal of some nodes has a list that was read, and nothing else
abbrev pub AreFresh : {D : Type 0} → List (List (OnDisk D)) → Type 0
AreFresh {D = D} nodes = (node segment : ℕ) (journals : List (OnDisk D)) (journal : OnDisk D) → slice_get nodes node ≡ Some journals
    → slice_get journals segment ≡ Some journal → journal.journal ≡ loaded journal.journal.payloads
