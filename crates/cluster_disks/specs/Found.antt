-- What the disks of a cluster keep, and which of it a run may not begin with.
use Rattle.std.specs.Prelude.{◌≡◌, ◌⊎◌, ℕ, suc, ◌+◌, ◌<◌, ◌≤◌, List, [], ◌∷◌, ◌++◌, length, map, take, sum_by, None, Some, IfSome, IsTrue, slice_get}
use Rattle.std.specs.List.{AllByRecursion}
use Rattle.history_frame.specs.declared.events.Kept.{Kept}
use Rattle.history_frame.specs.Spelling.{IsKept}
use Rattle.log_base.specs.ClusterShape.{Shape}
use Rattle.node_model.specs.NodeState.{KeptLists}
use Rattle.node_model.specs.Sound.{BreaksFirst, payloads_on}
use Rattle.node_table.specs.Numbering.{disk_of}
use Rattle.segment_journal.specs.File.{place_of}
use Rattle.segment_journal.specs.OnDisk.{OnDisk}
use Rattle.cluster_disks.specs.declared.stop.OpenStop.{OpenStop}
use Rattle.cluster_disks.specs.declared.stop.OpenStop.TheVariants.{Unopened, BadDisk, TooManyKept, Memory}
use Rattle.cluster_disks.specs.Lent.{Disks, IsDisk, Lying}
use Rattle.cluster_disks.specs.Opened.{KeepsList, Recovers}

-- the disks of a cluster recover to these lists
abbrev pub AreRecovered : {D : Type 0} → Disks D → Shape → KeptLists → (ℕ → Lying D) → Type 0
AreRecovered by config kept lain = (number : ℕ) → IsDisk config number → Recovers by (lain number) (kept number)

-- whatever a crash may leave of the disks that lie there, where they keep synced bytes, recovers to these lists
abbrev pub AreHeld : {D : Type 0} → Disks D → Shape → KeptLists → (ℕ → Lying D) → Type 0
AreHeld by config kept lain = (number : ℕ) → IsDisk config number
    → IfSome (lain number).disk (λ disk. IsTrue (by.keeps_synced disk) → KeepsList (kept number) None (by.may_leave disk))

-- ---- all payloads

-- the payloads of a disk, each behind the disk's number
abbrev pub kept_on : ℕ → List (List ℕ) → List Kept
kept_on disk payloads = map (λ (payload : List ℕ). record { disk = disk; payload = payload }) payloads

-- those of a node's disks, from one on
abbrev pub kept_from : {D : Type 0} → ℕ → List (OnDisk D) → List Kept
kept_from disk [] = []
kept_from disk (journal ∷ journals) = kept_on disk journal.journal.payloads ++ kept_from (suc disk) journals

-- those of all nodes, from one on
abbrev pub kept_in : {D : Type 0} → ℕ → List (List (OnDisk D)) → List Kept
kept_in node [] = []
kept_in node (journals ∷ others) = kept_from (disk_of node 0) journals ++ kept_in (suc node) others

-- how many bytes payloads have together, and how many they may have
abbrev pub bytes_in : List Kept → ℕ
bytes_in kept = sum_by (λ (one : Kept). length one.payload) kept

abbrev pub kept_limit : ℕ
kept_limit = 268435456

-- payloads were taken in behind others, which have so many bytes
pub record TakesIn (kept : List Kept) (bytes more : ℕ) (old new : List Kept) : Type 0 where
  pub items : new ≡ old ++ kept
  pub count : more ≡ bytes + bytes_in kept
  pub few : more ≤ kept_limit
  pub fit : AllByRecursion IsKept kept

-- why not: they are too many bytes together, or memory ran out
abbrev pub TakesNot : List Kept → ℕ → OpenStop → Type 0
TakesNot kept bytes fault = (fault ≡ Memory) ⊎ ((fault ≡ TooManyKept) × (kept_limit < bytes + bytes_in kept))

-- ---- what may not begin a run

-- the place on its disk at which the gate of a payload stands
abbrev pub gate_of : List Kept → ℕ → Kept → ℕ
gate_of kept index one = place_of (payloads_on kept one.disk) (length (payloads_on (take index kept) one.disk))

-- The first payload that breaks soundness is on this disk, and its gate stands at this place there.
pub record BreaksAt (config : Shape) (run : ℕ) (kept : List Kept) (disk at : ℕ) : Type 0 where
  pub index : ℕ
  pub one : Kept
  pub breaks : BreaksFirst config run kept index
  pub here : slice_get kept index ≡ Some one
  pub disk_is : disk ≡ one.disk
  pub at_is : at ≡ gate_of kept index one

-- why a run may not begin with such lists; too many bytes go before a payload that breaks soundness
abbrev pub Rejects : Shape → ℕ → List Kept → OpenStop → Type 0
Rejects config run kept (Unopened disk) = ⊥
Rejects config run kept (BadDisk disk at) = (bytes_in kept ≤ kept_limit) × BreaksAt config run kept disk at
Rejects config run kept TooManyKept = kept_limit < bytes_in kept
Rejects config run kept Memory = Unit {0}
