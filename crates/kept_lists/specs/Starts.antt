-- Where the payloads of each disk begin among all that were kept, which are in order of disk.
use Rattle.std.specs.Prelude.{◌≡◌, ℕ, ◌<◌, ◌≤◌, List, length, Some, slice_get, slice_index}
use Rattle.history_frame.specs.declared.events.Kept.{Kept}

-- the payloads before a place are on lower disks
pub record AreBelow (kept : List Kept) (disk place : ℕ) : Type 0 where
  pub within : place ≤ length kept
  pub before : (k : ℕ) (one : Kept) → k < place → slice_get kept k ≡ Some one → one.disk < disk

-- the payloads before a place are on lower disks, and those from it on are not
pub record IsStart (kept : List Kept) (disk place : ℕ) : Type 0 where
  pub below : AreBelow kept disk place
  pub behind : (k : ℕ) (one : Kept) → place ≤ k → slice_get kept k ≡ Some one → disk ≤ one.disk

-- the starts of the disks of the largest cluster, and of one disk more, where they end
abbrev pub AreStarts : List Kept → List ℕ → Type 0
AreStarts kept starts = (disk : ℕ) → disk < 345 → IsStart kept disk (slice_index starts disk)
