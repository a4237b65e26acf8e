-- What journals in memory may keep.
use Rattle.std.specs.Prelude.{◌≡◌, ℕ, ◌<◌, ◌≤◌, List, length, take, Some, slice_get}
use Rattle.history_frame.specs.declared.events.Kept.{Kept}
use Rattle.node_model.specs.Sound.{payloads_on}

-- a payload is on one of so many disks and not too long, and its list is not too long
pub record IsShort (count : ℕ) (kept : List Kept) (index : ℕ) (one : Kept) : Type 0 where
  pub disk : one.disk < count
  pub size : length one.payload ≤ 131072
  pub few : length (payloads_on (take index kept) one.disk) < 16777216

abbrev pub AreShort : ℕ → List Kept → Type 0
AreShort count kept = (index : ℕ) (one : Kept) → slice_get kept index ≡ Some one → IsShort count kept index one
