-- What the fields of a content are together.
use Rattle.std.specs.Prelude.{◌≡◌, ℕ, ◌+◌, ◌*◌, ◌≤◌, List, length, take, Bool, true, false, if◌then◌else◌, vec_capacity}
use Rattle.disk_base.specs.Images.{TornBy}
use Rattle.disk_base.specs.Replay.{Kept, Recorded, fresh, replay, total}
use Rattle.disk_base.specs.declared.content.Step.{Step}
use Rattle.disk_base.specs.declared.content.Content.TheInside.{Inside}

-- the record's state: it begins with the bytes at the first
abbrev pub kept_of : Bool → List ℕ → List ℕ → List Step → List ℕ → Kept
kept_of is_copied first bytes steps written = replay (fresh (if is_copied then first else bytes)) steps written

-- the bytes and the copy of the last sync's are those that the record tells
pub record Tells (is_copied : Bool) (bytes synced : List ℕ) (same_below : ℕ) (kept : Kept) : Type 0 where
  pub seen : kept.seen ≡ bytes
  pub reached : TornBy kept.since kept.synced bytes
  pub copy : is_copied ≡ true → kept.synced ≡ synced
  pub same : is_copied ≡ true → take same_below bytes ≡ take same_below synced
  pub within : same_below ≤ length bytes
  pub within_synced : is_copied ≡ true → same_below ≤ length synced

-- there is room for the writes left, for their bytes, and for the syncs after them
pub record HasRoom (is_copied : Bool) (bytes synced written steps due writes left cap_bytes cap_synced cap_written cap_steps : ℕ) : Type 0 where
  pub for_bytes : bytes + left ≤ cap_bytes
  pub for_synced : is_copied ≡ true → bytes + left ≤ cap_synced
  pub shorter : is_copied ≡ true → synced ≤ bytes
  pub for_written : written + left ≤ cap_written
  pub for_steps : steps + 2 * writes + due ≤ cap_steps
  pub none : is_copied ≡ false → writes + left + steps + written + due ≡ 0

-- a sync is due exactly where something was written since the last
pub record IsDue (due : ℕ) (since : ℕ) : Type 0 where
  pub most : due ≤ 1
  pub clean : due ≡ 0 → since ≡ 0
  pub dirty : 1 ≤ due → 1 ≤ since

-- all of it, over the fields one by one
pub record InOrder (is_copied : Bool) (first bytes synced written : List ℕ) (steps : List Step) (same_below due writes left cap_bytes cap_synced cap_written cap_steps : ℕ) : Type 0 where
  pub tells : Tells is_copied bytes synced same_below (kept_of is_copied first bytes steps written)
  pub counted : total steps ≡ length written
  pub room : HasRoom is_copied (length bytes) (length synced) (length written) (length steps) due writes left cap_bytes cap_synced cap_written cap_steps
  pub is_due : IsDue due (length (kept_of is_copied first bytes steps written).since)

-- what clauses see of a content
abbrev pub recorded : Inside → Recorded
recorded s = record {
  kept = kept_of s.is_copied s.first.items s.bytes.items s.steps.items s.written.items;
  writes_left = s.writes_left;
  bytes_left = s.bytes_left;
}

abbrev pub IsInOrder : Inside → Type 0
IsInOrder s = InOrder s.is_copied s.first.items s.bytes.items s.synced.items s.written.items s.steps.items s.same_below s.syncs_due s.writes_left s.bytes_left
    (vec_capacity s.bytes) (vec_capacity s.synced) (vec_capacity s.written) (vec_capacity s.steps)
