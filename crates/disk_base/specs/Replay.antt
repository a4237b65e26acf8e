-- What the record of a disk in memory tells: its bytes now and at each sync, and the ranges written between.
use Rattle.std.specs.Prelude.{◌≡◌, ◌⊎◌, ℕ, ◌+◌, ◌-◌, List, [], ◌∷◌, ◌++◌, length, take, drop, true, false}
use mathlib.Core.Logic.{inl, inr}
use Rattle.disk_base.specs.Images.{Range, TornBy, overwritten}
use Rattle.disk_base.specs.declared.content.Step.{Step}
use Rattle.disk_base.specs.declared.content.Step.TheVariants.{Wrote, Synced}

-- the bytes at a sync, and the ranges written from it to the next one
pub record Interval : Type 0 where
  pub synced : List ℕ
  pub since : List Range

-- The intervals between past syncs, the last sync's bytes, the ranges written since, and the bytes as they read.
pub record Kept : Type 0 where
  pub past : List Interval
  pub synced : List ℕ
  pub since : List Range
  pub seen : List ℕ

-- bytes that count as synced, with nothing written
abbrev pub fresh : List ℕ → Kept
fresh bytes = record { past = []; synced = bytes; since = []; seen = bytes }

-- after a write
abbrev pub wrote : Kept → ℕ → List ℕ → Kept
wrote kept at bytes = record {
  past = kept.past;
  synced = kept.synced;
  since = kept.since ++ record { at = at; count = length bytes } ∷ [];
  seen = overwritten kept.seen at bytes;
}

-- after a write with which all bytes since the last sync went back
abbrev pub went_back : Kept → ℕ → List ℕ → Kept
went_back kept at bytes = record {
  past = kept.past;
  synced = kept.synced;
  since = kept.since ++ record { at = at; count = length bytes } ∷ [];
  seen = kept.synced;
}

-- after a sync that follows a write
abbrev pub synced_now : Kept → Kept
synced_now kept = record { past = kept.past ++ record { synced = kept.synced; since = kept.since } ∷ []; synced = kept.seen; since = []; seen = kept.seen }

-- after a sync: where nothing was written since the last one, nothing changes
abbrev pub sync_of : Kept → List Range → Kept
sync_of kept [] = kept
sync_of kept (first ∷ since) = synced_now kept

abbrev pub after_sync : Kept → Kept
after_sync kept = sync_of kept kept.since

-- after one step of the record, with the bytes that it wrote
abbrev pub after_step : Kept → Step → List ℕ → Kept
after_step kept (Wrote at count false) bytes = wrote kept at bytes
after_step kept (Wrote at count true) bytes = went_back kept at bytes
after_step kept Synced bytes = synced_now kept

-- how many bytes a step wrote
abbrev pub count_of : Step → ℕ
count_of (Wrote at count lost) = count
count_of Synced = 0

-- after all steps of the record, whose bytes stand in one list
abbrev pub replay : Kept → List Step → List ℕ → Kept
replay kept [] written = kept
replay kept (step ∷ steps) written =
    replay (after_step kept step (take (count_of step) written)) steps (drop (count_of step) written)

-- how many bytes the steps wrote
abbrev pub total : List Step → ℕ
total [] = 0
total (step ∷ steps) = count_of step + total steps

-- what a crash now may leave: the bytes as they read, or those of the last sync torn by the writes since
abbrev pub MayLeave : Kept → List ℕ → Type 0
MayLeave kept c = (c ≡ kept.seen) ⊎ TornBy kept.since kept.synced c

-- a crash in one of these intervals might have left this
abbrev pub HadLeft : List Interval → List ℕ → Type 0
HadLeft [] c = ⊥
HadLeft (interval ∷ past) c = TornBy interval.since interval.synced c ⊎ HadLeft past c

-- what a crash might have left since the interval of this number
abbrev pub LeftSince : Kept → ℕ → List ℕ → Type 0
LeftSince kept t c = MayLeave kept c ⊎ HadLeft (drop t kept.past) c

-- a kept state with the room for writes and for their bytes
pub record Recorded : Type 0 where
  pub kept : Kept
  pub writes_left : ℕ
  pub bytes_left : ℕ

-- bytes that count as synced, with no write and no room
abbrev pub unwritten : List ℕ → Recorded
unwritten bytes = record { kept = fresh bytes; writes_left = 0; bytes_left = 0 }

-- the room after a write of n bytes, whatever it kept
abbrev pub taken_up : Recorded → Kept → ℕ → Recorded
taken_up old kept n = record { kept = kept; writes_left = old.writes_left - 1; bytes_left = old.bytes_left - n }

-- Since the present interval there is no other.
none_left : (past : List Interval) (c : List ℕ) → HadLeft (drop (length past) past) c → ⊥
none_left [] c had = had
none_left (interval ∷ past) c had = none_left past c had

pub only_now : (kept : Kept) (c : List ℕ) → LeftSince kept (length kept.past) c → MayLeave kept c
only_now kept c (inl now) = now
only_now kept c (inr had) = absurd (none_left kept.past c had)
