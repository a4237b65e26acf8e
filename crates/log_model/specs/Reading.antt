-- What a replica answers when it is asked for the entry at a position.
use Rattle.std.specs.Prelude.{ℕ, List, ◌==◌, nat_lt, if◌then◌else◌, Option, Some, None, slice_get}
use Rattle.log_base.specs.declared.numbers.Place.{Place}
use Rattle.record_frame.specs.declared.entries.Entry.{Entry}
use Rattle.log_model.specs.Storage.{Member, Knowledge, list_in}

pub data ReadAnswer : Type 0 where
  Found : (entry : Entry) → ReadAnswer
  Trimmed : (mark : ℕ) → ReadAnswer
  Pending : (end : ℕ) → ReadAnswer
  Elsewhere : (shard : ℕ) → ReadAnswer

-- The entry at a place of this shard. A replica holds it where it holds what is covered; else it is not there yet.
abbrev pub read_entry : ℕ → Option Entry → ReadAnswer
read_entry end (Some entry) = Found entry
read_entry end None = Pending end

-- a position has a place exactly where it is before the end
abbrev pub read_place : Member → List (List Entry) → ℕ → Option Place → ReadAnswer
read_place member lists end None = Pending end
read_place member lists end (Some place) =
    if place.shard.0 == member.shard then read_entry end (slice_get (list_in lists place.segment.0) place.offset)
    else Elsewhere place.shard.0

-- The first that fits: the position is below the mark, it is at or past the end, its place is in another shard, or the
-- entry is found.
unfoldable pub read : Member → List (List Entry) → Knowledge → ℕ → ReadAnswer
read member lists known position =
    if nat_lt position known.chain.mark then Trimmed known.chain.mark
    else read_place member lists known.chain.end (slice_get known.places position)
