-- Places, and runs of places that follow each other in one segment.
use Rattle.std.specs.Prelude.{ℕ, zero, suc, List, [], ◌∷◌, Bool, ◌==◌, ◌&&◌}
use Rattle.log_base.specs.declared.numbers.Place.{Place}

-- the place of an offset in a segment of a shard
abbrev pub place_at : ℕ → ℕ → ℕ → Place
place_at shard segment offset =
    record { shard = record { 0 = shard }; segment = record { 0 = segment }; offset = offset }

-- the places of so many offsets of a segment, from one on
abbrev pub places_from : ℕ → ℕ → ℕ → ℕ → List Place
places_from shard segment offset zero = []
places_from shard segment offset (suc count) = place_at shard segment offset ∷ places_from shard segment (suc offset) count

-- whether two places are one
abbrev pub is_same_place : Place → Place → Bool
is_same_place a b = (a.shard.0 == b.shard.0) && (a.segment.0 == b.segment.0) && (a.offset == b.offset)

-- whether a place is in a segment of a shard
abbrev pub is_in : ℕ → ℕ → Place → Bool
is_in shard segment place = (place.shard.0 == shard) && (place.segment.0 == segment)
