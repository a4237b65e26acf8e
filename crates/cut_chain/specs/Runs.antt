-- Runs of places, and the places of a list of runs.
use Rattle.std.specs.Prelude.{ℕ, ◌+◌, ◌-◌, ◌<◌, ◌≤◌, List, [], ◌∷◌, ◌++◌, ◌&&◌, ◌==◌, nat_le, nat_lt, if◌then◌else◌, Option, Some, None}
use Rattle.std.specs.List.{Contains}
use Rattle.log_base.specs.declared.numbers.Place.{Place}
use Rattle.log_base.specs.declared.numbers.Position.{Position}
use Rattle.log_model.specs.Places.{place_at, places_from}
use Rattle.cut_chain.specs.declared.runs.Run.{Run}

-- the places of a run
abbrev pub run_places : Run → List Place
run_places run = places_from run.shard.0 run.segment.0 run.first run.count

-- the places of runs, one after another
abbrev pub places_of : List Run → List Place
places_of [] = []
places_of (run ∷ runs) = run_places run ++ places_of runs

-- no place of the run is there
abbrev pub IsFresh : List Place → Run → Type 0
IsFresh places run =
    (offset : ℕ) → run.first ≤ offset → offset < run.first + run.count → ¬ Contains places (place_at run.shard.0 run.segment.0 offset)

-- the index of a place in a run, where it is there
abbrev pub offset_in : Run → Place → Option ℕ
offset_in run place =
    if (place.shard.0 == run.shard.0) && (place.segment.0 == run.segment.0) && nat_le run.first place.offset && nat_lt (place.offset - run.first) run.count
    then Some (place.offset - run.first) else None

-- a number as a position
abbrev pub to_position : ℕ → Position
to_position n = record { 0 = n }
