-- What a plain list of runs keeps true, so that its places have positions of 64 bits.
use Rattle.std.specs.Prelude.{◌≡◌, ℕ, ◌+◌, ◌*◌, ◌^◌, ◌<◌, ◌≤◌, ◌==◌, List, length, map}
use Rattle.std.specs.List.{All, AllByRecursion, IsDistinct}
use Rattle.log_base.specs.declared.numbers.Place.{Place}
use Rattle.cut_chain.specs.declared.runs.Run.{Run}
use Rattle.cut_chain.specs.Runs.{places_of}

-- what contracts see of a list of runs: its places, and for how many more runs it has room
pub record Walked : Type 0 where
  pub places : List Place
  pub room : ℕ

-- the place is one that numbers of their width can name, with an offset below 16,384
pub record IsInWidth (place : Place) : Type 0 where
  pub shard : place.shard.0 < 2 ^ 16
  pub segment : place.segment.0 < 2 ^ 8
  pub offset : place.offset < 16384

-- places as numbers: places in width differ where their numbers do
abbrev pub place_number : Place → ℕ
place_number place = (place.shard.0 * 256 + place.segment.0) * 16384 + place.offset

-- the run ends at offset 16,384 at the latest
abbrev pub Ends : Run → Type 0
Ends run = run.first + run.count ≤ 16384

-- each run ends in time, and the places are in width and differ
pub record IsWalk (runs : List Run) : Type 0 where
  pub ends : All Ends runs
  pub in_width : AllByRecursion IsInWidth (places_of runs)
  pub apart : IsDistinct (λ a b. a == b) (map place_number (places_of runs))

-- such runs, and how many places they have
pub record IsCounted (runs : List Run) (total : ℕ) : Type 0 where
  pub walk : IsWalk runs
  pub total_is : total ≡ length (places_of runs)
