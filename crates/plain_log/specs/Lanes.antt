-- The appends of a lane.
use Rattle.std.specs.Prelude.{⊤, ℕ, ◌≢◌, List}
use Rattle.std.specs.List.{AllByRecursion}
use Rattle.command_frame.specs.declared.items.Item.{Item}
use Rattle.command_frame.specs.declared.items.Item.TheVariants.{Append}

-- an item is no append of this lane
abbrev pub IsNoAppendOf : ℕ → Item → Type 0
IsNoAppendOf lane (Append own shard replica bytes) = own ≢ lane
IsNoAppendOf lane item = ⊤

-- no item is an append of this lane
abbrev pub NoAppendOf : ℕ → List Item → Type 0
NoAppendOf lane items = AllByRecursion (IsNoAppendOf lane) items
