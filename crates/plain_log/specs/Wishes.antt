-- The values that items ask for.
use Rattle.std.specs.Prelude.{◌≡◌, ◌≢◌, ◌≤◌, List, Option, Some, None}
use Rattle.std.specs.List.{AllByRecursion}
use Rattle.log_base.specs.declared.numbers.Position.{Position}
use Rattle.log_base.specs.declared.numbers.Shard.{Shard}
use Rattle.record_frame.specs.declared.values.Value.{Value}
use Rattle.record_frame.specs.declared.values.Value.TheVariants.{Add as AddValue, Finalise as FinaliseValue, Trim as TrimValue}
use Rattle.command_frame.specs.declared.items.Item.{Item}
use Rattle.command_frame.specs.declared.items.Item.TheVariants.{Append, Read, Subscribe, Trim, Add, Finalise, Ask, Fault}

-- the value that an item asks for
abbrev pub wished : Item → Option Value
wished (Append lane shard replica bytes) = None
wished (Read lane shard replica position) = None
wished (Subscribe lane shard replica from count) = None
wished (Trim lane position) = Some (TrimValue position)
wished (Add lane shard) = Some (AddValue shard)
wished (Finalise lane shard) = Some (FinaliseValue shard)
wished (Ask lane) = None
wished (Fault lane fault) = None

-- an item is no trim
abbrev pub IsNoTrim : Item → Type 0
IsNoTrim item = (position : Position) → wished item ≢ Some (TrimValue position)

-- an item finalises another shard or none
abbrev pub IsNoFinalise : Shard → Item → Type 0
IsNoFinalise shard item = wished item ≢ Some (FinaliseValue shard)

-- an item is no trim that goes past this position
abbrev pub IsNoTrimPast : Position → Item → Type 0
IsNoTrimPast position item = (below : Position) → wished item ≡ Some (TrimValue below) → below.0 ≤ position.0

-- no item is a trim
abbrev pub NoTrim : List Item → Type 0
NoTrim items = AllByRecursion IsNoTrim items

-- no item finalises this shard
abbrev pub NoFinalise : Shard → List Item → Type 0
NoFinalise shard items = AllByRecursion (IsNoFinalise shard) items

-- no item is a trim that goes past this position
abbrev pub NoTrimPast : Position → List Item → Type 0
NoTrimPast position items = AllByRecursion (IsNoTrimPast position) items
