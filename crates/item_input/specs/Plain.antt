-- How an input reads where no item may be a line of the fault script.
use Rattle.std.specs.Prelude.{◌≡◌, ◌⊎◌, ℕ, List, ◌++◌, length, IfSome, Option, None}
use Rattle.std.specs.Io.KnownBytes.{Consumes, IsAtEnd}
use Rattle.std.specs.List.{flat_map, AllByRecursion}
use Rattle.log_base.specs.ClusterShape.{Shape}
use Rattle.log_base.specs.Outside.{TakesOn}
use Rattle.command_frame.specs.declared.items.Item.{Item}
use Rattle.command_frame.specs.Items.{Counts, counted, passed_limit, item_spelling, IsItem, IsNoFault}
use Rattle.reply_frame.specs.declared.faults.ItemFault.{ItemFault}
use Rattle.reply_frame.specs.declared.faults.ItemFault.TheVariants.{Bad, Read, Many, Memory}
use Rattle.item_input.specs.Input.{counts_of, Ending, Whole, BadPlace, TooMany, EndsAs}

-- how such an input goes on behind its items
pub data PlainEnding : Type 0 where
  -- as an input does that may have such lines
  Ends : Ending → PlainEnding
  -- a line of the fault script stands there
  FaultLine : PlainEnding

-- a line of the fault script stands there, within the limits
pub record IsFaultLine (shape : Shape) (counts : Counts) (rest : List ℕ) : Type 0 where
  pub item : Item
  pub more : List ℕ
  pub is_item : IsItem shape item
  pub is_fault : ¬ IsNoFault item
  pub bytes : rest ≡ item_spelling item ++ more
  pub within : passed_limit (counted counts item) ≡ None

-- what follows so many items has this ending
abbrev pub EndsPlainAs : Shape → Counts → PlainEnding → List ℕ → Type 0
EndsPlainAs shape counts (Ends ending) rest = EndsAs shape counts ending rest
EndsPlainAs shape counts FaultLine rest = IsFaultLine shape counts rest

-- The input, where it is told, reads as these items, none of which is a line of the fault script and which are within the limits,
-- with this ending.
pub record ReadsPlain (shape : Shape) (input : Option (List ℕ)) (items : List Item) (ending : PlainEnding) : Type 0 where
  pub each : AllByRecursion (IsItem shape) items
  pub plain : AllByRecursion IsNoFault items
  pub within : passed_limit (counts_of items) ≡ None
  pub bytes : IfSome input (λ bytes. (rest : List ℕ) × (bytes ≡ flat_map item_spelling items ++ rest) × EndsPlainAs shape (counts_of items) ending rest)

-- The items of the whole input were read, and none is a line of the fault script.
pub record IsReadPlain (shape : Shape) (old new : Option (List ℕ)) (items : List Item) : Type 0 where
  pub reads : ReadsPlain shape old items (Ends Whole)
  pub used : Consumes old new (flat_map item_spelling items)
  pub ended : IsAtEnd new

-- at this place no item stands, or a line of the fault script does
abbrev pub IsBadPlace : Shape → Option (List ℕ) → ℕ → Type 0
IsBadPlace shape input at =
    (items : List Item) × (ReadsPlain shape input items (Ends BadPlace) ⊎ ReadsPlain shape input items FaultLine) × (at ≡ length (flat_map item_spelling items))

-- Why not all items were read, as where such lines may be among them, but that such a line is no item here.
abbrev pub RefusesPlain : Shape → Option (List ℕ) → Option (List ℕ) → Type 0 → ItemFault → Type 0
RefusesPlain shape old new rose (Bad at) = IsBadPlace shape old at
RefusesPlain shape old new rose (Read at) = rose × TakesOn 0 at old new
RefusesPlain shape old new rose (Many cause) = (items : List Item) × ReadsPlain shape old items (Ends (TooMany cause))
RefusesPlain shape old new rose Memory = Unit {0}
