-- How an input reads: the items that stand at its front, one after another, and what follows them.
use Rattle.std.specs.Prelude.{◌≡◌, ℕ, List, [], ◌∷◌, ◌++◌, IfSome, Option, Some, None}
use Rattle.std.specs.List.{flat_map, AllByRecursion}
use Rattle.log_base.specs.ClusterShape.{Shape}
use Rattle.command_frame.specs.declared.items.Item.{Item}
use Rattle.command_frame.specs.Items.{Counts, none_yet, counted, passed_limit, item_spelling, IsItem}
use Rattle.command_frame.specs.Reader.{NoItem}

-- the counts with more items
abbrev pub counts_from : Counts → List Item → Counts
counts_from counts [] = counts
counts_from counts (item ∷ items) = counts_from (counted counts item) items

abbrev pub counts_of : List Item → Counts
counts_of items = counts_from none_yet items

-- how an input goes on behind its items
pub data Ending : Type 0 where
  -- it ends
  Whole : Ending
  -- no frame or no item stands there
  BadPlace : Ending
  -- an item stands there that passes a limit, with this cause
  TooMany : ℕ → Ending

-- what follows so many items has this ending
abbrev pub EndsAs : Shape → Counts → Ending → List ℕ → Type 0
EndsAs shape counts Whole rest = rest ≡ []
EndsAs shape counts BadPlace rest = NoItem shape (Some rest)
EndsAs shape counts (TooMany cause) rest =
    (item : Item) × (more : List ℕ) × IsItem shape item × (rest ≡ item_spelling item ++ more) × (passed_limit (counted counts item) ≡ Some cause)

-- The input, where it is told, reads as these items, which are within the limits, with this ending.
pub record ReadsAs (shape : Shape) (input : Option (List ℕ)) (items : List Item) (ending : Ending) : Type 0 where
  pub each : AllByRecursion (IsItem shape) items
  pub within : passed_limit (counts_of items) ≡ None
  pub bytes : IfSome input (λ bytes. (rest : List ℕ) × (bytes ≡ flat_map item_spelling items ++ rest) × EndsAs shape (counts_of items) ending rest)
