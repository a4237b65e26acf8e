-- What the spellings of items promise.
use Rattle.std.specs.Prelude.{◌≡◌, ℕ, List, ◌++◌, Option, Some}
use Rattle.log_base.specs.ClusterShape.{Shape, InRange}
use Rattle.log_base.specs.Wide.{IsBytes}
use Rattle.command_frame.specs.declared.items.Item.{Item}
use Rattle.command_frame.specs.Items.{IsItem, IsNoFault, IsReading, Spells, item_kind, item_body, item_spelling}
use Rattle.command_frame.specs.Reading.{item_of}

-- what is read from a kind and a body is spelled by them
abbrev pub ReadIsSpelled : Type 0
ReadIsSpelled = (shape : Shape) (kind : ℕ) (body : List ℕ) (item : Item) → IsBytes body → item_of shape kind body ≡ Some item → Spells shape kind body item

-- what is spelled, and is no fault, is read again
abbrev pub SpelledIsRead : Type 0
SpelledIsRead = (shape : Shape) (item : Item) → InRange shape → IsItem shape item → IsNoFault item
    → item_of shape (item_kind item) (item_body item) ≡ Some item

-- from what is spelled, faults too, nothing but the item is read
abbrev pub OneReading : Type 0
OneReading = (shape : Shape) (item : Item) (found : Option Item) → InRange shape → IsItem shape item
    → IsReading shape (item_kind item) (item_body item) found → found ≡ Some item

-- no spelling of an item begins another
abbrev pub OneItem : Type 0
OneItem = (shape : Shape) (item other : Item) (rest more : List ℕ) → InRange shape → IsItem shape item → IsItem shape other
    → item_spelling item ++ rest ≡ item_spelling other ++ more → (item ≡ other) × (rest ≡ more)
