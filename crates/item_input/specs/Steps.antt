-- What reading one item does, and what reading all of them does.
use Rattle.std.specs.Prelude.{◌≡◌, ℕ, ◌+◌, ◌++◌, ◌∷◌, List, [], length, Option, Some, None, Result, Ok, Err}
use Rattle.std.specs.Io.KnownBytes.{Consumes, IsAtEnd}
use Rattle.std.specs.List.{flat_map}
use Rattle.log_base.specs.ClusterShape.{Shape}
use Rattle.log_base.specs.Outside.{TakesOn}
use Rattle.command_frame.specs.declared.items.Item.{Item}
use Rattle.reply_frame.specs.declared.faults.ItemFault.{ItemFault}
use Rattle.reply_frame.specs.declared.faults.ItemFault.TheVariants.{Bad, Read, Many, Memory}
use Rattle.command_frame.specs.Items.{Counts, counted, passed_limit, item_spelling, IsItem}
use Rattle.command_frame.specs.Reader.{NoItem}
use Rattle.item_input.specs.declared.steps.Step.{Step}
use Rattle.item_input.specs.declared.steps.Step.TheVariants.{Taken, Ended}
use Rattle.item_input.specs.Input.{Whole, BadPlace, TooMany, ReadsAs}

-- Where reading stands: what is unread, the counts of items, the items so far, the place of the next frame, and how many bytes
-- were taken from the source.
pub record Standing : Type 0 where
  pub unread : Option (List ℕ)
  pub counts : Counts
  pub items : List Item
  pub place : ℕ
  pub taken : ℕ

-- One item was read, within the limits.
pub record Takes (shape : Shape) (old new : Standing) : Type 0 where
  pub item : Item
  pub is_item : IsItem shape item
  pub used : Consumes old.unread new.unread (item_spelling item)
  pub counts : new.counts ≡ counted old.counts item
  pub within : passed_limit new.counts ≡ None
  pub items : new.items ≡ old.items ++ item ∷ []
  pub place : new.place ≡ old.place + length (item_spelling item)

-- The input ended.
pub record IsOver (old new : Standing) : Type 0 where
  pub used : Consumes old.unread new.unread []
  pub ended : IsAtEnd new.unread
  pub items : new.items ≡ old.items

-- Whether one more item was read, or why not. `rose` says that the source's count of faults rose.
abbrev pub Steps : Shape → Standing → Standing → Type 0 → Result Step ItemFault → Type 0
Steps shape old new rose (Ok Taken) = Takes shape old new
Steps shape old new rose (Ok Ended) = IsOver old new
Steps shape old new rose (Err (Bad at)) = NoItem shape old.unread × (at ≡ old.place)
Steps shape old new rose (Err (Read at)) = rose × (at ≡ new.taken)
Steps shape old new rose (Err (Many cause)) =
    (item : Item) × IsItem shape item × Consumes old.unread new.unread (item_spelling item) × (passed_limit (counted old.counts item) ≡ Some cause)
Steps shape old new rose (Err Memory) = Unit {0}

-- The items of the whole input were read.
pub record IsRead (shape : Shape) (old new : Option (List ℕ)) (items : List Item) : Type 0 where
  pub reads : ReadsAs shape old items Whole
  pub used : Consumes old new (flat_map item_spelling items)
  pub ended : IsAtEnd new

-- Why not all items were read, by what the source had left before and has now: with the place at which no item stands, or with
-- how many bytes were taken. `rose` says that its count of faults rose.
abbrev pub Refuses : Shape → Option (List ℕ) → Option (List ℕ) → Type 0 → ItemFault → Type 0
Refuses shape old new rose (Bad at) = (items : List Item) × ReadsAs shape old items BadPlace × (at ≡ length (flat_map item_spelling items))
Refuses shape old new rose (Read at) = rose × TakesOn 0 at old new
Refuses shape old new rose (Many cause) = (items : List Item) × ReadsAs shape old items (TooMany cause)
Refuses shape old new rose Memory = Unit {0}
