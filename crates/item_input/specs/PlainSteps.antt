-- What reading one item does, where no item may be a line of the fault script.
use Rattle.std.specs.Prelude.{◌≡◌, ◌⊎◌, ℕ, List, Option, None, Result, Ok, Err}
use Rattle.std.specs.Io.KnownBytes.{Consumes}
use Rattle.log_base.specs.ClusterShape.{Shape}
use Rattle.command_frame.specs.declared.items.Item.{Item}
use Rattle.command_frame.specs.Items.{counted, passed_limit, item_spelling, IsItem, IsNoFault}
use Rattle.command_frame.specs.Reader.{NoItem}
use Rattle.reply_frame.specs.declared.faults.ItemFault.{ItemFault}
use Rattle.reply_frame.specs.declared.faults.ItemFault.TheVariants.{Bad, Read, Many, Memory}
use Rattle.item_input.specs.declared.steps.Step.{Step}
use Rattle.item_input.specs.declared.steps.Step.TheVariants.{Taken, Ended}
use Rattle.item_input.specs.Steps.{IsOver, Standing, Steps, Takes}

-- One item was read, which is no line of the fault script.
pub record TakesPlain (shape : Shape) (old new : Standing) : Type 0 where
  pub takes : Takes shape old new
  pub plain : IsNoFault takes.item

-- A line of the fault script was read, within the limits.
pub record MeetsFault (shape : Shape) (old : Standing) : Type 0 where
  pub item : Item
  pub is_item : IsItem shape item
  pub is_fault : ¬ IsNoFault item
  pub left : Option (List ℕ)
  pub used : Consumes old.unread left (item_spelling item)
  pub within : passed_limit (counted old.counts item) ≡ None

-- Whether one more item was read, or why not: as where such lines may be read, but that such a line is no item here.
abbrev pub StepsPlain : Shape → Standing → Standing → Type 0 → Result Step ItemFault → Type 0
StepsPlain shape old new rose (Ok Taken) = TakesPlain shape old new
StepsPlain shape old new rose (Ok Ended) = IsOver old new
StepsPlain shape old new rose (Err (Bad at)) = (NoItem shape old.unread ⊎ MeetsFault shape old) × (at ≡ old.place)
StepsPlain shape old new rose (Err (Read at)) = Steps shape old new rose (Err (Read at))
StepsPlain shape old new rose (Err (Many cause)) = Steps shape old new rose (Err (Many cause))
StepsPlain shape old new rose (Err Memory) = Unit {0}
