-- What a reader of items answers, and what it is then.
use Rattle.std.specs.Prelude.{◌≡◌, ℕ, ◌+◌, ◌<◌, List, [], ◌++◌, length, ⊤, Option, Some, None, Result, Ok, Err}
use Rattle.std.specs.Io.KnownBytes.{Consumes, IsAtEnd}
use Rattle.log_base.specs.ClusterShape.{Shape}
use Rattle.command_frame.specs.declared.items.Item.{Item}
use Rattle.command_frame.specs.declared.answers.Next.{Next}
use Rattle.command_frame.specs.declared.answers.Next.TheVariants.{Item as Given, End}
use Rattle.command_frame.specs.declared.frames.Framed.{Framed}
use Rattle.command_frame.specs.declared.frames.Framed.TheVariants as framed
use Rattle.reply_frame.specs.declared.faults.ItemFault.{ItemFault}
use Rattle.reply_frame.specs.declared.faults.ItemFault.TheVariants.{Bad, Read, Many, Memory}
use Rattle.command_frame.specs.Items.{IsItem, item_spelling, Counts, counted, passed_limit}

-- A reader of items: its config, the bytes that it took from its source and has not used yet, how many it took,
-- how many items and record bytes it gave, the place of the next frame, and the fault that it keeps.
pub record ItemReading : Type 0 where
  pub config : Shape
  pub pending : List ℕ
  pub taken : ℕ
  pub counts : Counts
  pub offset : ℕ
  pub fault : Option ItemFault

-- there are bytes, where they are told, and no item's spelling begins them
abbrev pub NoItem : Shape → Option (List ℕ) → Type 0
NoItem shape None = ⊤
NoItem shape (Some bytes) =
    (0 < length bytes) × ((item : Item) (rest : List ℕ) → IsItem shape item → bytes ≡ item_spelling item ++ rest → ⊥)

-- What a frame's reading says of the bytes that were unread before it and after it. Only a fault of the source or
-- want of memory may come at any bytes.
abbrev pub Finds : Shape → Option (List ℕ) → Option (List ℕ) → Result Framed ItemFault → Type 0
Finds shape before after (Ok (framed.Item item size)) =
    IsItem shape item × Consumes before after (item_spelling item) × (size ≡ length (item_spelling item))
Finds shape before after (Ok framed.End) = Consumes before after [] × IsAtEnd after
Finds shape before after (Err (Bad at)) = NoItem shape before
Finds shape before after (Err (Read at)) = ⊤
Finds shape before after (Err (Many cause)) = ⊥
Finds shape before after (Err Memory) = ⊤

-- What an answer of the reader says of them: an item is given where no limit is passed, and refused where one is.
abbrev pub Answers : ItemReading → Option (List ℕ) → Option (List ℕ) → Result Next ItemFault → Type 0
Answers old before after (Ok (Given item)) =
    IsItem old.config item × Consumes before after (item_spelling item) × (passed_limit (counted old.counts item) ≡ None)
Answers old before after (Ok End) = Consumes before after [] × IsAtEnd after
Answers old before after (Err (Bad at)) = NoItem old.config before × (at ≡ old.offset)
Answers old before after (Err (Read at)) = ⊤
Answers old before after (Err (Many cause)) =
    (item : Item) × IsItem old.config item × Consumes before after (item_spelling item) × (passed_limit (counted old.counts item) ≡ Some cause)
Answers old before after (Err Memory) = ⊤

-- What the reader is after an answer, but for the bytes that it holds: an item moves it past the item's spelling,
-- and a fault stays.
abbrev pub Moves : ItemReading → ItemReading → Result Next ItemFault → Type 0
Moves old new (Ok (Given item)) = new ≡ record old {
  pending = new.pending;
  taken = new.taken;
  counts = counted old.counts item;
  offset = old.offset + length (item_spelling item);
}
Moves old new (Ok End) = new ≡ record old { pending = new.pending; taken = new.taken }
Moves old new (Err fault) = new ≡ record old { pending = new.pending; taken = new.taken; fault = Some fault }
