-- What reply an item may have.
use Rattle.std.specs.Prelude.{◌≡◌, ℕ, ◌≤◌, length}
use Rattle.log_base.specs.declared.numbers.Position.{Position}
use Rattle.command_frame.specs.declared.items.Item.{Item}
use Rattle.command_frame.specs.declared.items.Item.TheVariants.{Subscribe}
use Rattle.reply_frame.specs.declared.replies.Reply.{Reply, Stream'}
use Rattle.schedule_model.specs.Streams.{IsSingle}

-- a stream from this position on, of so many entries at most
abbrev pub IsStreamOf : Position → ℕ → Reply → Type 0
IsStreamOf from count (Stream' first entries at last) = (first ≡ from) × (length entries ≤ count)
IsStreamOf from count reply = ⊥

-- A subscription has a stream from the position that it names, with as many entries as it wants at most. No other item has one.
abbrev pub IsReplyTo : Item → Reply → Type 0
IsReplyTo (Subscribe lane shard replica from count) reply = IsStreamOf from count reply
IsReplyTo item reply = IsSingle reply
