-- What reply an item of a lane may have.
use Rattle.std.specs.Prelude.{◌≡◌, ◌⊎◌, ℕ}
use Rattle.command_frame.specs.declared.items.Item.{Item}
use Rattle.reply_frame.specs.declared.replies.Reply.{Reply, Spent}
use Rattle.stream_law.specs.Replies.{IsReplyTo}

-- the pass of its lane was spent
abbrev pub IsCutShort : Reply → Type 0
IsCutShort reply = (used : ℕ) × (reply ≡ Spent used)

-- one that the item may have, unless the pass was spent
abbrev pub MayAnswer : Item → Reply → Type 0
MayAnswer item reply = IsReplyTo item reply ⊎ IsCutShort reply
