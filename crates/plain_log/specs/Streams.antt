-- Subscriptions in the log of one thread: the entries that reads of one position after another find.
use Rattle.std.specs.Prelude.{ℕ, zero, suc, ◌+◌, List, [], ◌∷◌, if◌then◌else◌}
use Rattle.log_base.specs.declared.numbers.Position.{Position}
use Rattle.record_frame.specs.declared.entries.Entry.{Entry}
use Rattle.reply_frame.specs.declared.replies.Reply.{Reply, Nothing, Found, Stream'}
use Rattle.command_frame.specs.Streams.{fits_in, nowhere, room_beside, room_of_stream}

-- the entries that a subscription takes, and the answer that ends it
pub record Collected : Type 0 where
  pub entries : List Entry
  pub last : Reply

-- nothing more is taken
abbrev pub ended : Reply → Collected
ended answer = record { entries = []; last = answer }

-- an entry is taken before what follows
abbrev pub with_entry : Entry → Collected → Collected
with_entry entry following = record { entries = entry ∷ following.entries; last = following.last }

-- What an answer gives. An entry that is found is taken where there is room for it, with what follows it. Without room it is left
-- out, and the subscription ends without an answer. Another answer ends it.
abbrev pub given_by : ℕ → (Entry → Collected) → Reply → Collected
given_by room following (Found position entry) = if fits_in room entry then with_entry entry (following entry) else ended Nothing
given_by room following answer = ended answer

-- what so many reads give, from a position on
abbrev pub collected : (Position → Reply) → ℕ → ℕ → ℕ → Collected
collected read room position zero = ended Nothing
collected read room position (suc more) =
    given_by room (λ (entry : Entry). collected read (room_beside room entry) (position + 1) more) (read (record { 0 = position }))

-- the stream of what was collected
abbrev pub stream_from : Position → Collected → Reply
stream_from from all = Stream' from all.entries nowhere all.last

-- the reply to one who subscribes to so many entries, from a position on
abbrev pub subscribed : (Position → Reply) → Position → ℕ → Reply
subscribed read from count = stream_from from (collected read room_of_stream from.0 count)
