-- Streams: how much they take, and where the last answer of one stands. A reply has at most 2,097,152 bytes, and at most 22 of them
-- beside the entries of its stream.
use Rattle.std.specs.Prelude.{ℕ, ◌-◌, Bool, length, nat_le}
use Rattle.std.specs.Global.{Box}
use denote.RawPtr.{null_ptr}
use Rattle.record_frame.specs.declared.entries.Entry.{Entry}
use Rattle.reply_frame.specs.declared.replies.Reply.{Reply, Stream'}
use Rattle.reply_frame.specs.Replies.{entry_bytes}

-- how many bytes the entries of a stream may have
abbrev pub room_of_stream : ℕ
room_of_stream = 2097152 - 22

-- the bytes of the entry fit into this room
abbrev pub fits_in : ℕ → Entry → Bool
fits_in room entry = nat_le (length (entry_bytes entry)) room

-- the room that is left beside the entry
abbrev pub room_beside : ℕ → Entry → ℕ
room_beside room entry = room - length (entry_bytes entry)

-- ---- places in memory

-- no place in memory
abbrev pub nowhere : Box (Unit {0})
nowhere = record { ptr = null_ptr; alloc = record { memory = record { seal = tt } }; value = tt }

-- A reply without the place in memory where the last answer of its stream stands.
abbrev pub unplaced : Reply → Reply
unplaced (Stream' from entries at last) = Stream' from entries nowhere last
unplaced reply = reply
