-- Whether a message has a spelling, as a test: its numbers are in the ranges of the formats.
use Rattle.std.specs.Prelude.{ℕ, zero, suc, ◌+◌, ◌^◌, List, [], ◌∷◌, length, Bool, true, ◌==◌, ◌&&◌, nat_lt, nat_le}
use Rattle.message_frame.specs.declared.messages.Message.{Message}
use Rattle.message_frame.specs.declared.messages.Message.TheVariants.{Copy, CopyAck, Report, Least, Prepare, Promised, Lower, Accept, Accepted, Decide, Want}
use Rattle.message_frame.specs.declared.messages.Vote.{Vote}
use Rattle.record_frame.specs.declared.entries.Entry.{Entry}
use Rattle.record_frame.specs.declared.values.Lengths.{Lengths}
use Rattle.record_frame.specs.declared.values.Value.{Value}
use Rattle.record_frame.specs.declared.values.Value.TheVariants.{Noop, Cut, Add, Finalise, Trim}

-- numbers that are bytes
abbrev pub are_bytes : List ℕ → Bool
are_bytes [] = true
are_bytes (byte ∷ bytes) = nat_lt byte 256 && are_bytes bytes

abbrev pub is_entry : Entry → Bool
is_entry entry =
    nat_lt entry.client.0 (2 ^ 16) && (nat_lt entry.number.0 (2 ^ 64) && (nat_le (length entry.bytes) 65535 && are_bytes entry.bytes))

-- so many lengths, and zeros past them
abbrev pub are_cells : ℕ → List ℕ → Bool
are_cells count [] = true
are_cells zero (cell ∷ cells) = (cell == 0) && are_cells zero cells
are_cells (suc count) (cell ∷ cells) = nat_le cell 16384 && are_cells count cells

abbrev pub are_lengths : ℕ → Lengths → Bool
are_lengths limit lengths =
    nat_le 1 lengths.count && (nat_le lengths.count limit && ((length lengths.length == 32) && are_cells lengths.count lengths.length))

abbrev pub is_value : Value → Bool
is_value Noop = true
is_value (Cut lengths) = are_lengths 32 lengths
is_value (Add shard) = nat_le shard.0 7
is_value (Finalise shard) = nat_le shard.0 7
is_value (Trim position) = nat_lt position.0 (2 ^ 64)

abbrev pub is_ballot : ℕ → Bool
is_ballot ballot = nat_le 1 ballot && nat_lt ballot (2 ^ 56)

-- a vote of a window, whose slot is not below a least one
abbrev pub is_vote : ℕ → ℕ → Vote → Bool
is_vote first least vote =
    nat_le first vote.slot.0
    && (nat_le vote.slot.0 (first + 63)
    && (nat_le vote.slot.0 16383 && (is_ballot vote.ballot.0 && (is_value vote.value && nat_le least vote.slot.0))))

abbrev pub are_votes : ℕ → ℕ → List Vote → Bool
are_votes first least [] = true
are_votes first least (vote ∷ votes) = is_vote first least vote && are_votes first (vote.slot.0 + 1) votes

-- whether a message has a spelling
abbrev pub is_message : Message → Bool
is_message (Copy segment offset entry) = nat_le segment.0 4 && (nat_le offset 16383 && is_entry entry)
is_message (CopyAck peer held) = nat_le peer.0 4 && nat_le held 16384
is_message (Report shard replica lengths) = nat_le shard.0 7 && (nat_le replica.0 4 && are_lengths 5 lengths)
is_message (Least shard lengths) = nat_le shard.0 7 && are_lengths 5 lengths
is_message (Prepare ballot slot) = is_ballot ballot.0 && nat_le slot.0 16384
is_message (Promised ballot slot who votes) =
    is_ballot ballot.0 && (nat_le slot.0 16384 && (nat_le who 6 && (nat_le (length votes) 64 && are_votes slot.0 slot.0 votes)))
is_message (Lower ballot promise) = is_ballot ballot.0 && is_ballot promise.0
is_message (Accept ballot slot value) = is_ballot ballot.0 && (nat_le slot.0 16383 && is_value value)
is_message (Accepted ballot slot who) = is_ballot ballot.0 && (nat_le slot.0 16383 && nat_le who 6)
is_message (Decide slot value) = nat_le slot.0 16383 && is_value value
is_message (Want slot node) = nat_le slot.0 16384 && nat_le node.0 42
