-- How many bytes spell a message.
use Rattle.std.specs.Prelude.{ℕ, ◌+◌, ◌*◌, length}
use Rattle.std.specs.List.{flat_map}
use Rattle.record_frame.specs.Values.{value_spelling}
use Rattle.message_frame.specs.declared.messages.Message.{Message}
use Rattle.message_frame.specs.declared.messages.Message.TheVariants.{Copy, CopyAck, Report, Least, Prepare, Promised, Lower, Accept, Accepted, Decide, Want}
use Rattle.message_frame.specs.Spelling.{vote_spelling}

-- the length of a spelling, from those of what it holds
abbrev pub message_size : Message → ℕ
message_size (Copy segment offset entry) = 21 + length entry.bytes
message_size (CopyAck peer size) = 6
message_size (Report shard replica lengths) = 5 + 4 * lengths.count
message_size (Least shard lengths) = 4 + 4 * lengths.count
message_size (Prepare ballot start) = 13
message_size (Promised ballot start who votes) = 15 + length (flat_map vote_spelling votes)
message_size (Lower ballot promised) = 17
message_size (Accept ballot slot value) = 13 + length (value_spelling value)
message_size (Accepted ballot slot who) = 14
message_size (Decide slot value) = 5 + length (value_spelling value)
message_size (Want start node) = 7
