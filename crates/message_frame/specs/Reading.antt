-- How a message is read: field by field from the left, and the first that is wrong decides.
use Rattle.std.specs.Prelude.{◌≡◌, ◌⊎◌, ℕ, zero, suc, ◌+◌, ◌-◌, ◌^◌, min, List, [], ◌∷◌, length, nat_lt, ◌==◌, ◌||◌, if◌then◌else◌, Result, Ok, Err}
use Rattle.log_base.specs.declared.numbers.Ballot.{Ballot}
use Rattle.log_base.specs.declared.numbers.NodeId.{NodeId}
use Rattle.log_base.specs.declared.numbers.Replica.{Replica}
use Rattle.log_base.specs.declared.numbers.Slot.{Slot}
use Rattle.record_frame.specs.declared.refusals.Refusal.{Refusal}
use Rattle.record_frame.specs.declared.refusals.Refusal.TheVariants.{BadKind, BadNumber, Long}
use Rattle.record_frame.specs.Entries.{entry_at}
use Rattle.record_frame.specs.Fields.{◌>>=◌, u8_at, u16_at, u32_at, u64_at}
use Rattle.record_frame.specs.Values.{lengths_at, shard_at, value_at}
use Rattle.message_frame.specs.declared.messages.Message.{Message}
use Rattle.message_frame.specs.declared.messages.Message.TheVariants.{Copy, CopyAck, Report, Least, Prepare, Promised, Lower, Accept, Accepted, Decide, Want}
use Rattle.message_frame.specs.declared.messages.Vote.{Vote}

-- ---- numbers with a range

-- the number that was read at a place, if it is from a least to a greatest one
abbrev pub between : ℕ → ℕ → ℕ → Result (ℕ × ℕ) Refusal → Result (ℕ × ℕ) Refusal
between least greatest at read = do
  found ← read
  if nat_lt found.0 least || nat_lt greatest found.0 then Err (BadNumber at) else Ok found

-- the number that was read at a place, if it is at most so great
abbrev pub up_to : ℕ → ℕ → Result (ℕ × ℕ) Refusal → Result (ℕ × ℕ) Refusal
up_to greatest at read = do
  found ← read
  if nat_lt greatest found.0 then Err (BadNumber at) else Ok found

-- the numbers of one and four bytes that are at most so great
unfoldable pub u8_up_to : ℕ → List ℕ → ℕ → Result (ℕ × ℕ) Refusal
u8_up_to greatest bytes at = up_to greatest at (u8_at bytes at)

unfoldable pub u32_up_to : ℕ → List ℕ → ℕ → Result (ℕ × ℕ) Refusal
u32_up_to greatest bytes at = up_to greatest at (u32_at bytes at)

-- the number of a replica, or of its segment, which is 0 to 4
unfoldable pub replica_at : List ℕ → ℕ → Result (Replica × ℕ) Refusal
replica_at bytes at = do
  number ← up_to 4 at (u8_at bytes at)
  Ok (record { 0 = number.0 }, number.1)

-- the number of a node, which is 0 to 42
unfoldable pub node_at : List ℕ → ℕ → Result (NodeId × ℕ) Refusal
node_at bytes at = do
  number ← up_to 42 at (u16_at bytes at)
  Ok (record { 0 = number.0 }, number.1)

-- a slot from a least to a greatest one
unfoldable pub slot_at : ℕ → ℕ → List ℕ → ℕ → Result (Slot × ℕ) Refusal
slot_at least greatest bytes at = do
  number ← between least greatest at (u32_at bytes at)
  Ok (record { 0 = number.0 }, number.1)

-- a ballot, which is 1 to 2^56 - 1
unfoldable pub ballot_at : List ℕ → ℕ → Result (Ballot × ℕ) Refusal
ballot_at bytes at = do
  number ← between 1 (2 ^ 56 - 1) at (u64_at bytes at)
  Ok (record { 0 = number.0 }, number.1)

-- ---- votes

-- a vote whose slot is from a least to a greatest one
unfoldable pub vote_at : ℕ → ℕ → List ℕ → ℕ → Result (Vote × ℕ) Refusal
vote_at least greatest bytes at = do
  slot ← slot_at least greatest bytes at
  ballot ← ballot_at bytes slot.1
  value ← value_at bytes ballot.1
  Ok (record { slot = slot.0; ballot = ballot.0; value = value.0 }, value.1)

-- so many votes with slots that rise strictly, from a least to a greatest one
unfoldable pub votes_at : ℕ → ℕ → ℕ → List ℕ → ℕ → Result (List Vote × ℕ) Refusal
votes_at zero least greatest bytes at = Ok ([], at)
votes_at (suc count) least greatest bytes at = do
  first ← vote_at least greatest bytes at
  others ← votes_at count (first.0.slot.0 + 1) greatest bytes first.1
  Ok (first.0 ∷ others.0, others.1)

-- the last slot of the window of 64 slots from one on
abbrev pub window_end : ℕ → ℕ
window_end start = min (start + 63) 16383

-- a count up to 64, and that many votes of the window from a slot on
unfoldable pub reported_at : ℕ → List ℕ → ℕ → Result (List Vote × ℕ) Refusal
reported_at start bytes at = do
  count ← u8_up_to 64 bytes at
  votes_at count.0 start (window_end start) bytes count.1

-- ---- the fields of a message, by its kind

unfoldable pub copy_at : List ℕ → ℕ → Result (Message × ℕ) Refusal
copy_at bytes at = do
  segment ← replica_at bytes at
  offset ← u32_up_to 16383 bytes segment.1
  entry ← entry_at bytes offset.1
  Ok (Copy segment.0 offset.0 entry.0, entry.1)

unfoldable pub copy_ack_at : List ℕ → ℕ → Result (Message × ℕ) Refusal
copy_ack_at bytes at = do
  peer ← replica_at bytes at
  size ← u32_up_to 16384 bytes peer.1
  Ok (CopyAck peer.0 size.0, size.1)

unfoldable pub report_at : List ℕ → ℕ → Result (Message × ℕ) Refusal
report_at bytes at = do
  shard ← shard_at bytes at
  replica ← replica_at bytes shard.1
  lengths ← lengths_at 5 bytes replica.1
  Ok (Report shard.0 replica.0 lengths.0, lengths.1)

unfoldable pub least_at : List ℕ → ℕ → Result (Message × ℕ) Refusal
least_at bytes at = do
  shard ← shard_at bytes at
  lengths ← lengths_at 5 bytes shard.1
  Ok (Least shard.0 lengths.0, lengths.1)

unfoldable pub prepare_at : List ℕ → ℕ → Result (Message × ℕ) Refusal
prepare_at bytes at = do
  ballot ← ballot_at bytes at
  start ← slot_at 0 16384 bytes ballot.1
  Ok (Prepare ballot.0 start.0, start.1)

unfoldable pub promised_at : List ℕ → ℕ → Result (Message × ℕ) Refusal
promised_at bytes at = do
  ballot ← ballot_at bytes at
  start ← slot_at 0 16384 bytes ballot.1
  who ← u8_up_to 6 bytes start.1
  votes ← reported_at start.0.0 bytes who.1
  Ok (Promised ballot.0 start.0 who.0 votes.0, votes.1)

unfoldable pub lower_at : List ℕ → ℕ → Result (Message × ℕ) Refusal
lower_at bytes at = do
  ballot ← ballot_at bytes at
  promised ← ballot_at bytes ballot.1
  Ok (Lower ballot.0 promised.0, promised.1)

unfoldable pub accept_at : List ℕ → ℕ → Result (Message × ℕ) Refusal
accept_at bytes at = do
  ballot ← ballot_at bytes at
  slot ← slot_at 0 16383 bytes ballot.1
  value ← value_at bytes slot.1
  Ok (Accept ballot.0 slot.0 value.0, value.1)

unfoldable pub accepted_at : List ℕ → ℕ → Result (Message × ℕ) Refusal
accepted_at bytes at = do
  ballot ← ballot_at bytes at
  slot ← slot_at 0 16383 bytes ballot.1
  who ← u8_up_to 6 bytes slot.1
  Ok (Accepted ballot.0 slot.0 who.0, who.1)

unfoldable pub decide_at : List ℕ → ℕ → Result (Message × ℕ) Refusal
decide_at bytes at = do
  slot ← slot_at 0 16383 bytes at
  value ← value_at bytes slot.1
  Ok (Decide slot.0 value.0, value.1)

unfoldable pub want_at : List ℕ → ℕ → Result (Message × ℕ) Refusal
want_at bytes at = do
  start ← slot_at 0 16384 bytes at
  node ← node_at bytes start.1
  Ok (Want start.0 node.0, node.1)

-- ---- messages

-- the fields of a message of a kind that takes no memory
unfoldable pub plain_fields_at : ℕ → List ℕ → ℕ → Result (Message × ℕ) Refusal
plain_fields_at kind bytes at =
    if kind == 2 then copy_ack_at bytes at
    else if kind == 3 then report_at bytes at
    else if kind == 4 then least_at bytes at
    else if kind == 5 then prepare_at bytes at
    else if kind == 7 then lower_at bytes at
    else if kind == 8 then accept_at bytes at
    else if kind == 9 then accepted_at bytes at
    else if kind == 10 then decide_at bytes at
    else if kind == 11 then want_at bytes at
    else Err (BadKind kind)

-- the fields of a message of some kind
unfoldable pub message_fields_at : ℕ → List ℕ → ℕ → Result (Message × ℕ) Refusal
message_fields_at kind bytes at =
    if kind == 1 then copy_at bytes at
    else if kind == 6 then promised_at bytes at
    else plain_fields_at kind bytes at

-- reading a message of this kind takes memory
abbrev pub TakesMemory : ℕ → Type 0
TakesMemory kind = (kind ≡ 1) ⊎ (kind ≡ 6)

-- the message at a place
unfoldable pub message_at : List ℕ → ℕ → Result (Message × ℕ) Refusal
message_at bytes at = do
  kind ← u8_at bytes at
  message_fields_at kind.0 bytes kind.1

-- the message that all of the bytes spell
unfoldable pub message_of : List ℕ → Result Message Refusal
message_of bytes = do
  found ← message_at bytes 0
  if nat_lt found.1 (length bytes) then Err (Long (length bytes - found.1)) else Ok found.0
