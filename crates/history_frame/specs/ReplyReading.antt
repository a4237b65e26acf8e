-- How a reply is read: its kind, and its fields from the left. What is read is what the reply tells, wherever the last
-- answer of a stream lies in memory.
use Rattle.std.specs.Prelude.{ℕ, zero, suc, ◌+◌, ◌-◌, Bool, List, [], ◌∷◌, take, drop, nat_lt, ◌==◌, ◌||◌, if◌then◌else◌, Result, Ok, Err}
use Rattle.log_base.specs.declared.numbers.Position.{Position}
use Rattle.record_frame.specs.declared.entries.Entry.{Entry}
use Rattle.record_frame.specs.declared.refusals.Refusal.{Refusal}
use Rattle.record_frame.specs.declared.refusals.Refusal.TheVariants.{TooLong, BadKind}
use Rattle.record_frame.specs.Entries.{entry_of}
use Rattle.record_frame.specs.Fields.{◌>>=◌, end_at, u8_at, u16_at, u32_at, u64_at}
use Rattle.reply_frame.specs.declared.replies.Reply.{Reply, Nothing, Stored, At, Found, PendingAsk, PendingRead, PendingWish, Finalised, FinalisedAt, NotAdded, Stale, Full, Halted, Down, Missing, Trimmed, Elsewhere, Taken, NoSuchShard, NotLeading, Settled, Stream', NoLeader, NoLetter, NothingKept, Done, Spent}

-- ---- bytes behind their number

-- the end of some bytes behind their number, which is at most so great
unfoldable pub bytes_end : ℕ → List ℕ → ℕ → Result ℕ Refusal
bytes_end limit bytes at = do
  size ← u32_at bytes at
  if nat_lt limit size.0 then Err (TooLong size.0) else end_at size.0 bytes size.1

-- some bytes behind their number
unfoldable pub bytes_at : ℕ → List ℕ → ℕ → Result (List ℕ × ℕ) Refusal
bytes_at limit bytes at = do
  next ← bytes_end limit bytes at
  Ok (take (next - (at + 4)) (drop (at + 4) bytes), next)

-- an entry without a kind, as a reply has it
unfoldable pub plain_entry_at : List ℕ → ℕ → Result (Entry × ℕ) Refusal
plain_entry_at bytes at = do
  client ← u16_at bytes at
  number ← u64_at bytes client.1
  text ← bytes_at 65535 bytes number.1
  Ok (entry_of (record { 0 = client.0 }) (record { 0 = number.0 }) text.0, text.1)

-- so many entries
unfoldable pub plain_entries_at : ℕ → List ℕ → ℕ → Result (List Entry × ℕ) Refusal
plain_entries_at zero bytes at = Ok ([], at)
plain_entries_at (suc count) bytes at = do
  first ← plain_entry_at bytes at
  others ← plain_entries_at count bytes first.1
  Ok (first.0 ∷ others.0, others.1)

-- ---- what a reply tells

pub data Told : Type 0 where
  plain : Reply → Told
  stream : Position → List Entry → Told → Told

abbrev pub told : Reply → Told
told (Stream' from entries at last) = stream from entries (told last)
told reply = plain reply

-- ---- replies of one number or none

-- the kinds of a reply with a number of eight bytes
abbrev pub is_wide : ℕ → Bool
is_wide kind = kind == 2 || kind == 5 || kind == 10 || kind == 15

unfoldable pub wide_reply : ℕ → ℕ → Result Told Refusal
wide_reply kind number =
    if kind == 2 then Ok (plain (At (record { 0 = number })))
    else if kind == 5 then Ok (plain (PendingRead (record { 0 = number })))
    else if kind == 10 then Ok (plain (Stale (record { 0 = number })))
    else if kind == 15 then Ok (plain (Trimmed (record { 0 = number })))
    else Err (BadKind kind)

-- the kinds of a reply with a number of four bytes
abbrev pub is_narrow : ℕ → Bool
is_narrow kind = kind == 1 || kind == 4 || kind == 6 || kind == 8 || kind == 17 || kind == 20 || kind == 23 || kind == 26

unfoldable pub narrow_reply : ℕ → ℕ → Result Told Refusal
narrow_reply kind number =
    if kind == 1 then Ok (plain (Stored number))
    else if kind == 4 then Ok (plain (PendingAsk number))
    else if kind == 6 then Ok (plain (PendingWish number))
    else if kind == 8 then Ok (plain (FinalisedAt number))
    else if kind == 17 then Ok (plain (Taken number))
    else if kind == 20 then Ok (plain (Settled (record { 0 = number })))
    else if kind == 23 then Ok (plain (NoLetter number))
    else if kind == 26 then Ok (plain (Spent number))
    else Err (BadKind kind)

-- a reply of a kind alone
unfoldable pub bare_reply : ℕ → Result Told Refusal
bare_reply kind =
    if kind == 0 then Ok (plain Nothing)
    else if kind == 7 then Ok (plain Finalised)
    else if kind == 9 then Ok (plain NotAdded)
    else if kind == 11 then Ok (plain Full)
    else if kind == 12 then Ok (plain Halted)
    else if kind == 13 then Ok (plain Down)
    else if kind == 14 then Ok (plain Missing)
    else if kind == 18 then Ok (plain NoSuchShard)
    else if kind == 19 then Ok (plain NotLeading)
    else if kind == 22 then Ok (plain NoLeader)
    else if kind == 24 then Ok (plain NothingKept)
    else if kind == 25 then Ok (plain Done)
    else Err (BadKind kind)

-- ---- replies

unfoldable pub wide_reply_at : ℕ → List ℕ → ℕ → Result (Told × ℕ) Refusal
wide_reply_at kind bytes at = do
  number ← u64_at bytes at
  reply ← wide_reply kind number.0
  Ok (reply, number.1)

unfoldable pub narrow_reply_at : ℕ → List ℕ → ℕ → Result (Told × ℕ) Refusal
narrow_reply_at kind bytes at = do
  number ← u32_at bytes at
  reply ← narrow_reply kind number.0
  Ok (reply, number.1)

unfoldable pub bare_reply_at : ℕ → ℕ → Result (Told × ℕ) Refusal
bare_reply_at kind at = do
  reply ← bare_reply kind
  Ok (reply, at)

unfoldable pub found_at : List ℕ → ℕ → Result (Told × ℕ) Refusal
found_at bytes at = do
  position ← u64_at bytes at
  entry ← plain_entry_at bytes position.1
  Ok (plain (Found (record { 0 = position.0 }) entry.0), entry.1)

unfoldable pub elsewhere_at : List ℕ → ℕ → Result (Told × ℕ) Refusal
elsewhere_at bytes at = do
  shard ← u16_at bytes at
  Ok (plain (Elsewhere (record { 0 = shard.0 })), shard.1)

-- the fields of a reply that is no stream
unfoldable pub plain_reply_at : ℕ → List ℕ → ℕ → Result (Told × ℕ) Refusal
plain_reply_at kind bytes at =
    if kind == 3 then found_at bytes at
    else if kind == 16 then elsewhere_at bytes at
    else if is_wide kind then wide_reply_at kind bytes at
    else if is_narrow kind then narrow_reply_at kind bytes at
    else bare_reply_at kind at

-- the answer of a node, which is a reply of a kind up to 20
unfoldable pub answer_at : List ℕ → ℕ → Result (Told × ℕ) Refusal
answer_at bytes at = do
  kind ← u8_at bytes at
  if nat_lt 20 kind.0 then Err (BadKind kind.0) else plain_reply_at kind.0 bytes kind.1

-- a stream
unfoldable pub stream_at : List ℕ → ℕ → Result (Told × ℕ) Refusal
stream_at bytes at = do
  start ← u64_at bytes at
  count ← u16_at bytes start.1
  entries ← plain_entries_at count.0 bytes count.1
  last ← answer_at bytes entries.1
  Ok (stream (record { 0 = start.0 }) entries.0 last.0, last.1)

-- the reply at a place
unfoldable pub reply_at : List ℕ → ℕ → Result (Told × ℕ) Refusal
reply_at bytes at = do
  kind ← u8_at bytes at
  if kind.0 == 21 then stream_at bytes kind.1 else plain_reply_at kind.0 bytes kind.1
