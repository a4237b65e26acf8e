-- What an entry is, its one spelling, and how it is read.
use Rattle.std.specs.Prelude.{ℕ, ◌+◌, ◌<◌, ◌≤◌, ◌^◌, List, ◌∷◌, ◌++◌, length, take, drop, nat_lt, if◌then◌else◌, Result, Ok, Err}
use Rattle.log_base.specs.Wide.{IsBytes, be2, be4, be8}
use Rattle.log_base.specs.declared.numbers.Client.{Client}
use Rattle.log_base.specs.declared.numbers.Number.{Number}
use Rattle.record_frame.specs.declared.entries.Entry.{Entry}
use Rattle.record_frame.specs.declared.entries.Head.{Head}
use Rattle.record_frame.specs.declared.refusals.Refusal.{Refusal}
use Rattle.record_frame.specs.declared.refusals.Refusal.TheVariants.{TooLong}
use Rattle.record_frame.specs.Fields.{◌>>=◌, end_at, kind_at, u16_at, u32_at, u64_at}

-- the numbers of an entry have their width, and its record has at most 65,535 bytes
pub record IsEntry (entry : Entry) : Type 0 where
  pub client : entry.client.0 < 2 ^ 16
  pub number : entry.number.0 < 2 ^ 64
  pub size : length entry.bytes ≤ 65535
  pub bytes : IsBytes entry.bytes

-- an entry but for its kind: the client, the number, the length of the record, and the record
abbrev pub entry_fields : Entry → List ℕ
entry_fields entry = be2 entry.client.0 ++ (be8 entry.number.0 ++ (be4 (length entry.bytes) ++ entry.bytes))

-- the one spelling of an entry
abbrev pub entry_spelling : Entry → List ℕ
entry_spelling entry = 1 ∷ entry_fields entry

-- the entry of these bytes
abbrev pub entry_of : Client → Number → List ℕ → Entry
entry_of client number bytes = record { client = client; number = number; bytes = bytes }

-- an entry without the bytes of its record
abbrev pub head_of : Entry → Head
head_of entry = record { client = entry.client; number = entry.number; length = length entry.bytes }

-- the head of the entry whose fields stand at a place, and the place after its record
unfoldable pub head_fields_at : List ℕ → ℕ → Result (Head × ℕ) Refusal
head_fields_at bytes at = do
  client ← u16_at bytes at
  number ← u64_at bytes client.1
  size ← u32_at bytes number.1
  if nat_lt 65535 size.0 then Err (TooLong size.0) else do
    next ← end_at size.0 bytes size.1
    Ok (record { client = record { 0 = client.0 }; number = record { 0 = number.0 }; length = size.0 }, next)

-- the entry whose fields stand at a place
unfoldable pub entry_fields_at : List ℕ → ℕ → Result (Entry × ℕ) Refusal
entry_fields_at bytes at = do
  head ← head_fields_at bytes at
  Ok (record { client = head.0.client; number = head.0.number; bytes = take head.0.length (drop (at + 14) bytes) }, head.1)

-- the entry at a place
unfoldable pub entry_at : List ℕ → ℕ → Result (Entry × ℕ) Refusal
entry_at bytes at = do
  place ← kind_at 1 bytes at
  entry_fields_at bytes place

-- the head of the entry that was read, or the refusal
abbrev pub head_read : Result (Entry × ℕ) Refusal → Result Head Refusal
head_read (Ok found) = Ok (head_of found.0)
head_read (Err refusal) = Err refusal
