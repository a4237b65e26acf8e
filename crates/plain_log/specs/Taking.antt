-- What a subscription takes of the log: the entries at its positions, and where it ends.
use Rattle.std.specs.Prelude.{◌≡◌, ◌⊎◌, ℕ, ◌+◌, ◌<◌, ◌≤◌, length, Some, slice_get}
use Rattle.std.specs.List.{flat_map}
use Rattle.log_base.specs.declared.numbers.Position.{Position}
use Rattle.record_frame.specs.declared.entries.Entry.{Entry}
use Rattle.log_model.specs.Chain.{chain_of}
use Rattle.reply_frame.specs.declared.replies.Reply.{Nothing, Found}
use Rattle.reply_frame.specs.Replies.{entry_bytes}
use Rattle.plain_log.specs.Log.{LogState, read_in}
use Rattle.plain_log.specs.Streams.{Collected}

-- how many bytes the entries have that were taken
abbrev pub bytes_taken : Collected → ℕ
bytes_taken all = length (flat_map entry_bytes all.entries)

-- the position so many after another
abbrev pub later : ℕ → ℕ → Position
later from count = record { 0 = from + count }

-- A position has no entry: it is given up, or the log does not reach it.
abbrev pub HasNoEntry : ℕ → LogState → Position → Type 0
HasNoEntry replicas state position =
    (position.0 < (chain_of replicas state.values).mark) ⊎ ((chain_of replicas state.values).end ≤ position.0)

-- A subscription ends once it has as many entries as are wanted, or before an entry that the stream has no room for, or with the
-- answer to the first position that has no entry.
pub data Ends (replicas : ℕ) (state : LogState) (room from count : ℕ) (all : Collected) : Type 0 where
  AsManyAsWanted : length all.entries ≡ count → all.last ≡ Nothing → Ends replicas state room from count all
  NoRoomFor : (entry : Entry) → read_in replicas state (later from (length all.entries)) ≡ Found (later from (length all.entries)) entry
      → room < bytes_taken all + length (entry_bytes entry) → all.last ≡ Nothing → Ends replicas state room from count all
  NoEntryThere : HasNoEntry replicas state (later from (length all.entries)) → all.last ≡ read_in replicas state (later from (length all.entries))
      → Ends replicas state room from count all

-- The entries that a subscription takes are those that reads of its positions find, from the first one on, with none left out.
pub record IsTaken (replicas : ℕ) (state : LogState) (room from count : ℕ) (all : Collected) : Type 0 where
  pub each : (i : ℕ) (entry : Entry) → slice_get all.entries i ≡ Some entry → read_in replicas state (later from i) ≡ Found (later from i) entry
  pub few : length all.entries ≤ count
  pub fit : bytes_taken all ≤ room
  pub ends : Ends replicas state room from count all
