-- What a stream of entries says of a history, and of the one sequence.
use Rattle.std.specs.Prelude.{◌≡◌, ℕ, ◌+◌, List, drop, length, map, take, Option, Some, slice_get}
use Rattle.std.specs.List.{AllByRecursion}
use Rattle.history_frame.specs.declared.events.Event.{Event}
use Rattle.log_base.specs.ClusterShape.{Shape}
use Rattle.record_frame.specs.declared.entries.Entry.{Entry}
use Rattle.reply_frame.specs.declared.replies.Reply.{Reply, Found, Stream'}
use Rattle.node_model.specs.NodeState.{KeptLists}
use Rattle.node_model.specs.Sequence.{sequence}
use Rattle.sequence_law.specs.Answers.{IsAfter, IsRead, reads}

-- ---- entries at positions

-- something is so of each entry of a list and its position, where they have the positions from one on, with none left out
abbrev pub EachFrom : (ℕ → Entry → Type 0) → ℕ → List Entry → Type 0
EachFrom P from entries = (i : ℕ) (entry : Entry) → slice_get entries i ≡ Some entry → P (from + i) entry

-- so it is of each entry of a reply, where that is a stream
abbrev pub EachInStream : (ℕ → Entry → Type 0) → Reply → Type 0
EachInStream P (Stream' from entries at last) = EachFrom P from.0 entries
EachInStream P reply = Unit {0}

-- ---- what was answered

-- The entry was found at the position: a client read the position in some event of the history, and was answered with it.
pub record WasFound (events : List Event) (position : ℕ) (entry : Entry) : Type 0 where
  pub before : List Event
  pub event : Event
  pub after : IsAfter events before event
  pub client : ℕ
  pub asked : event.happened.input ≡ reads client position
  pub told : event.happened.reply ≡ Found (record { 0 = position }) entry

-- ---- the one sequence

-- And it stands in the sequence at that position, which was at or above the mark that the replica knew when it answered.
pub record IsOfSequence (config : Shape) (kept : KeptLists) (events : List Event) (position : ℕ) (entry : Entry) : Type 0 where
  pub found : WasFound events position entry
  pub agrees : IsRead config kept events found.before found.event position entry

-- The entries of a stream are a piece of a sequence of entries: those that stand there from the stream's first position on.
abbrev pub IsPiece : List (Option Entry) → Reply → Type 0
IsPiece places (Stream' from entries at last) = map (λ (entry : Entry). Some entry) entries ≡ take (length entries) (drop from.0 places)
IsPiece places reply = Unit {0}

-- the streams of some replies agree with the one sequence
pub record StreamsAgree (config : Shape) (kept : KeptLists) (events : List Event) (replies : List Reply) : Type 0 where
  pub each : AllByRecursion (EachInStream (IsOfSequence config kept events)) replies
  pub pieces : AllByRecursion (IsPiece (sequence config kept events)) replies
