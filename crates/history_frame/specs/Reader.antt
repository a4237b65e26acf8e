-- What a reader of a history answers, and what it is then.
use Rattle.std.specs.Prelude.{◌≡◌, ◌⊎◌, ℕ, ◌+◌, ◌-◌, ◌<◌, ◌≤◌, ◌^◌, min, List, [], ◌++◌, length, nat_lt, if◌then◌else◌, ⊤, Option, Some, None, Result, Ok, Err}
use Rattle.std.specs.Io.KnownBytes.{Consumes, IsAtEnd}
use Rattle.reply_frame.specs.declared.faults.ItemFault.{ItemFault}
use Rattle.reply_frame.specs.declared.faults.ItemFault.TheVariants.{Bad, Read, Many, Memory}
use Rattle.history_frame.specs.declared.pieces.Piece.{Piece}
use Rattle.history_frame.specs.declared.pieces.Piece.TheVariants.{Reply as AReply, Head, Kept as AKept, Event as AnEvent, End}
use Rattle.history_frame.specs.declared.stages.Stage.{Stage}
use Rattle.history_frame.specs.declared.stages.Stage.TheVariants.{Before, Keeping, Running}
use Rattle.history_frame.specs.Frames.{IsInside, Spells}
use Rattle.history_frame.specs.Spelling.{event_size}

-- ---- limits

-- how many events there are, how many bytes their frames have, and how many bytes the payloads have
pub record HistoryCounts : Type 0 where
  pub events : ℕ
  pub event_bytes : ℕ
  pub kept_bytes : ℕ

abbrev pub nothing_yet : HistoryCounts
nothing_yet = record { events = 0; event_bytes = 0; kept_bytes = 0 }

-- what a piece adds to each
abbrev pub events_in : Piece → ℕ
events_in AReply = 0
events_in (Head config run) = 0
events_in (AKept kept) = 0
events_in (AnEvent event) = 1
events_in End = 0

abbrev pub event_bytes_in : Piece → ℕ
event_bytes_in AReply = 0
event_bytes_in (Head config run) = 0
event_bytes_in (AKept kept) = 0
event_bytes_in (AnEvent event) = event_size event.happened
event_bytes_in End = 0

abbrev pub kept_bytes_in : Piece → ℕ
kept_bytes_in AReply = 0
kept_bytes_in (Head config run) = 0
kept_bytes_in (AKept kept) = length kept.payload
kept_bytes_in (AnEvent event) = 0
kept_bytes_in End = 0

-- the counts with one more piece
abbrev pub counted : HistoryCounts → Piece → HistoryCounts
counted counts piece = record {
  events = counts.events + events_in piece;
  event_bytes = counts.event_bytes + event_bytes_in piece;
  kept_bytes = counts.kept_bytes + kept_bytes_in piece;
}

-- which limit is passed: 3, that of 131,072 events, 5, that of 536,870,912 bytes of their frames, or 6, that of
-- 268,435,456 bytes of payloads
abbrev pub passed_limit : HistoryCounts → Option ℕ
passed_limit counts =
    if nat_lt 131072 counts.events then Some 3
    else if nat_lt 536870912 counts.event_bytes then Some 5
    else if nat_lt 268435456 counts.kept_bytes then Some 6
    else None

-- the piece fits a frame of so many bytes
abbrev pub FitsFrame : ℕ → Piece → Type 0
FitsFrame size AReply = Unit {0}
FitsFrame size (Head config run) = Unit {0}
FitsFrame size (AKept kept) = length kept.payload ≤ 2097152
FitsFrame size (AnEvent event) = (size ≡ event_size event.happened) × (size ≤ 2097156)
FitsFrame size End = Unit {0}

-- ---- the reader

-- A reader of a history: the bytes that it took from its source and has not used yet, how many it took, which frames may
-- come next, what it counted, the place of the next frame, up to the end of its type, and the fault that it keeps.
pub record HistoryReading : Type 0 where
  pub pending : List ℕ
  pub taken : ℕ
  pub stage : Stage
  pub counts : HistoryCounts
  pub offset : ℕ
  pub fault : Option ItemFault

-- which frames may come after a piece
abbrev pub stage_after : Stage → Piece → Stage
stage_after stage AReply = stage
stage_after stage (Head config run) = Keeping 0
stage_after stage (AKept kept) = Keeping kept.disk
stage_after stage (AnEvent event) = Running
stage_after stage End = stage

-- no piece's spelling that may stand there begins the bytes, where they are told
abbrev pub NoPiece : Stage → ℕ → Option (List ℕ) → Type 0
NoPiece stage events None = ⊤
NoPiece stage events (Some bytes) = (piece : Piece) (text rest : List ℕ) → Spells stage events piece text → bytes ≡ text ++ rest → ⊥

-- there are bytes, where they are told
abbrev pub HasBytes : Option (List ℕ) → Type 0
HasBytes None = ⊤
HasBytes (Some bytes) = 0 < length bytes

-- a frame of so many bytes was read, which stands for the piece
pub record FrameRead (stage : Stage) (events : ℕ) (before after : Option (List ℕ)) (piece : Piece) (size : ℕ) : Type 0 where
  pub text : List ℕ
  pub spells : Spells stage events piece text
  pub consumed : Consumes before after text
  pub size_is : size ≡ length text

-- A frame's reading found one, of so many bytes, or the source is at its end, or the bytes that are there begin with none.
-- Only a fault of the source or want of memory may come at any bytes.
abbrev pub FindsFrame : Stage → ℕ → Option (List ℕ) → Option (List ℕ) → Piece → Result (Option ℕ) ItemFault → Type 0
FindsFrame stage events before after piece (Ok (Some size)) = FrameRead stage events before after piece size
FindsFrame stage events before after piece (Ok None) = Consumes before after [] × IsAtEnd after
FindsFrame stage events before after piece (Err (Bad at)) = NoPiece stage events before × HasBytes before
FindsFrame stage events before after piece (Err (Read at)) = ⊤
FindsFrame stage events before after piece (Err (Many cause)) = ⊥
FindsFrame stage events before after piece (Err Memory) = ⊤

-- A piece is given: its spelling, which may stand there, was read, and no limit is passed. The reader moves past it.
pub record Gave (old new : HistoryReading) (before after : Option (List ℕ)) (piece : Piece) : Type 0 where
  pub text : List ℕ
  pub spells : Spells old.stage old.counts.events piece text
  pub consumed : Consumes before after text
  pub within : passed_limit (counted old.counts piece) ≡ None
  pub moved : new ≡ record old {
    pending = new.pending;
    taken = new.taken;
    stage = stage_after old.stage piece;
    counts = counted old.counts piece;
    offset = min (old.offset + length text) (2 ^ 64 - 1);
  }

-- A piece is refused: its spelling was read, and a limit would be passed.
pub record Refused (old : HistoryReading) (before after : Option (List ℕ)) (cause : ℕ) : Type 0 where
  pub piece : Piece
  pub text : List ℕ
  pub spells : Spells old.stage old.counts.events piece text
  pub consumed : Consumes before after text
  pub passed : passed_limit (counted old.counts piece) ≡ Some cause

-- the reader keeps the fault
abbrev pub Fails : HistoryReading → HistoryReading → ItemFault → Type 0
Fails old new fault = new ≡ record old { pending = new.pending; taken = new.taken; fault = Some fault }

-- The end is told: the source is there, at a frame's first place behind the head.
pub record Ended (old new : HistoryReading) (before after : Option (List ℕ)) (piece : Piece) : Type 0 where
  pub is_end : piece ≡ End
  pub inside : IsInside old.stage
  pub consumed : Consumes before after []
  pub at_end : IsAtEnd after
  pub moved : new ≡ record old { pending = new.pending; taken = new.taken }

-- What an answer of the reader says of the bytes that were unread before it and after it. Before the head, an end is a
-- place with no frame.
abbrev pub Answers : HistoryReading → HistoryReading → Option (List ℕ) → Option (List ℕ) → Result Piece ItemFault → Type 0
Answers old new before after (Ok piece) = Gave old new before after piece ⊎ Ended old new before after piece
Answers old new before after (Err (Bad at)) =
    NoPiece old.stage old.counts.events before × ((old.stage ≡ Before) ⊎ HasBytes before) × (at ≡ old.offset) × Fails old new (Bad at)
Answers old new before after (Err (Read at)) = Fails old new (Read at)
Answers old new before after (Err (Many cause)) = Refused old before after cause × Fails old new (Many cause)
Answers old new before after (Err Memory) = Fails old new Memory
