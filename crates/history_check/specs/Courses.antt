-- The pieces of a history, one after another, as the reader of its frames gives them.
use Rattle.std.specs.Prelude.{◌≡◌, ◌⊎◌, ℕ, ◌+◌, ◌-◌, ◌^◌, ◌<◌, min, List, [], ◌∷◌, ◌++◌, length, Option, Some, None}
use Rattle.std.specs.Io.KnownBytes.{Consumes}
use Rattle.history_frame.specs.declared.pieces.Piece.{Piece}
use Rattle.history_frame.specs.declared.stages.Stage.{Stage}
use Rattle.history_frame.specs.declared.stages.Stage.TheVariants.{Before}
use Rattle.history_frame.specs.Frames.{Spells}
use Rattle.history_frame.specs.Reader.{HasBytes, HistoryCounts, HistoryReading, NoPiece, counted, events_in, nothing_yet, passed_limit, stage_after}

-- which frames may come after some pieces, how many events there are with them, and what is counted with them
abbrev pub stage_from : Stage → List Piece → Stage
stage_from stage [] = stage
stage_from stage (piece ∷ pieces) = stage_from (stage_after stage piece) pieces

abbrev pub events_from : ℕ → List Piece → ℕ
events_from events [] = events
events_from events (piece ∷ pieces) = events_from (events + events_in piece) pieces

abbrev pub counts_from : HistoryCounts → List Piece → HistoryCounts
counts_from counts [] = counts
counts_from counts (piece ∷ pieces) = counts_from (counted counts piece) pieces

-- bytes spell some pieces, each of which may stand where it does
abbrev pub SpellAll : Stage → ℕ → List Piece → List ℕ → Type 0
SpellAll stage events [] text = text ≡ []
SpellAll stage events (piece ∷ pieces) text = (front : List ℕ) × (rest : List ℕ) × Spells stage events piece front
    × SpellAll (stage_after stage piece) (events + events_in piece) pieces rest × (text ≡ front ++ rest)

-- Some pieces were read from the start of a source, and no limit was passed.
pub record AreRead (before after : Option (List ℕ)) (pieces : List Piece) : Type 0 where
  pub text : List ℕ
  pub spelled : SpellAll Before 0 pieces text
  pub consumed : Consumes before after text
  pub within : passed_limit (counts_from nothing_yet pieces) ≡ None

-- a place, as it is told: up to the end of its type
abbrev pub told_place : ℕ → ℕ
told_place place = min place (2 ^ 64 - 1)

-- From this place on the bytes are no frame that may stand there. An end is no such place, but before the head.
pub record IsBadAt (before : Option (List ℕ)) (at : ℕ) : Type 0 where
  pub after : Option (List ℕ)
  pub pieces : List Piece
  pub read : AreRead before after pieces
  pub none : NoPiece (stage_from Before pieces) (events_from 0 pieces) after
  pub some : (stage_from Before pieces ≡ Before) ⊎ HasBytes after
  pub place : at ≡ told_place (length read.text)

-- A piece passes a limit of what is counted, the first that does.
pub record IsTooMany (before : Option (List ℕ)) (cause : ℕ) : Type 0 where
  pub between : Option (List ℕ)
  pub after : Option (List ℕ)
  pub pieces : List Piece
  pub read : AreRead before between pieces
  pub piece : Piece
  pub text : List ℕ
  pub spells : Spells (stage_from Before pieces) (events_from 0 pieces) piece text
  pub consumed : Consumes between after text
  pub passed : passed_limit (counts_from nothing_yet (pieces ++ piece ∷ [])) ≡ Some cause

-- how many frames an input may have
abbrev pub frame_limit : ℕ
frame_limit = 2 ^ 60

-- There are more frames than an input may have.
pub record HasTooManyFrames (before : Option (List ℕ)) : Type 0 where
  pub after : Option (List ℕ)
  pub pieces : List Piece
  pub read : AreRead before after pieces
  pub many : frame_limit < length pieces

-- a reader has given these pieces, and holds no fault
pub record HasGiven (before after : Option (List ℕ)) (reading : HistoryReading) (pieces : List Piece) : Type 0 where
  pub read : AreRead before after pieces
  pub stage : reading.stage ≡ stage_from Before pieces
  pub counts : reading.counts ≡ counts_from nothing_yet pieces
  pub offset : reading.offset ≡ told_place (length read.text)
  pub fault : reading.fault ≡ None
