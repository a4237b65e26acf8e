-- What a judge holds after the pieces that it was handed.
use Rattle.std.specs.Prelude.{◌≡◌, ◌⊎◌, ℕ, ◌+◌, ◌<◌, ◌≤◌, List, [], ◌∷◌, ◌++◌, length, replicate, Option}
use Rattle.std.specs.Io.KnownBytes.{IsAtEnd}
use Rattle.history_frame.specs.declared.events.Event.{Event}
use Rattle.history_frame.specs.declared.events.History.{History}
use Rattle.history_frame.specs.declared.events.Kept.{Kept}
use Rattle.history_frame.specs.declared.pieces.Piece.{Piece}
use Rattle.history_frame.specs.declared.pieces.Piece.TheVariants.{Reply as AReply}
use Rattle.history_frame.specs.declared.stages.Stage.TheVariants.{Before, Running}
use Rattle.history_frame.specs.Frames.{IsInside, Spells}
use Rattle.history_frame.specs.Reader.{HistoryReading, events_in}
use Rattle.history_frame.specs.Spelling.{DisksRise}
use Rattle.log_base.specs.Shape.{shape}
use Rattle.log_base.specs.declared.cluster_shape.Config.{Config}
use Rattle.node_model.specs.Sound.{IsSound, payloads_on}
use Rattle.history_walk.specs.Filling.{filled}
use Rattle.history_walk.specs.Walking.{StandsAfter}
use Rattle.history_walk.specs.declared.walker.Walker.{Walker}
use Rattle.history_check.specs.Courses.{HasGiven, events_from, stage_from}
use Rattle.history_check.specs.Verdicts.{IsUnlawfulAt, IsVerdict, pieces_of}
use Rattle.history_check.specs.declared.verdicts.Verdict.{Verdict}
use Rattle.history_check.specs.declared.judge.Judge.{Judge}
use Rattle.history_check.specs.declared.judge.Judge.TheVariants.{Waiting, Keeping, Walking, Broken}
use Rattle.history_check.specs.declared.checking.Course.{Course}
use Rattle.history_check.specs.declared.checking.Course.TheVariants.{Goes, Ends}

-- ---- the pieces so far

-- the history that a head, payloads and written events stand for
abbrev pub history_of : Config → ℕ → List Kept → List Event → History
history_of config run kept written = record { config = config; run = run; kept = kept; events = filled [] written }

-- the pieces are those of a history, behind some replies
pub record ArePieces (pieces : List Piece) (config : Config) (run : ℕ) (kept : List Kept) (written : List Event) : Type 0 where
  pub replies : ℕ
  pub are : pieces ≡ pieces_of replies (history_of config run kept written) written
  pub rise : DisksRise 0 kept

-- a piece may come after others, and there are not too many events with it
pub record Comes (pieces : List Piece) (piece : Piece) : Type 0 where
  pub text : List ℕ
  pub spells : Spells (stage_from Before pieces) (events_from 0 pieces) piece text
  pub few : events_from 0 pieces + events_in piece ≤ 131072

-- ---- the judge

-- the events so far are legal, and a walker stands behind them
pub record HasWalked (pieces : List Piece) (walker : Walker) (events : ℕ) : Type 0 where
  pub kept : List Kept
  pub written : List Event
  pub pieces_are : ArePieces pieces walker.config walker.run kept written
  pub stands : StandsAfter walker (payloads_on kept) (filled [] written)
  pub count : events ≡ length written

-- The history so far is not legal, and so it stays: its kept lists are not sound, or the event is there.
pub record HasBroken (pieces : List Piece) (place : ℕ) : Type 0 where
  pub config : Config
  pub run : ℕ
  pub kept : List Kept
  pub written : List Event
  pub pieces_are : ArePieces pieces config run kept written
  pub unlawful : IsUnlawfulAt (history_of config run kept written) place
  pub stays : (IsSound (shape config) run (payloads_on kept) → ⊥) ⊎ (place < length written)

-- a judge that has begun with the events
abbrev pub HasBegun : Judge → List Piece → Type 0
HasBegun Waiting pieces = ⊥
HasBegun (Keeping config run kept) pieces = ⊥
HasBegun (Walking walker events) pieces = HasWalked pieces walker events
HasBegun (Broken place) pieces = HasBroken pieces place

-- It begins with the first event.
abbrev pub IsJudge : Judge → List Piece → Type 0
IsJudge Waiting pieces = (replies : ℕ) × (pieces ≡ replicate replies AReply)
IsJudge (Keeping config run kept) pieces = ArePieces pieces config run kept.items []
IsJudge (Walking walker events) pieces = HasWalked pieces walker events × (stage_from Before pieces ≡ Running)
IsJudge (Broken place) pieces = HasBroken pieces place × (stage_from Before pieces ≡ Running)

-- a verdict on the history of some pieces
pub record IsJudgement (pieces : List Piece) (verdict : Verdict) : Type 0 where
  pub config : Config
  pub run : ℕ
  pub kept : List Kept
  pub written : List Event
  pub pieces_are : ArePieces pieces config run kept written
  pub is : IsVerdict (history_of config run kept written) verdict

-- ---- reading and judging

-- a reader has given these pieces, and a judge was handed them
pub record Judges (before after : Option (List ℕ)) (reading : HistoryReading) (judge : Judge) (pieces : List Piece) : Type 0 where
  pub given : HasGiven before after reading pieces
  pub judged : IsJudge judge pieces

-- a judge was handed all pieces of a source
pub record JudgesAll (before after : Option (List ℕ)) (reading : HistoryReading) (judge : Judge) (pieces : List Piece) : Type 0 where
  pub so_far : Judges before after reading judge pieces
  pub at_end : IsAtEnd after
  pub inside : IsInside (stage_from Before pieces)

-- one piece more was judged, or there is none
abbrev pub GoesOn : Option (List ℕ) → Option (List ℕ) → HistoryReading → Judge → List Piece → Course → Type 0
GoesOn before after reading judge pieces Goes = (piece : Piece) × Judges before after reading judge (pieces ++ piece ∷ [])
GoesOn before after reading judge pieces Ends = JudgesAll before after reading judge pieces
