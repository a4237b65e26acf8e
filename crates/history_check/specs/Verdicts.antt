-- What the verdict on a history says, which history bytes stand for, and why there is no verdict.
use Rattle.std.specs.Prelude.{◌≡◌, ◌⊎◌, ℕ, suc, ◌<◌, ◌≤◌, List, [], ◌∷◌, ◌++◌, length, map, replicate, take, Option, None, Result, Ok, Err}
use Rattle.std.specs.Io.KnownBytes.{IsAtEnd}
use Rattle.reply_frame.specs.declared.faults.ItemFault.{ItemFault}
use Rattle.reply_frame.specs.declared.faults.ItemFault.TheVariants.{Bad as BadItem, Read as ReadItem, Many as ManyItems, Memory as NoMemory}
use Rattle.history_frame.specs.declared.events.Event.{Event}
use Rattle.history_frame.specs.declared.events.History.{History}
use Rattle.history_frame.specs.declared.pieces.Piece.{Piece}
use Rattle.history_frame.specs.declared.pieces.Piece.TheVariants.{Reply as AReply, Head, Kept as AKept, Event as AnEvent}
use Rattle.history_frame.specs.declared.stages.Stage.TheVariants.{Before}
use Rattle.history_frame.specs.Reader.{nothing_yet, passed_limit}
use Rattle.log_base.specs.Shape.{shape}
use Rattle.node_model.specs.Legal.{IsLegal}
use Rattle.node_model.specs.Sound.{payloads_on}
use Rattle.history_walk.specs.Filling.{filled}
use Rattle.history_check.specs.Courses.{AreRead, HasTooManyFrames, IsBadAt, IsTooMany, SpellAll, counts_from, frame_limit}
use Rattle.history_check.specs.declared.verdicts.Verdict.{Verdict}
use Rattle.history_check.specs.declared.verdicts.Verdict.TheVariants.{Lawful, Unlawful}
use Rattle.history_check.specs.declared.verdicts.CheckFault.{CheckFault}
use Rattle.history_check.specs.declared.verdicts.CheckFault.TheVariants.{Bad, Read, Many, Memory}

-- ---- verdicts

-- a history up to one of its moments is legal
abbrev pub IsLegalTo : ℕ → History → Type 0
IsLegalTo count history = IsLegal (shape history.config) history.run (payloads_on history.kept) (take count history.events)

-- It is not legal with the event at a place, and up to each earlier event it is. Where its kept lists are not sound it is
-- legal at no moment, so this is place 0.
pub record IsUnlawfulAt (history : History) (place : ℕ) : Type 0 where
  pub breaks : IsLegalTo (suc place) history → ⊥
  pub before : (earlier : ℕ) → earlier < place → IsLegalTo (suc earlier) history

-- what a verdict says
abbrev pub IsVerdict : History → Verdict → Type 0
IsVerdict history (Lawful events) = IsLegalTo events history × (events ≡ length history.events)
IsVerdict history (Unlawful place) = IsUnlawfulAt history place

-- ---- histories in bytes

-- the pieces of a history behind some replies, with its events as they are written
abbrev pub pieces_of : ℕ → History → List Event → List Piece
pieces_of replies history written =
    replicate replies AReply ++ Head history.config history.run ∷ (map AKept history.kept ++ map AnEvent written)

-- A source was read to its end, and what was read is some replies and the frames of a history of which something holds. A
-- letter of that history has the message of the output that it names.
pub record ReadsHistory (before after : Option (List ℕ)) (Holds : History → Type 0) : Type 0 where
  pub history : History
  pub replies : ℕ
  pub written : List Event
  pub read : AreRead before after (pieces_of replies history written)
  pub at_end : IsAtEnd after
  pub events : history.events ≡ filled [] written
  pub holds : Holds history

-- Bytes are some replies and the frames of a history, and pass no limit.
pub record AreHistory (bytes : List ℕ) (history : History) : Type 0 where
  pub replies : ℕ
  pub written : List Event
  pub spelled : SpellAll Before 0 (pieces_of replies history written) bytes
  pub within : passed_limit (counts_from nothing_yet (pieces_of replies history written)) ≡ None
  pub few : length (pieces_of replies history written) ≤ frame_limit
  pub events : history.events ≡ filled [] written

-- the outcome is the verdict on a history, or memory ran out
abbrev pub IsTrueOf : History → Result Verdict CheckFault → Type 0
IsTrueOf history (Ok verdict) = IsVerdict history verdict
IsTrueOf history (Err fault) = fault ≡ Memory

-- ---- faults

-- What a fault says of the bytes that there were; of one of the source, what is given.
abbrev pub IsFault : (ℕ → Type 0) → Option (List ℕ) → CheckFault → Type 0
IsFault Stops before (Bad at) = IsBadAt before at
IsFault Stops before (Read at) = Stops at
IsFault Stops before (Many cause) = IsTooMany before cause ⊎ ((cause ≡ 1) × HasTooManyFrames before)
IsFault Stops before Memory = Unit {0}

-- a fault of the reader, as the checker tells it
abbrev pub fault_of : ItemFault → CheckFault
fault_of (BadItem at) = Bad at
fault_of (ReadItem at) = Read at
fault_of (ManyItems cause) = Many cause
fault_of NoMemory = Memory
