-- Histories as they are written: that whoever reads what was written finds the same history.
use Rattle.std.specs.Prelude.{◌≡◌, ℕ, ◌+◌, ◌≤◌, List, [], ◌++◌, length, replicate, None, sum_by}
use Rattle.std.specs.List.{AllByRecursion}
use Rattle.history_frame.specs.declared.events.Event.{Event}
use Rattle.history_frame.specs.declared.events.History.{History}
use Rattle.history_frame.specs.declared.events.Kept.{Kept}
use Rattle.history_frame.specs.declared.pieces.Piece.TheVariants.{Reply as AReply}
use Rattle.history_frame.specs.declared.stages.Stage.TheVariants.{Before}
use Rattle.history_frame.specs.Reader.{HistoryCounts, passed_limit}
use Rattle.history_frame.specs.Spelling.{IsHistory, event_size, history_spelling}
use Rattle.history_frame.specs.Widths.{EventFits, KeptFits}
use Rattle.node_model.specs.Legal.{IsLawful}
use Rattle.history_walk.specs.Filling.{filled}
use Rattle.history_check.specs.Courses.{SpellAll, frame_limit}
use Rattle.history_check.specs.Verdicts.{AreHistory}

-- the letters of a history are those of the outputs that they name
abbrev pub NamesItsLetters : History → Type 0
NamesItsLetters history = history.events ≡ filled [] history.events

-- what is counted of a history: its events, the bytes of their frames, and those of its payloads
abbrev pub counts_of : History → HistoryCounts
counts_of history = record {
  events = length history.events;
  event_bytes = sum_by (λ (event : Event). event_size event.happened) history.events;
  kept_bytes = sum_by (λ (kept : Kept). length kept.payload) history.kept;
}

-- how many frames a history has
abbrev pub frames_of : History → ℕ
frames_of history = 1 + length history.kept + length history.events

-- the numbers of a history have the widths of their types, which those of every history in memory have
pub record HasWidths (history : History) : Type 0 where
  pub kept : AllByRecursion KeptFits history.kept
  pub events : AllByRecursion EventFits history.events

-- Nothing of a history is lost where it is written: it has a spelling and the widths, its letters are those of outputs, and it
-- passes no limit.
pub record IsReadable (history : History) : Type 0 where
  pub spelled : IsHistory history
  pub widths : HasWidths history
  pub letters : NamesItsLetters history
  pub within : passed_limit (counts_of history) ≡ None

-- bytes are the frames of so many replies
abbrev pub AreReplies : ℕ → List ℕ → Type 0
AreReplies replies text = SpellAll Before 0 (replicate replies AReply) text

-- what is written of a history behind replies is that history
abbrev pub IsReadAgain : Type 0
IsReadAgain = (history : History) (replies : ℕ) (front : List ℕ) → IsReadable history → AreReplies replies front
    → replies + frames_of history ≤ frame_limit → AreHistory (front ++ history_spelling history) history

-- the letters of a lawful history are those of outputs
abbrev pub LawfulNames : Type 0
LawfulNames = (history : History) → IsLawful history → NamesItsLetters history
