-- What the spellings of a history's frames promise.
use Rattle.std.specs.Prelude.{◌≡◌, ℕ, List, ◌++◌, length}
use Rattle.log_base.specs.Shape.{shape}
use Rattle.history_frame.specs.declared.events.Event.{Event}
use Rattle.history_frame.specs.declared.pieces.Piece.{Piece}
use Rattle.history_frame.specs.declared.stages.Stage.{Stage}
use Rattle.history_frame.specs.Frames.{Spells, IsEventBody, IsKeptBody, IsHeadBody}
use Rattle.history_frame.specs.Reading.{happened_told}
use Rattle.history_frame.specs.Spelling.{event_size, event_spelling}
use Rattle.log_base.specs.declared.cluster_shape.Config.{Config}
use Rattle.history_frame.specs.declared.events.Kept.{Kept}

-- the frame of an event has as many bytes as the event is counted with
abbrev pub IsSized : Type 0
IsSized = (event : Event) → length (event_spelling event) ≡ event_size event.happened

-- no frame begins another that may stand at the same place
abbrev pub OneFrame : Type 0
OneFrame = (stage : Stage) (events : ℕ) (piece other : Piece) (text more rest left : List ℕ) → Spells stage events piece text → Spells stage events other more
    → text ++ rest ≡ more ++ left → (text ≡ more) × (rest ≡ left)

-- a body spells one event, wherever the last answer of a stream lies in memory
abbrev pub OneEvent : Type 0
OneEvent = (place : ℕ) (body : List ℕ) (event other : Event) → IsEventBody place body event → IsEventBody place body other
    → (event.place ≡ other.place) × (event.node ≡ other.node) × (happened_told event.happened ≡ happened_told other.happened)

-- a body spells one payload
abbrev pub OneKept : Type 0
OneKept = (least : ℕ) (body : List ℕ) (kept other : Kept) → IsKeptBody least body kept → IsKeptBody least body other → kept ≡ other

-- a body spells one config and run
abbrev pub OneHead : Type 0
OneHead = (body : List ℕ) (config other : Config) (run more : ℕ) → IsHeadBody body config run → IsHeadBody body other more → (shape config ≡ shape other) × (run ≡ more)
