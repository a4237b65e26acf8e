-- Which frame stands for which piece of a history, and where it may stand.
use Rattle.std.specs.Prelude.{◌≡◌, ℕ, ◌+◌, ◌<◌, ◌≤◌, List, ◌∷◌, length, None, Result, Ok, Err, ⊤}
use Rattle.log_base.specs.Shape.{shape}
use Rattle.log_base.specs.declared.cluster_shape.Config.{Config}
use Rattle.log_base.specs.declared.numbers.NodeId.{NodeId}
use Rattle.record_frame.specs.declared.refusals.Refusal.{Refusal}
use Rattle.record_frame.specs.declared.refusals.Refusal.TheVariants.{Short, TooLong, BadKind, BadNumber, Long, Memory}
use Rattle.reply_frame.specs.Frames.{frame}
use Rattle.reply_frame.specs.Replies.{IsReply, reply_bytes}
use Rattle.reply_frame.specs.declared.replies.Reply.{Reply}
use Rattle.history_frame.specs.declared.inputs.Input.{Input}
use Rattle.history_frame.specs.declared.inputs.Input.TheVariants.{Deliver, Call as ACall, Tick, Lead, Stop, Restart}
use Rattle.history_frame.specs.declared.events.Event.{Event}
use Rattle.history_frame.specs.declared.events.Kept.{Kept}
use Rattle.history_frame.specs.declared.pieces.Piece.{Piece}
use Rattle.history_frame.specs.declared.pieces.Piece.TheVariants.{Reply as AReply, Head, Kept as AKept, Event as AnEvent, End}
use Rattle.history_frame.specs.declared.stages.Stage.{Stage}
use Rattle.history_frame.specs.declared.stages.Stage.TheVariants.{Before, Keeping, Running}
use Rattle.history_frame.specs.Spelling.{IsHappened, head_body, kept_body, event_body}
use Rattle.history_frame.specs.Reading.{ToldHappened, happened_told}
use Rattle.history_frame.specs.Widths.{ReplyFits, EventFits, KeptFits}

-- ---- what a frame's body spells

-- a reply to a lane
pub record IsReplyBody (body : List ℕ) : Type 0 where
  pub lane : ℕ
  pub reply : Reply
  pub lane_fits : lane < 256
  pub is : IsReply reply
  pub fits : ReplyFits reply
  pub text : body ≡ lane ∷ reply_bytes reply

-- a config and a run from 1 to 1,000,000
pub record IsHeadBody (body : List ℕ) (config : Config) (run : ℕ) : Type 0 where
  pub some_run : 1 ≤ run
  pub run_fits : run ≤ 1000000
  pub text : body ≡ head_body (shape config) run

-- a payload of a disk from this one on
pub record IsKeptBody (least : ℕ) (body : List ℕ) (kept : Kept) : Type 0 where
  pub disk : least ≤ kept.disk
  pub fits : KeptFits kept
  pub text : body ≡ kept_body kept

-- no message of a letter is told
abbrev pub TellsNoMessage : Input → Type 0
TellsNoMessage (Deliver place index message) = message ≡ None
TellsNoMessage (ACall call) = Unit {0}
TellsNoMessage Tick = Unit {0}
TellsNoMessage Lead = Unit {0}
TellsNoMessage Stop = Unit {0}
TellsNoMessage Restart = Unit {0}

-- the event at this place
pub record IsEventBody (place : ℕ) (body : List ℕ) (event : Event) : Type 0 where
  pub at_place : event.place ≡ place
  pub is : IsHappened event.happened
  pub fits : EventFits event
  pub untold : TellsNoMessage event.happened.input
  pub text : body ≡ event_body event

-- ---- where a frame may stand

-- a payload of this disk may come next
abbrev pub KeepsFrom : Stage → (ℕ → Type 0) → Type 0
KeepsFrom Before P = ⊥
KeepsFrom (Keeping least) P = P least
KeepsFrom Running P = ⊥

-- an event may come next
abbrev pub IsInside : Stage → Type 0
IsInside Before = ⊥
IsInside (Keeping least) = Unit {0}
IsInside Running = Unit {0}

-- A frame of this kind with this body stands for the piece, which may come next after so many events.
abbrev pub Means : Stage → ℕ → ℕ → List ℕ → Piece → Type 0
Means stage events kind body AReply = (stage ≡ Before) × (kind ≡ 64) × IsReplyBody body
Means stage events kind body (Head config run) = (stage ≡ Before) × (kind ≡ 96) × IsHeadBody body config run
Means stage events kind body (AKept kept) = (kind ≡ 97) × KeepsFrom stage (λ least. IsKeptBody least body kept)
Means stage events kind body (AnEvent event) = IsInside stage × (kind ≡ 98) × IsEventBody events body event
Means stage events kind body End = ⊥

-- bytes that spell the piece, which may come next after so many events
pub record Spells (stage : Stage) (events : ℕ) (piece : Piece) (text : List ℕ) : Type 0 where
  pub kind : ℕ
  pub body : List ℕ
  pub means : Means stage events kind body piece
  pub size : length body + 1 ≤ 2097152
  pub text_is : text ≡ frame kind body

-- ---- what reading finds

-- an answer, with what was put into the place that was lent for it
abbrev pub placed : {A B E : Type 0} → Result A E → B → Result B E
placed (Ok done) x = Ok x
placed (Err e) x = Err e

-- the event at this place that reading gives
abbrev pub IsEventRead : ℕ → Result (NodeId × ToldHappened) Refusal → Piece → Type 0
IsEventRead place read AReply = ⊥
IsEventRead place read (Head config run) = ⊥
IsEventRead place read (AKept kept) = ⊥
IsEventRead place read (AnEvent event) = (event.place ≡ place) × (read ≡ Ok (event.node, happened_told event.happened))
IsEventRead place read End = ⊥

-- nothing is found
abbrev pub IsNone : {A : Type 0} → (A → Type 0) → Type 0
IsNone {A} Is = (x : A) → Is x → ⊥

-- a call found such a thing, or there is none, or memory ran out
abbrev pub Finds : {A : Type 0} → (A → Type 0) → Result A Refusal → Type 0
Finds Is (Ok x) = Is x
Finds Is (Err Memory) = ⊤
Finds Is (Err (Short need)) = IsNone Is
Finds Is (Err (TooLong size)) = IsNone Is
Finds Is (Err (BadKind byte)) = IsNone Is
Finds Is (Err (BadNumber at)) = IsNone Is
Finds Is (Err (Long extra)) = IsNone Is
