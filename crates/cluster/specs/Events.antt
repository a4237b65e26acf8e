-- An event of a pass at a node, and what the calls of a cluster answer.
use Rattle.std.specs.Prelude.{◌≡◌, ◌≢◌, ◌⊎◌, ℕ, ◌+◌, List, [], ◌∷◌, ◌++◌, Bool, true, false, map, slice_get, Some, None}
use Rattle.answer_law.specs.Frames.{FitsFrame}
use Rattle.atomic_table.specs.Table.{Me}
use Rattle.core_step.specs.Known.{is_down}
use Rattle.counted_node.specs.Counted.{CountedState, counted_meanings}
use Rattle.history_frame.specs.declared.events.Happened.{Happened}
use Rattle.history_frame.specs.declared.inputs.Call.{Call}
use Rattle.history_frame.specs.declared.inputs.Input.{Input}
use Rattle.history_frame.specs.declared.inputs.Input.TheVariants.{Deliver, Call as ACall, Tick, Lead, Restart}
use Rattle.log_base.specs.Machines.{state_after}
use Rattle.log_base.specs.declared.machine.Committed.{Committed}
use Rattle.message_frame.specs.declared.messages.Message.{Message}
use Rattle.message_frame.specs.Spelling.{IsMessage, message_spelling}
use Rattle.node_model.specs.Machine.{ClusterNode, node_meanings, posted}
use Rattle.reply_frame.specs.declared.replies.Reply.{Reply}
use Rattle.tied_cells.specs.declared.account.Account.{Account}
use Rattle.tied_cells.specs.declared.board.Cell.{Cell}
use Rattle.tied_cells.specs.declared.board.Own.{Own}
use Rattle.tied_cells.specs.declared.board.Stored.{Stored}
use Rattle.tied_cells.specs.declared.board.Stored.TheVariants.{Nothing}
use Rattle.tied_cells.specs.declared.letter.Letter.{Letter}
use Rattle.tied_cells.specs.declared.mail.Fetched.{Fetched}
use Rattle.tied_cells.specs.declared.mail.Fetched.TheVariants.{Letter as GotLetter, Empty}
use Rattle.tied_cells.specs.Boxes.{Fetches}
use Rattle.tied_cells.specs.History.{StandsAfter, happened_of}
use Rattle.tied_cells.specs.Turns.{HasLeft, HasTurn, HoldsNothing, IsSpent}
use Rattle.tied_cells.specs.Views.{IsPlaced, holding, noted}
use Rattle.cluster.specs.declared.answering.Called.{Called}
use Rattle.cluster.specs.declared.answering.Called.TheVariants.{Answered, Busy as CalledBusy, Spent as CalledSpent}
use Rattle.cluster.specs.declared.answering.Turn.{Turn}
use Rattle.cluster.specs.declared.answering.Turn.TheVariants.{Handled, Busy, Spent}
use Rattle.cluster.specs.Clusters.{PassView}
use Rattle.cluster.specs.Posting.{AllGoOut}

-- what a pass of a cluster knows and has
abbrev pub Holder : Type 0 → Type 0
Holder A = Me (Stored A Happened) PassView

abbrev pub own_event : ℕ → ℕ → Happened → Own Happened
own_event place node happened = record { place = place; node = node; happened = happened }

-- what a pass knows, but for what its work changes
abbrev pub but_work : PassView → PassView → PassView
but_work old new = record old {
  own = new.own;
  turn = new.turn;
  boxed = new.boxed;
  fetched = new.fetched;
  posted = new.posted;
  notes = new.notes;
}

module _ {A : Type 0} where
  -- it is the same pass after some work
  abbrev pub IsSamePass : Holder A → Holder A → Type 0
  IsSamePass old new = new.0 ≡ but_work old.0 new.0

  -- It made no event and posted no letter. It may have fetched one, which is lost then, and have noted words.
  pub record IsIdle (old new : Holder A) : Type 0 where
    pub same : IsSamePass old new
    pub own : new.0.own ≡ old.0.own
    pub posted_are : new.0.posted ≡ old.0.posted

  -- It made an event under its turn at a node, behind these events of the node.
  pub record Commits (old new : Holder A) (node place : ℕ) (events : List (Committed Happened)) (happened : Happened) : Type 0 where
    pub same : IsSamePass old new
    pub own : new.0.own ≡ old.0.own ++ own_event place node happened ∷ []
    pub posted_are : new.0.posted ≡ old.0.posted
    pub placed : IsPlaced counted_meanings old.0.deal.starts (record { node = node; events = events }) place happened

-- A pass has the turn at a node, with its cell, and the node stands after its events.
pub record HeldAt {A : Type 0} (state : A → CountedState) (me : Holder A) (node : ℕ) (cell : Cell A Happened) : Type 0 where
  pub turn : HasTurn me node cell
  pub stands : StandsAfter state counted_meanings me.0.deal.starts node cell.machine cell.events.items

-- an input delivers a letter
abbrev pub Delivers : Letter → Input → Type 0
Delivers letter input = (message : Message) × (input ≡ Deliver letter.place letter.index (Some message)) × IsMessage message × (letter.bytes ≡ message_spelling message)

-- a letter that was fetched is delivered, and where there was none time passes
abbrev pub TakesUp : Fetched → Input → Type 0
TakesUp (GotLetter letter) input = Delivers letter input
TakesUp Empty input = input ≡ Tick

-- the input of a turn at a node: it starts where it is down, and else a letter is fetched for it
abbrev pub IsTurnInput : {A : Type 0} → Bool → ℕ → Holder A → Holder A → Input → Type 0
IsTurnInput true node old new input = (new ≡ old) × (input ≡ Restart)
IsTurnInput false node old new input = (fetched : Fetched) × Fetches counted_meanings node old new fetched × TakesUp fetched input

-- a node and its counts after its events
abbrev pub counted_now : CountedState → List (Committed Happened) → CountedState
counted_now start events = state_after counted_meanings start (map happened_of events)

-- the node after its events
abbrev pub node_now : CountedState → List (Committed Happened) → ClusterNode
node_now start events = (counted_now start events).node

-- an input fits a node, whatever its events were
abbrev pub FitsAlways : List CountedState → ℕ → Input → Type 0
FitsAlways starts node input = (start : CountedState) → slice_get starts node ≡ Some start → (events : List (Committed Happened)) → node_meanings.fits (node_now start events) input

module _ {A : Type 0} where
  -- An event under a turn that the pass has: a turn's, with its letters.
  pub record TurnsUnder (held new : Holder A) (node place : ℕ) (events : List (Committed Happened)) (letters : List (ℕ × List ℕ)) : Type 0 where
    pub happened : Happened
    pub commits : Commits held new node place events happened
    pub letters_are : letters ≡ map posted happened.outputs
    pub fits_frame : FitsFrame happened
    pub start : CountedState
    pub starts_so : slice_get held.0.deal.starts node ≡ Some start
    pub taken : Holder A
    pub input : IsTurnInput (is_down (node_now start events).state) node held taken happened.input
    pub fetched : (new.0.fetched ≡ None) ⊎ (new.0.fetched ≡ held.0.fetched)

  -- the same of an input that is given to the node
  pub record GivenUnder (held new : Holder A) (node place : ℕ) (events : List (Committed Happened)) (letters : List (ℕ × List ℕ)) (input : Input) (reply : Reply) : Type 0 where
    pub happened : Happened
    pub commits : Commits held new node place events happened
    pub letters_are : letters ≡ map posted happened.outputs
    pub fits_frame : FitsFrame happened
    pub input_is : happened.input ≡ input
    pub reply_is : happened.reply ≡ reply
    pub fetched : new.0.fetched ≡ held.0.fetched

  -- A pass made an event: it stands at its place in a legal history and fits a frame, its letters went out one after another, and
  -- so many are lost. The turn is given back.
  pub record IsEvent (nodes : ℕ) (old new : Holder A) (node place lost : ℕ) (events : List (Committed Happened)) (happened : Happened) : Type 0 where
    pub same : IsSamePass old new
    pub own : new.0.own ≡ old.0.own ++ own_event place node happened ∷ []
    pub placed : IsPlaced counted_meanings old.0.deal.starts (record { node = node; events = events }) place happened
    pub fits_frame : FitsFrame happened
    pub free : HoldsNothing new
    pub committed : Holder A
    pub posted_are : committed.0.posted ≡ old.0.posted
    pub go_out : AllGoOut nodes place 0 (map posted happened.outputs) committed new lost

  -- A turn at a node is an event: of the node as it stands after its events, and of what the pass fetched when it had the turn.
  pub record IsTurn (nodes : ℕ) (old held new : Holder A) (node place lost : ℕ) (events : List (Committed Happened)) : Type 0 where
    pub happened : Happened
    pub event : IsEvent nodes old new node place lost events happened
    pub start : CountedState
    pub starts_so : slice_get old.0.deal.starts node ≡ Some start
    pub taken : Holder A
    pub input : IsTurnInput (is_down (node_now start events).state) node held taken happened.input
    pub fetched : (new.0.fetched ≡ None) ⊎ (new.0.fetched ≡ old.0.fetched)

  -- an input that is given to a node is an event, with this reply
  pub record IsGiven (nodes : ℕ) (old new : Holder A) (node place lost : ℕ) (events : List (Committed Happened)) (input : Input) (reply : Reply) : Type 0 where
    pub happened : Happened
    pub event : IsEvent nodes old new node place lost events happened
    pub input_is : happened.input ≡ input
    pub reply_is : happened.reply ≡ reply
    pub fetched : new.0.fetched ≡ old.0.fetched

  -- what a pass knows and has when it has the turn at a node
  abbrev pub at_turn : Holder A → ℕ → List (Committed Happened) → Holder A
  at_turn old node events = (holding old.0 node events, (node, Nothing) ∷ [])

  -- another pass had the turn at the node, as the note says
  abbrev pub IsBusy : ℕ → Holder A → Holder A → Type 0
  IsBusy node old new = (found : ℕ) × (found ≢ 0) × (new ≡ (noted old.0 (node + 1) found, []))

  abbrev pub AnswersTurn : ℕ → ℕ → Account → Holder A → Holder A → Turn → Type 0
  AnswersTurn nodes node account old new (Handled place lost) =
      HasLeft account × ((events : List (Committed Happened)) × IsTurn nodes old (at_turn old node events) new node place lost events)
  AnswersTurn nodes node account old new Busy = HasLeft account × IsBusy node old new
  AnswersTurn nodes node account old new Spent = IsSpent account × (new ≡ old)

  abbrev pub AnswersLead : ℕ → ℕ → Account → Holder A → Holder A → Turn → Type 0
  AnswersLead nodes node account old new (Handled place lost) =
      HasLeft account × ((events : List (Committed Happened)) × (reply : Reply) × IsGiven nodes old new node place lost events Lead reply)
  AnswersLead nodes node account old new Busy = HasLeft account × IsBusy node old new
  AnswersLead nodes node account old new Spent = IsSpent account × (new ≡ old)

  abbrev pub AnswersCall : ℕ → ℕ → Call → Account → Holder A → Holder A → Called → Type 0
  AnswersCall nodes node call account old new (Answered place reply) =
      HasLeft account × ((events : List (Committed Happened)) × (lost : ℕ) × IsGiven nodes old new node place lost events (ACall call) reply)
  AnswersCall nodes node call account old new CalledBusy = HasLeft account × IsBusy node old new
  AnswersCall nodes node call account old new CalledSpent = IsSpent account × (new ≡ old)
