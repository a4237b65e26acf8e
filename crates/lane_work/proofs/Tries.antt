-- What a try of a cluster's call makes of its pass.
use Rattle.std.proofs.Common.{◌≡◌, ℕ, Bool, true, false, List, [], ◌∷◌, ◌++◌, Ok, refl, sym, ap, ◌∙◌, subst}
use Rattle.cluster.specs.Events.{AnswersCall, AnswersLead, AnswersTurn, Holder, IsBusy, IsEvent, IsIdle, IsTurnInput, TakesUp, own_event}
use Rattle.cluster.specs.declared.answering.Called.{Called}
use Rattle.cluster.specs.declared.answering.Called.TheVariants.{Answered as CalledAnswered, Spent as CalledSpent}
use Rattle.cluster.specs.declared.answering.Turn.TheVariants.{Handled, Spent as TurnSpent}
use Rattle.counted_node.specs.Counted.{counted_meanings}
use Rattle.history_frame.specs.declared.events.Happened.{Happened}
use Rattle.history_frame.specs.declared.inputs.Call.{Call}
use Rattle.history_frame.specs.declared.inputs.Input.{Input}
use Rattle.history_frame.specs.declared.inputs.Input.TheVariants.{Call as ACall, Lead}
use Rattle.log_base.proofs.Legal.{legal_last}
use Rattle.log_base.specs.declared.machine.Committed.{Committed}
use Rattle.reply_frame.specs.declared.replies.Reply.{Reply}
use Rattle.schedule_model.specs.Streams.{IsSingle}
use Rattle.schedule_model.proofs.Singles.{row_reply}
use Rattle.tied_cells.specs.declared.account.Account.{Account}
use Rattle.tied_cells.specs.declared.board.Own.{Own}
use Rattle.tied_cells.specs.declared.mail.Fetched.{Fetched}
use Rattle.tied_cells.specs.declared.mail.Fetched.TheVariants.{Letter as GotLetter, Empty}
use Rattle.tied_cells.specs.Turns.{HasLeft, IsSpent}
use Rattle.lane_work.specs.declared.calling.Asked.TheVariants.{Answered, Spent as AskedSpent}
use Rattle.lane_work.specs.declared.stages.Due.{Due}
use Rattle.lane_work.specs.declared.turning.Went.TheVariants.{Made, Spent}
use Rattle.lane_work.specs.Keeping.{Makes, MakesCall}
use Rattle.lane_work.specs.Stages.{IsTurnAt, IsTurned}

takes_turned : (fetched : Fetched) (input : Input) → TakesUp fetched input → IsTurned input
takes_turned (GotLetter letter) input t = subst IsTurned (sym t.1) tt
takes_turned Empty input t = subst IsTurned (sym t) tt

turn_turned : {A : Type 0} (down : Bool) (node : ℕ) (old new : Holder A) (input : Input) → IsTurnInput down node old new input → IsTurned input
turn_turned true node old new input h = subst IsTurned (sym h.1) tt
turn_turned false node old new input h = takes_turned h.0 input h.2

pub busy_own : {A : Type 0} (node : ℕ) (old new : Holder A) → IsBusy node old new → new.0.own ≡ old.0.own
busy_own node old new busy i = (busy.2 i).0.own

-- what a node answers is no stream
event_single : {A : Type 0} (nodes node place lost : ℕ) (es : List (Committed Happened)) (old new : Holder A) (happened : Happened)
    → IsEvent nodes old new node place lost es happened → IsSingle happened.reply
event_single nodes node place lost es old new happened event =
    let next = legal_last counted_meanings old.0.deal.starts event.placed.before (record { node = node; happened = happened }) event.placed.legal in
    row_reply _ _ _ happened next.2.row

-- a try behind tries in vain, which changed neither the pass's events nor its account
module _ {A : Type 0} (nodes node : ℕ) (first before now : Account) (own : List (Own Happened)) (old new : Holder A)
    (same_own : old.0.own ≡ own) (same : before ≡ first) where
  pub turn_made : (place lost : ℕ) → AnswersTurn nodes node before old new (Handled place lost) → Makes (IsTurnAt node) first now own new.0.own (Ok Made)
  turn_made place lost h = let t = h.1.1 in (
    subst HasLeft same h.0,
    (
      own_event place node t.happened,
      t.event.own ∙ (λ i. same_own i ++ own_event place node t.happened ∷ []),
      (refl, turn_turned _ node _ t.taken t.happened.input t.input),
    ),
  )

  pub turn_spent : AnswersTurn nodes node before old new TurnSpent → now ≡ before → Makes (IsTurnAt node) first now own new.0.own (Ok Spent)
  turn_spent h kept = (subst IsSpent same h.0, kept ∙ same, (λ i. (h.1 i).0.own) ∙ same_own)

  pub lead_made : (is : Own Happened → Type 0) → ((event : Own Happened) → event.node ≡ node → event.happened.input ≡ Lead → is event)
      → (place lost : ℕ) → AnswersLead nodes node before old new (Handled place lost) → Makes is first now own new.0.own (Ok Made)
  lead_made is ordered place lost h = let t = h.1.2 in (
    subst HasLeft same h.0,
    (own_event place node t.happened, t.event.own ∙ (λ i. same_own i ++ own_event place node t.happened ∷ []), ordered _ refl t.input_is),
  )

  pub lead_spent : (is : Own Happened → Type 0) → AnswersLead nodes node before old new TurnSpent → now ≡ before → Makes is first now own new.0.own (Ok Spent)
  lead_spent is h kept = (subst IsSpent same h.0, kept ∙ same, (λ i. (h.1 i).0.own) ∙ same_own)

  pub call_made : (due : Due) → due.node.0 ≡ node → (call : Call) → call ≡ due.call → (place : ℕ) (reply : Reply) (called : Called) → called ≡ CalledAnswered place reply
      → AnswersCall nodes node call before old new called
      → MakesCall due first now own new.0.own (Ok (Answered reply))
  call_made due here call same_call place reply called is a = let h = subst (AnswersCall nodes node call before old new) is a in let t = h.1.2 in (
    subst HasLeft same h.0,
    (
      own_event place node t.happened,
      t.event.own ∙ (λ i. same_own i ++ own_event place node t.happened ∷ []),
      (sym here, t.input_is ∙ ap (λ (x : Call). ACall x) same_call, t.reply_is),
    ),
    subst IsSingle t.reply_is (event_single nodes node place h.1.1 h.1.0 old new t.happened t.event),
  )

  pub call_spent : (due : Due) → AnswersCall nodes node due.call before old new CalledSpent → now ≡ before → MakesCall due first now own new.0.own (Ok AskedSpent)
  call_spent due h kept = (subst IsSpent same h.0, kept ∙ same, (λ i. (h.1 i).0.own) ∙ same_own)

  pub idle_own : IsIdle old new → new.0.own ≡ own
  idle_own idle = idle.own ∙ same_own
