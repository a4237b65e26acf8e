-- What a call of a cluster does to the account of its pass.
use Rattle.std.specs.Prelude.{◌≡◌, List, [], ◌∷◌, ◌++◌}
use Rattle.history_frame.specs.Spelling.{event_size}
use Rattle.history_frame.specs.declared.events.Happened.{Happened}
use Rattle.tied_cells.specs.declared.account.Account.{Account}
use Rattle.tied_cells.specs.declared.board.Own.{Own}
use Rattle.tied_cells.specs.Turns.{charged}
use Rattle.cluster.specs.declared.answering.Called.{Called}
use Rattle.cluster.specs.declared.answering.Called.TheVariants.{Answered, Busy as CalledBusy, Spent as CalledSpent}
use Rattle.cluster.specs.declared.answering.Turn.{Turn}
use Rattle.cluster.specs.declared.answering.Turn.TheVariants.{Handled, Busy, Spent}

-- a pass with these events made one more, and its account is charged with the size of that event
pub record IsCharged (old new : Account) (before after : List (Own Happened)) : Type 0 where
  pub event : Own Happened
  pub after_is : after ≡ before ++ event ∷ []
  pub account_is : new ≡ charged old (event_size event.happened)

-- the account after a turn, or an order to lead: nothing but an event charges it
abbrev pub ChargesTurn : Account → Account → List (Own Happened) → List (Own Happened) → Turn → Type 0
ChargesTurn old new before after (Handled place lost) = IsCharged old new before after
ChargesTurn old new before after Busy = new ≡ old
ChargesTurn old new before after Spent = new ≡ old

-- the account after a call
abbrev pub ChargesCall : Account → Account → List (Own Happened) → List (Own Happened) → Called → Type 0
ChargesCall old new before after (Answered place reply) = IsCharged old new before after
ChargesCall old new before after CalledBusy = new ≡ old
ChargesCall old new before after CalledSpent = new ≡ old
