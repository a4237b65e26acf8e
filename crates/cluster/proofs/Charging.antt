-- An account is charged with the event that its pass made.
use Rattle.std.proofs.Common.{◌≡◌, ℕ, List, [], ◌∷◌, ◌++◌, ◌∙◌, sym}
use Rattle.counted_node.specs.Counted.{counted_meanings}
use Rattle.history_frame.specs.Spelling.{event_size}
use Rattle.history_frame.specs.declared.events.Happened.{Happened}
use Rattle.tied_cells.specs.declared.account.Account.{Account}
use Rattle.tied_cells.specs.declared.board.Own.{Own}
use Rattle.tied_cells.specs.Turns.{charged}
use Rattle.tied_cells.specs.Views.{grown, turn_node}
use Rattle.cluster.specs.Accounting.{IsCharged}
use Rattle.cluster.specs.Events.{Holder, own_event}
use Rattle.cluster.proofs.Choosing.{but_fetched}

-- an event got its place
pub charged_at : {A : Type 0} (held taken done : Holder A) (old between new : Account) (place size : ℕ) (happened : Happened) (slots : List _) → taken ≡ but_fetched held taken
    → done ≡ (grown counted_meanings taken.0 place happened, slots) → between ≡ old → size ≡ event_size happened → new ≡ charged between size → IsCharged old new held.0.own done.0.own
charged_at held taken done old between new place size happened slots only is same size_is account_is = record {
  event = own_event place (turn_node taken.0.turn) happened;
  after_is = (λ i. (is i).0.own) ∙ (λ i. (only i).0.own ++ own_event place (turn_node taken.0.turn) happened ∷ []);
  account_is = account_is ∙ (λ i. charged (same i) (size_is i));
}

-- what changes neither account nor events
pub charged_moves : (old old' new new' : Account) (before before' after after' : List (Own Happened)) → IsCharged old new before after
    → old' ≡ old → new' ≡ new → before' ≡ before → after' ≡ after → IsCharged old' new' before' after'
charged_moves old old' new new' before before' after after' h old_is new_is before_is more = record {
  event = h.event;
  after_is = more ∙ (h.after_is ∙ (λ i. sym before_is i ++ h.event ∷ []));
  account_is = new_is ∙ (h.account_is ∙ (λ i. charged (sym old_is i) (event_size h.event.happened)));
}
