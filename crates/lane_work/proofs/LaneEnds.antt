-- What a lane leaves where memory ran out.
use Rattle.std.proofs.Common.{ℕ, List, ◌++◌, Result, Ok, Err, ◌∙◌, append_assoc}
use Rattle.std.specs.Result.{IsErr}
use Rattle.client_session.specs.Sessions.{Drawing}
use Rattle.command_frame.specs.declared.items.Item.{Item}
use Rattle.history_frame.specs.declared.events.Happened.{Happened}
use Rattle.log_base.specs.ClusterShape.{Shape}
use Rattle.log_base.specs.declared.outside.Memory.{Memory}
use Rattle.reply_frame.specs.declared.replies.Reply.{Reply}
use Rattle.tied_cells.specs.declared.account.Account.{Account}
use Rattle.tied_cells.specs.declared.board.Own.{Own}
use Rattle.lane_work.specs.Keeping.{HasAnswer}
use Rattle.lane_work.specs.Lanes.{Answers, GoOnFrom}
use Rattle.lane_work.proofs.ItemsLaw.{HaveGone}

pub answers_stop : (config : Shape) (run lane : ℕ) (items : List Item) (account : Account) (before after : List (Own Happened)) (answers : Result (List Reply) Memory)
    → IsErr answers → GoOnFrom before after → Answers config run lane items account before after answers
answers_stop config run lane items account before after (Ok replies) e more = let no : ⊥ = cc in absurd no
answers_stop config run lane items account before after (Err memory) e more = more

module _ (config : Shape) (lane run : ℕ) (account : Account) (before own after : List (Own Happened)) (session : Drawing) (items : List Item) (replies : List Reply)
    (gone : HaveGone config lane run account before own session items replies) where
  pub stops_later : GoOnFrom own after → GoOnFrom before after
  stops_later more = (gone.events ++ more.0, more.1 ∙ ((λ i. gone.own_are i ++ more.0) ∙ append_assoc before gone.events more.0))

  pub stops_behind : (item : Item) (new : Account) (reply : Reply) → HasAnswer config lane session item account new own after reply → GoOnFrom before after
  stops_behind item new reply answer = stops_later (answer.own ++ answer.led, answer.after_are)
