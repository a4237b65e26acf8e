-- What a lane makes of its pass, and with which pass it may begin.
use Rattle.std.specs.Prelude.{◌≡◌, ℕ, List, ◌++◌, slice_get, Some, None, Result, Ok, Err}
use Rattle.atomic_table.specs.Seated.{TableId}
use Rattle.client_session.specs.Sessions.{fresh}
use Rattle.cluster.specs.Clusters.{IsPassOf, PassSeat}
use Rattle.command_frame.specs.declared.items.Item.{Item}
use Rattle.history_frame.specs.declared.events.Happened.{Happened}
use Rattle.log_base.specs.ClusterShape.{Shape}
use Rattle.log_base.specs.declared.outside.Memory.{Memory}
use Rattle.node_model.specs.Legal.{submitted}
use Rattle.node_model.specs.NodeState.{KeptLists}
use Rattle.reply_frame.specs.declared.replies.Reply.{Reply}
use Rattle.tied_cells.specs.declared.account.Account.{Account}
use Rattle.tied_cells.specs.declared.board.Own.{Own}
use Rattle.lane_work.specs.Items.{ItemsGo, items_of}

-- a pass has submitted nothing
abbrev pub SubmitsNone : List (Own Happened) → Type 0
SubmitsNone own = (k : ℕ) (event : Own Happened) → slice_get own k ≡ Some event → submitted event.happened.input ≡ None

-- the events of a pass go on from those before
abbrev pub GoOnFrom : List (Own Happened) → List (Own Happened) → Type 0
GoOnFrom before after = (events : List (Own Happened)) × (after ≡ before ++ events)

-- The lane made events behind those before: its items went by them, and have these replies. Where memory ran out, only that it
-- made some.
abbrev pub Answers : Shape → ℕ → ℕ → List Item → Account → List (Own Happened) → List (Own Happened) → Result (List Reply) Memory → Type 0
Answers config run lane items account before after (Ok replies) =
    (events : List (Own Happened)) × (after ≡ before ++ events) × ItemsGo config lane account (fresh lane run) (items_of lane items) events replies
Answers config run lane items account before after (Err memory) = GoOnFrom before after

module _ {A : Type 0} (config : Shape) (run : ℕ) (kept : KeptLists) (table : TableId) where
  -- a pass fits a lane: it has the lane's number, and submitted nothing
  pub record FitsLane (lane : ℕ) (seat : PassSeat A) : Type 0 where
    pub pass : IsPassOf config run kept table lane seat
    pub fresh_pass : SubmitsNone seat.me.0.own

  -- what a lane makes of its pass: the pass stays one of the cluster's, with its number, and the items go
  pub record LaneGoes (lane : ℕ) (items : List Item) (old new : PassSeat A) (account : Account) (answers : Result (List Reply) Memory) : Type 0 where
    pub pass : IsPassOf config run kept table lane new
    pub went : Answers config run lane items account old.me.0.own new.me.0.own answers
