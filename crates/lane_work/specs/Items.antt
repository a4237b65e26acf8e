-- How the items of a lane go, one after another.
use Rattle.std.specs.Prelude.{◌≡◌, ◌⊎◌, ℕ, ◌%◌, List, [], ◌∷◌, ◌++◌, ◌==◌, filter}
use Rattle.client_session.specs.Sessions.{Drawing}
use Rattle.command_frame.specs.declared.items.Item.{Item}
use Rattle.command_frame.specs.declared.items.Item.TheVariants.{Append, Read, Subscribe, Trim, Add, Finalise, Ask, Fault}
use Rattle.history_frame.specs.declared.events.Happened.{Happened}
use Rattle.history_frame.specs.declared.inputs.Input.TheVariants.{Lead}
use Rattle.log_base.specs.ClusterShape.{Shape}
use Rattle.node_table.specs.Numbering.{orderer_node}
use Rattle.reply_frame.specs.declared.replies.Reply.{Reply, NoLeader}
use Rattle.tied_cells.specs.declared.account.Account.{Account}
use Rattle.tied_cells.specs.declared.board.Own.{Own}
use Rattle.tied_cells.specs.Turns.{IsSpent}
use Rattle.lane_work.specs.Stages.{AreDue, IsReplyAt, after_events, after_item, begun}

-- the lane of an item
abbrev pub lane_of : Item → ℕ
lane_of (Append lane shard replica bytes) = lane
lane_of (Read lane shard replica position) = lane
lane_of (Subscribe lane shard replica from count) = lane
lane_of (Trim lane position) = lane
lane_of (Add lane shard) = lane
lane_of (Finalise lane shard) = lane
lane_of (Ask lane) = lane
lane_of (Fault lane fault) = lane

-- the items of a lane, in order
abbrev pub items_of : ℕ → List Item → List Item
items_of lane items = filter (λ (item : Item). lane_of item == lane) items

-- the lane's orderer is ordered to lead
abbrev pub IsLeadOf : Shape → ℕ → Own Happened → Type 0
IsLeadOf config lane event = (event.node ≡ orderer_node config (lane % config.orderers)) × (event.happened.input ≡ Lead)

-- After a reply that no orderer leads the lane orders its own to lead, once, unless the pass is spent, which makes no event later then.
abbrev pub Leads : Shape → ℕ → Account → Reply → List (Own Happened) → List (Own Happened) → Type 0
Leads config lane account NoLeader led later =
    ((event : Own Happened) × (led ≡ event ∷ []) × IsLeadOf config lane event) ⊎ (IsSpent account × (led ≡ []) × (later ≡ []))
Leads config lane account _ led later = led ≡ []

-- One item of a lane: it makes events, each the one that was due, and has its reply; an order to lead may follow, and then the
-- others go.
pub record ItemGoes (config : Shape) (lane : ℕ) (account : Account) (session : Drawing) (item : Item) (others_go : List (Own Happened) → List Reply → Type 0)
    (events : List (Own Happened)) (replies : List Reply) : Type 0 where
  pub own : List (Own Happened)
  pub led : List (Own Happened)
  pub later : List (Own Happened)
  pub reply : Reply
  pub others : List Reply
  pub events_are : events ≡ own ++ (led ++ later)
  pub replies_are : replies ≡ reply ∷ others
  pub each_due : AreDue config (begun config session item) own
  pub ends : IsReplyAt account (led ++ later) (after_events config (begun config session item) own) reply
  pub leads : Leads config lane account reply led later
  pub go_on : others_go later others

-- The items of a lane go one after another, from this session of the lane's client on. The pass makes these events, has this account
-- after them, and the items have these replies. Once it was found spent, no event follows.
abbrev pub ItemsGo : Shape → ℕ → Account → Drawing → List Item → List (Own Happened) → List Reply → Type 0
ItemsGo config lane account session [] events replies = (events ≡ []) × (replies ≡ [])
ItemsGo config lane account session (item ∷ items) events replies =
    ItemGoes config lane account session item (ItemsGo config lane account (after_item config session item) items) events replies
