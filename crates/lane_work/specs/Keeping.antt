-- What is so of a lane's pass, its session and its item at each moment, and what one try makes of the pass.
use Rattle.std.specs.Prelude.{◌≡◌, ℕ, ◌<◌, ◌≤◌, List, [], ◌∷◌, ◌++◌, length, slice_get, Option, Some, None, Result, Ok, Err}
use Rattle.client_session.specs.Sessions.{Drawing}
use Rattle.client_session.specs.declared.pair.Pair.{Pair}
use Rattle.cluster.specs.Submitting.{MaySubmit}
use Rattle.command_frame.specs.declared.items.Item.{Item}
use Rattle.history_frame.specs.declared.events.Happened.{Happened}
use Rattle.history_frame.specs.declared.inputs.Input.TheVariants.{Call as ACall}
use Rattle.log_base.specs.ClusterShape.{Shape}
use Rattle.log_base.specs.Draws.{number_of_draw}
use Rattle.log_base.specs.declared.outside.Memory.{Memory}
use Rattle.node_model.specs.Legal.{submitted}
use Rattle.node_table.specs.Numbering.{nodes_of}
use Rattle.record_frame.specs.declared.entries.Entry.{Entry}
use Rattle.reply_frame.specs.declared.replies.Reply.{Reply}
use Rattle.schedule_model.specs.Streams.{IsSingle}
use Rattle.schedule_model.specs.declared.duties.Duty.TheVariants.{MakeCall}
use Rattle.schedule_model.proofs.Permitted.{IsPermitted, IsStorageNode}
use Rattle.tied_cells.specs.declared.account.Account.{Account}
use Rattle.tied_cells.specs.declared.board.Own.{Own}
use Rattle.tied_cells.specs.Turns.{HasLeft, IsSpent}
use Rattle.lane_work.specs.declared.calling.Asked.{Asked}
use Rattle.lane_work.specs.declared.calling.Asked.TheVariants.{Answered, Spent as AskedSpent}
use Rattle.lane_work.specs.declared.serving.Step.{Step}
use Rattle.lane_work.specs.declared.serving.Step.TheVariants.{Goes, Done}
use Rattle.lane_work.specs.declared.stages.Due.{Due}
use Rattle.lane_work.specs.declared.stages.Stage.{Stage}
use Rattle.lane_work.specs.declared.stages.Stage.TheVariants.{Asks, Turns, Replied}
use Rattle.lane_work.specs.declared.turning.Went.{Went}
use Rattle.lane_work.specs.declared.turning.Went.TheVariants.{Made, Spent}
use Rattle.lane_work.specs.Items.{Leads}
use Rattle.lane_work.specs.Lanes.{GoOnFrom}
use Rattle.lane_work.specs.Stages.{AreDue, IsDue, IsReplyAt, IsTurnAt, after_event, after_events, begun, unplaced_stage}

-- ---- tries

-- One event of this kind is made, unless the pass is spent, or memory runs out.
abbrev pub Makes : (Own Happened → Type 0) → Account → Account → List (Own Happened) → List (Own Happened) → Result Went Memory → Type 0
Makes is old new before after (Ok Made) = HasLeft old × ((event : Own Happened) × (after ≡ before ++ event ∷ []) × is event)
Makes is old new before after (Ok Spent) = IsSpent old × (new ≡ old) × (after ≡ before)
Makes is old new before after (Err memory) = after ≡ before

-- the call that is due is made, and this is its answer
abbrev pub IsAnswered : Due → Reply → Own Happened → Type 0
IsAnswered due reply event = (event.node ≡ due.node.0) × (event.happened.input ≡ ACall due.call) × (event.happened.reply ≡ reply)

-- likewise a call
abbrev pub MakesCall : Due → Account → Account → List (Own Happened) → List (Own Happened) → Result Asked Memory → Type 0
MakesCall due old new before after (Ok (Answered reply)) =
    HasLeft old × ((event : Own Happened) × (after ≡ before ++ event ∷ []) × IsAnswered due reply event) × IsSingle reply
MakesCall due old new before after (Ok AskedSpent) = IsSpent old × (new ≡ old) × (after ≡ before)
MakesCall due old new before after (Err memory) = after ≡ before

-- ---- turns of a round

-- these are turns of the nodes in order, from the first on
abbrev pub AreTurns : List (Own Happened) → Type 0
AreTurns events = (k : ℕ) (event : Own Happened) → slice_get events k ≡ Some event → IsTurnAt k event

-- these turns were made, of all nodes unless the pass is spent or memory ran out
pub record IsTurned (nodes : ℕ) (before after : List (Own Happened)) (all : ℕ → Type 0) : Type 0 where
  pub events : List (Own Happened)
  pub after_are : after ≡ before ++ events
  pub turns : AreTurns events
  pub few : length events ≤ nodes
  pub ends : all (length events)

abbrev pub TurnsAll : ℕ → Account → List (Own Happened) → List (Own Happened) → Result Went Memory → Type 0
TurnsAll nodes account before after (Ok Made) = IsTurned nodes before after (λ (count : ℕ). count ≡ nodes)
TurnsAll nodes account before after (Ok Spent) = IsTurned nodes before after (λ (count : ℕ). IsSpent account)
TurnsAll nodes account before after (Err memory) = IsTurned nodes before after (λ (count : ℕ). Unit {0})

-- ---- what may be called

-- a call that is due is one of the cluster's, and the pass of this number may make it
pub record MayAsk (config : Shape) (run number : ℕ) (own : List (Own Happened)) (due : Due) : Type 0 where
  pub permitted : IsPermitted config (MakeCall due.node due.call due.awaited)
  pub may : MaySubmit run number due.node.0 own (ACall due.call)

-- the call of an item that is not done is such a one, and the node that is turned next is one of the cluster's
abbrev pub StandsWith : Shape → (Due → Type 0) → Stage → Type 0
StandsWith config is (Asks asking) = is asking.due
StandsWith config is (Turns next asking) = (next.0 < nodes_of config) × is asking.due
StandsWith config is (Replied reply) = Unit {0}

abbrev pub MayGo : Shape → ℕ → ℕ → List (Own Happened) → Stage → Type 0
MayGo config run number own stage = StandsWith config (λ (due : Due). MayAsk config run number own due) stage

-- what the pass submitted was drawn before the draw of this number
abbrev pub AreDrawn : ℕ → ℕ → List (Own Happened) → Type 0
AreDrawn run draws own = (k : ℕ) (event : Own Happened) → slice_get own k ≡ Some event
    → (entry : Entry) → submitted event.happened.input ≡ Some entry → entry.number.0 < number_of_draw run draws

-- a pair was drawn for a storage node
abbrev pub IsForStorage : Shape → Option Pair → Type 0
IsForStorage config None = Unit {0}
IsForStorage config (Some pair) = IsStorageNode config pair.node.0

-- between the items of a lane: its session draws for the pass's client, and drew what the pass submitted
pub record IsBetween (config : Shape) (run number : ℕ) (session : Drawing) (own : List (Own Happened)) : Type 0 where
  pub client_is : session.client ≡ number
  pub run_is : session.run ≡ run
  pub last : IsForStorage config session.last
  pub drawn : AreDrawn run session.draws own

-- ---- steps of an item

-- an item makes the event that is due, or has its reply
abbrev pub Steps : Shape → Stage → Account → Account → List (Own Happened) → List (Own Happened) → Result Step Memory → Type 0
Steps config stage old new before after (Ok (Goes next)) =
    HasLeft old × ((event : Own Happened) × (after ≡ before ++ event ∷ []) × IsDue stage event × (unplaced_stage next ≡ after_event config stage event))
Steps config stage old new before after (Ok (Done reply)) = (after ≡ before) × (new ≡ old) × IsReplyAt new [] stage reply
Steps config stage old new before after (Err memory) = GoOnFrom before after

-- an item went from a stage to its reply; a pass that was spent before made no event
pub record IsServed (config : Shape) (stage : Stage) (old new : Account) (before after : List (Own Happened)) (reply : Reply) : Type 0 where
  pub events : List (Own Happened)
  pub after_are : after ≡ before ++ events
  pub each_due : AreDue config stage events
  pub ends : IsReplyAt new [] (after_events config stage events) reply
  pub stays : IsSpent old → (events ≡ []) × (new ≡ old)

abbrev pub Serves : Shape → Stage → Account → Account → List (Own Happened) → List (Own Happened) → Result Reply Memory → Type 0
Serves config stage old new before after (Ok reply) = IsServed config stage old new before after reply
Serves config stage old new before after (Err memory) = GoOnFrom before after

-- after its reply an order to lead may follow
pub record IsLed (config : Shape) (lane : ℕ) (old new : Account) (before after : List (Own Happened)) (reply : Reply) : Type 0 where
  pub led : List (Own Happened)
  pub after_are : after ≡ before ++ led
  pub leads : Leads config lane new reply led []
  pub stays : IsSpent old → (led ≡ []) × (new ≡ old)

abbrev pub LeadsOn : Shape → ℕ → Account → Account → List (Own Happened) → List (Own Happened) → Reply → Result (Unit {0}) Memory → Type 0
LeadsOn config lane old new before after reply (Ok done) = IsLed config lane old new before after reply
LeadsOn config lane old new before after reply (Err memory) = GoOnFrom before after

-- An item was served, from its beginning to its reply and to the order to lead behind it. A pass that was spent before made no event.
pub record HasAnswer (config : Shape) (lane : ℕ) (session : Drawing) (item : Item) (old new : Account) (before after : List (Own Happened)) (reply : Reply) : Type 0 where
  pub own : List (Own Happened)
  pub led : List (Own Happened)
  pub after_are : after ≡ before ++ (own ++ led)
  pub each_due : AreDue config (begun config session item) own
  pub ends : IsReplyAt new led (after_events config (begun config session item) own) reply
  pub leads : Leads config lane new reply led []
  pub stays : IsSpent old → (own ++ led ≡ []) × (new ≡ old)

abbrev pub AnswersItem : Shape → ℕ → Drawing → Item → Account → Account → List (Own Happened) → List (Own Happened) → Result Reply Memory → Type 0
AnswersItem config lane session item old new before after (Ok reply) = HasAnswer config lane session item old new before after reply
AnswersItem config lane session item old new before after (Err memory) = GoOnFrom before after
