-- What an orderer remembers is in range, so that what it says has a spelling.
use Rattle.std.specs.Prelude.{◌≡◌, ℕ, ◌*◌, ◌<◌, ◌≤◌, length, Option, Some, None}
use Rattle.std.specs.List.{AllByRecursion}
use Rattle.log_base.specs.ClusterShape.{Shape}
use Rattle.message_frame.specs.declared.messages.Vote.{Vote}
use Rattle.message_frame.specs.Spelling.{IsBallot}
use Rattle.node_model.specs.Fits.{IsValueOf}
use Rattle.node_model.specs.OrdererNode.{Orderer}
use Rattle.paxos_model.specs.Leader.{Leader, Pending}
use Rattle.paxos_model.specs.Learner.{Wish}
use Rattle.record_frame.specs.declared.values.Value.{Value}
use Rattle.record_frame.specs.Values.{IsLengths, IsValue}

-- a value of the cluster that has a spelling
pub record IsFine (config : Shape) (value : Value) : Type 0 where
  pub spelled : IsValue value
  pub own : IsValueOf config value

abbrev pub IsFineVote : Shape → Vote → Type 0
IsFineVote config vote = IsFine config vote.value

abbrev pub IsFineWish : Shape → Wish → Type 0
IsFineWish config wish = IsFine config wish.value

-- a value, or none
abbrev pub IsFineOr : Shape → Option Value → Type 0
IsFineOr config None = Unit {0}
IsFineOr config (Some value) = IsFine config value

-- the best vote of a slot, or none
abbrev pub IsFineBest : Shape → Option Vote → Type 0
IsFineBest config None = Unit {0}
IsFineBest config (Some vote) = IsFineVote config vote

-- a proposal of the slot after the known ones, which is one of the log's
pub record IsFinePending (config : Shape) (known : ℕ) (pending : Pending) : Type 0 where
  pub next : pending.slot ≡ known
  pub within : pending.slot < 16384
  pub value : IsFine config pending.value

abbrev pub IsFinePendingOr : Shape → ℕ → Option Pending → Type 0
IsFinePendingOr config known None = Unit {0}
IsFinePendingOr config known (Some pending) = IsFinePending config known pending

pub record IsFineLeader (config : Shape) (known : ℕ) (leader : Leader) : Type 0 where
  pub ballot : IsBallot leader.ballot
  pub window : leader.window ≤ 16384
  pub best : AllByRecursion (IsFineBest config) leader.best
  pub pending : IsFinePendingOr config known leader.pending

abbrev pub IsFineLeaderOr : Shape → ℕ → Option Leader → Type 0
IsFineLeaderOr config known None = Unit {0}
IsFineLeaderOr config known (Some leader) = IsFineLeader config known leader

-- an orderer whose known values, wishes and lengths are fine, and what it knows as a leader
pub record IsFineOrderer (config : Shape) (o : Orderer) : Type 0 where
  pub few : length o.known ≤ 16384
  pub known : AllByRecursion (IsFine config) o.known
  pub heard : IsLengths 32 o.heard
  pub all_heard : o.heard.count ≡ config.replicas * config.shards
  pub wishes : AllByRecursion (IsFineWish config) o.wishes
  pub leader : IsFineLeaderOr config (length o.known) o.leader
