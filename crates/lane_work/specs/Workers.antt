-- What a worker makes of its pass.
use Rattle.std.specs.Prelude.{◌≡◌, ℕ, ◌*◌, ◌%◌, ◌<◌, ◌≤◌, List, ◌++◌, length, slice_get, Some, Result, Ok, Err}
use Rattle.atomic_table.specs.Seated.{TableId}
use Rattle.cluster.specs.Clusters.{IsPassOf, PassSeat}
use Rattle.history_frame.specs.declared.events.Happened.{Happened}
use Rattle.log_base.specs.ClusterShape.{Shape}
use Rattle.log_base.specs.declared.outside.Memory.{Memory}
use Rattle.node_model.specs.NodeState.{KeptLists}
use Rattle.node_table.specs.Numbering.{nodes_of}
use Rattle.tied_cells.specs.declared.account.Account.{Account}
use Rattle.tied_cells.specs.declared.board.Own.{Own}
use Rattle.tied_cells.specs.Turns.{IsSpent}
use Rattle.lane_work.specs.Stages.{IsTurnAt}

-- events are turns of rounds, in each of which every node is turned once, in order of number
abbrev pub AreRounds : ℕ → List (Own Happened) → Type 0
AreRounds nodes events = (k : ℕ) (event : Own Happened) → slice_get events k ≡ Some event → IsTurnAt (k % nodes) event

-- so many rounds a worker makes
abbrev pub rounds : ℕ
rounds = 64

-- it ended with its last round, or sooner where the pass was spent or memory ran out
abbrev pub EndsAfter : ℕ → Account → List (Own Happened) → Result (Unit {0}) Memory → Type 0
EndsAfter nodes account events (Ok done) = length events < rounds * nodes → IsSpent account
EndsAfter nodes account events (Err memory) = Unit {0}

-- the worker made these events behind those before
pub record WorkerTurns (nodes : ℕ) (account : Account) (before after : List (Own Happened)) (answer : Result (Unit {0}) Memory) : Type 0 where
  pub events : List (Own Happened)
  pub after_are : after ≡ before ++ events
  pub turns : AreRounds nodes events
  pub few : length events ≤ rounds * nodes
  pub ends : EndsAfter nodes account events answer

-- what a worker makes of its pass: the pass stays one of the cluster's, with its number, and its events are turns
pub record WorkerGoes {A : Type 0} (config : Shape) (run : ℕ) (kept : KeptLists) (table : TableId) (number : ℕ)
    (old new : PassSeat A) (account : Account) (answer : Result (Unit {0}) Memory) : Type 0 where
  pub pass : IsPassOf config run kept table number new
  pub went : WorkerTurns (nodes_of config) account old.me.0.own new.me.0.own answer
