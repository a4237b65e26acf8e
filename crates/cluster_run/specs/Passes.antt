-- The passes of a run: one for each lane, in order of number, then one for each worker, then the one of the opening.
use Rattle.std.specs.Prelude.{◌≡◌, ℕ, ◌+◌, ◌<◌, List, [], length, map, slice_get, Some, Result}
use Rattle.atomic_table.specs.Seated.{TableId}
use Rattle.command_frame.specs.declared.items.Item.{Item}
use Rattle.cluster.specs.Clusters.{IsPassOf}
use Rattle.cluster.specs.Opening.{opening}
use Rattle.history_frame.specs.declared.events.Happened.{Happened}
use Rattle.lane_work.specs.Lanes.{LaneGoes}
use Rattle.lane_work.specs.Workers.{WorkerGoes}
use Rattle.log_base.specs.ClusterShape.{Shape}
use Rattle.log_base.specs.Machines.{Event}
use Rattle.log_base.specs.declared.outside.Memory.{Memory}
use Rattle.node_model.specs.Machine.{node_meanings}
use Rattle.node_model.specs.NodeState.{KeptLists}
use Rattle.reply_frame.specs.declared.replies.Reply.{Reply}
use Rattle.tied_cells.specs.Opening.{asked_by, owns_from}
use Rattle.tied_cells.specs.declared.board.Own.{Own}
use Rattle.cluster_run.specs.Seats.{PassNow}

-- these are the events of the opening: each node started, in order, and orderer 0 was ordered to lead
pub record AreOpening (config : Shape) (own : List (Own Happened)) : Type 0 where
  pub log : List (Event Happened)
  pub own_is : own ≡ owns_from 0 log
  pub asked : map (asked_by node_meanings) log ≡ opening config

module _ {A : Type 0} (config : Shape) (run : ℕ) (kept : KeptLists) (table : TableId) where
  -- Passes that are new, in order of their numbers. The last has the events of the opening, and no other has events.
  pub record AreNew (count : ℕ) (passes : List (PassNow A)) : Type 0 where
    pub as_many : length passes ≡ count + 1
    pub each : (k : ℕ) (pass : PassNow A) → slice_get passes k ≡ Some pass → IsPassOf config run kept table k pass.0
    pub fresh : (k : ℕ) (pass : PassNow A) → slice_get passes k ≡ Some pass → k < count → pass.0.me.0.own ≡ []
    pub last : (pass : PassNow A) → slice_get passes count ≡ Some pass → AreOpening config pass.0.me.0.own

  -- What the lanes and the workers made of their passes, with their answers. The last pass is as it was.
  pub record HaveRun (items : List Item) (lanes workers : ℕ) (before after : List (PassNow A))
      (answers : List (Result (List Reply) Memory)) (turned : List (Result (Unit {0}) Memory)) : Type 0 where
    pub as_many : length after ≡ lanes + workers + 1
    pub answered : length answers ≡ lanes
    pub turned_are : length turned ≡ workers
    pub lane : (k : ℕ) (old new : PassNow A) (answer : Result (List Reply) Memory) → k < lanes
        → slice_get before k ≡ Some old → slice_get after k ≡ Some new → slice_get answers k ≡ Some answer → LaneGoes config run kept table k items old.0 new.0 new.1 answer
    pub worker : (k : ℕ) (old new : PassNow A) (answer : Result (Unit {0}) Memory) → k < workers
        → slice_get before (lanes + k) ≡ Some old → slice_get after (lanes + k) ≡ Some new → slice_get turned k ≡ Some answer
        → WorkerGoes config run kept table (lanes + k) old.0 new.0 new.1 answer
    pub last : slice_get after (lanes + workers) ≡ slice_get before (lanes + workers)
