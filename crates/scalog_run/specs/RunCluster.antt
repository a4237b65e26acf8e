-- What serving the items of a source by threads does, over a sink and the disks of a rack.
use Rattle.std.specs.Prelude.{◌≡◌, ◌⊎◌, ℕ, List, Result, Err}
use Rattle.command_frame.specs.declared.items.Item.{Item}
use Rattle.item_input.specs.Plain.{IsReadPlain, RefusesPlain}
use Rattle.log_base.specs.ClusterShape.{Shape}
use Rattle.log_base.specs.Outside.{Rose}
use Rattle.reply_frame.specs.declared.faults.ItemFault.{ItemFault}
use Rattle.cluster_disks.specs.Lent.{Disks}
use Rattle.scalog_run.specs.declared.fault.RunFault.{RunFault}
use Rattle.scalog_run.specs.Faults.{reading_fault}
use Rattle.scalog_run.specs.Output.{Sends, Sinking, status_of, to_send}
use Rattle.scalog_run.specs.Run.{World}
use Rattle.scalog_run.specs.Served.{ServesTo}

-- Not all items were taken in, and no disk was lent. A line of the fault script is no item here.
pub record IsNotTaken {D : Type 0} (config : Shape) (outcome : Result (List ℕ) RunFault) (old new : World D) : Type 0 where
  pub fault : ItemFault
  pub outcome_is : outcome ≡ Err (reading_fault fault)
  pub refuses : RefusesPlain config old.left new.left (Rose old.read_faults new.read_faults) fault
  pub unlent : new.lain ≡ old.lain

-- The source was read to its end, and then a cluster served its items.
pub record IsServed {D : Type 0} (by : Disks D) (config : Shape) (run workers : ℕ) (outcome : Result (List ℕ) RunFault) (old new : World D) : Type 0 where
  pub items : List Item
  pub read : IsReadPlain config old.left new.left items
  pub serves : ServesTo by config run items workers old.lain new.lain outcome

-- what it comes to, before anything is sent: an output, or why there is none
abbrev pub ClusterComesTo : {D : Type 0} → Disks D → Shape → ℕ → ℕ → World D → World D → Result (List ℕ) RunFault → Type 0
ClusterComesTo by config run workers old new outcome = IsNotTaken config outcome old new ⊎ IsServed by config run workers outcome old new

-- A run of a cluster with its status: what it came to was sent, or a part of it.
pub record RanCluster {D : Type 0} (by : Disks D) (config : Shape) (run workers : ℕ) (old new : World D) (sink_old sink_new : Sinking) (status : ℕ) : Type 0 where
  pub outcome : Result (List ℕ) RunFault
  pub comes : ClusterComesTo by config run workers old new outcome
  pub sends : Sends (to_send outcome) (status_of outcome) sink_old sink_new status
