-- What a run over a source, a sink and the disks of a rack does.
use Rattle.std.specs.Prelude.{◌≡◌, ◌⊎◌, ℕ, List, Option, Result, Err}
use Rattle.log_base.specs.ClusterShape.{Shape}
use Rattle.log_base.specs.Outside.{Rose}
use Rattle.command_frame.specs.declared.items.Item.{Item}
use Rattle.reply_frame.specs.declared.faults.ItemFault.{ItemFault}
use Rattle.scalog_run.specs.declared.fault.RunFault.{RunFault}
use Rattle.scalog_run.specs.declared.report.Report.{Report}
use Rattle.scalog_run.specs.Faults.{reading_fault}
use Rattle.scalog_run.specs.Histories.{AnswersTo}
use Rattle.cluster_disks.specs.Lent.{Disks, Lying}
use Rattle.cluster_disks.specs.Opened.{AreLater}
use Rattle.scalog_run.specs.Output.{Sends, Sinking, status_of, to_send}
use Rattle.item_input.specs.Steps.{IsRead, Refuses}

-- what a source has left and its count of faults, and what lies in the rack under each number
pub record World (D : Type 0) : Type 0 where
  pub left : Option (List ℕ)
  pub read_faults : ℕ
  pub lain : ℕ → Lying D

abbrev pub world : {D : Type 0} → Option (List ℕ) → ℕ → (ℕ → Lying D) → World D
world left read_faults lain = record { left = left; read_faults = read_faults; lain = lain }

-- Not all items were read, and no disk was lent.
pub record IsUnread {D : Type 0} (config : Shape) (outcome : Result (List ℕ) RunFault) (old new : World D) : Type 0 where
  pub fault : ItemFault
  pub outcome_is : outcome ≡ Err (reading_fault fault)
  pub refuses : Refuses config old.left new.left (Rose old.read_faults new.read_faults) fault
  pub unlent : new.lain ≡ old.lain

-- The source was read to its end, and then its items were answered.
pub record IsAnswered {D : Type 0} (by : Disks D) (config : Shape) (run : ℕ) (report : Report) (outcome : Result (List ℕ) RunFault) (old new : World D) : Type 0 where
  pub items : List Item
  pub read : IsRead config old.left new.left items
  pub answers : AnswersTo by config run report items old.lain new.lain outcome

-- what a run comes to, before it sends it: its output, or why there is none
abbrev pub ComesTo : {D : Type 0} → Disks D → Shape → ℕ → Report → World D → World D → Result (List ℕ) RunFault → Type 0
ComesTo by config run report old new outcome = IsUnread config outcome old new ⊎ IsAnswered by config run report outcome old new

-- A run with its status: what it came to was sent, or a part of it.
pub record Ran {D : Type 0} (by : Disks D) (config : Shape) (run : ℕ) (report : Report) (old new : World D) (sink_old sink_new : Sinking) (status : ℕ) : Type 0 where
  pub outcome : Result (List ℕ) RunFault
  pub comes : ComesTo by config run report old new outcome
  pub sends : Sends (to_send outcome) (status_of outcome) sink_old sink_new status
  pub later : AreLater by config old.lain new.lain
