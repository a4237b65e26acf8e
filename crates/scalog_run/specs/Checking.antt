-- What checking a history comes to: the verdict on it, or why there is none, and what is sent of that.
use Rattle.std.specs.Prelude.{◌≡◌, ◌⊎◌, ℕ, ◌≤◌, List, length, Option, Some, Result, Ok, Err}
use Rattle.std.specs.Io.KnownBytes.{Appends}
use Rattle.history_frame.specs.declared.events.History.{History}
use Rattle.reply_frame.specs.Frames.{frame}
use Rattle.log_base.specs.Outside.{Rose, TakesOn}
use Rattle.log_base.specs.Wide.{be4}
use Rattle.node_model.specs.Legal.{IsLawful}
use Rattle.history_check.specs.Verdicts.{AreHistory, IsFault, IsUnlawfulAt, IsVerdict, ReadsHistory}
use Rattle.history_check.specs.Written.{HasWidths}
use Rattle.history_check.specs.declared.verdicts.CheckFault.{CheckFault}
use Rattle.history_check.specs.declared.verdicts.CheckFault.TheVariants.{Bad, Read, Many, Memory}
use Rattle.history_check.specs.declared.verdicts.Verdict.{Verdict}
use Rattle.history_check.specs.declared.verdicts.Verdict.TheVariants.{Lawful, Unlawful}
use Rattle.scalog_run.specs.declared.fault.FaultFrame.{FaultFrame}
use Rattle.scalog_run.specs.Output.{Sends, Sinking, fault_frame, fault_spelling}

-- ---- what is found

-- what a source has left, and its count of faults
pub record Sourcing : Type 0 where
  pub left : Option (List ℕ)
  pub faults : ℕ

abbrev pub sourcing : Option (List ℕ) → ℕ → Sourcing
sourcing left faults = record { left = left; faults = faults }

-- The source was read to its end, and this is the verdict on its history; or there is none, for this reason.
abbrev pub Finds : Sourcing → Sourcing → Result Verdict CheckFault → Type 0
Finds old new (Ok verdict) = ReadsHistory old.left new.left (λ history. IsVerdict history verdict)
Finds old new (Err fault) = IsFault (λ at. Rose old.faults new.faults × TakesOn 0 at old.left new.left) old.left fault

-- ---- what is sent

-- the frame that tells of a legal history how many events it has
abbrev pub verdict_spelling : ℕ → List ℕ
verdict_spelling events = frame 99 (be4 events)

-- the frame of a fault is sent, and its status is that in the frame
abbrev pub TellsFault : FaultFrame → Sinking → Sinking → ℕ → Type 0
TellsFault fault old new status = Sends (fault_spelling fault) fault.status old new status

-- What was found is sent, and the status is its own. Of want of memory nothing is sent.
abbrev pub Tells : Result Verdict CheckFault → Sinking → Sinking → ℕ → Type 0
Tells (Ok (Lawful events)) old new status = Sends (verdict_spelling events) 0 old new status
Tells (Ok (Unlawful place)) old new status = TellsFault (fault_frame 8 0 0 place) old new status
Tells (Err (Bad at)) old new status = TellsFault (fault_frame 3 0 0 at) old new status
Tells (Err (Read at)) old new status = TellsFault (fault_frame 4 0 0 at) old new status
Tells (Err (Many cause)) old new status = TellsFault (fault_frame 7 cause 0 0) old new status
Tells (Err Memory) old new status = (status ≡ 9) × (new ≡ old)

-- ---- what is told of a history

-- Of a history that is read without a fault the status says whether it is legal, unless memory ran out or the sink failed.
pub record IsExact (history : History) (old new : Sinking) (status : ℕ) : Type 0 where
  pub lawful : IsLawful history → Tells (Ok (Lawful (length history.events))) old new status ⊎ Tells (Err Memory) old new status
  pub unlawful : ¬ IsLawful history
      → ((place : ℕ) × IsUnlawfulAt history place × Tells (Ok (Unlawful place)) old new status) ⊎ Tells (Err Memory) old new status
  pub zero : status ≡ 0 → IsLawful history
  pub eight : status ≡ 8 → ¬ IsLawful history

-- A source was checked, and what was found was sent, or a part of it.
pub record Checked (old new : Sourcing) (sink_old sink_new : Sinking) (status : ℕ) : Type 0 where
  pub outcome : Result Verdict CheckFault
  pub finds : Finds old new outcome
  pub tells : Tells outcome sink_old sink_new status
  pub later : old.faults ≤ new.faults
  pub exact : (bytes : List ℕ) (history : History) → old.left ≡ Some bytes → AreHistory bytes history → ¬ Rose old.faults new.faults
      → IsExact history sink_old sink_new status

-- ---- what a run sends, checked

-- A lawful history was sent. Whoever reads what was sent reads that history, and a check of it tells so.
pub record SendsLawful (sink_old sink_new : Sinking) : Type 0 where
  pub bytes : List ℕ
  pub history : History
  pub sent : Appends sink_old.taken sink_new.taken bytes
  pub lawful : IsLawful history
  pub read : HasWidths history → AreHistory bytes history
  pub checked : HasWidths history → (old new : Sourcing) (before after : Sinking) (status : ℕ) → Checked old new before after status → old.left ≡ Some bytes
      → ¬ Rose old.faults new.faults → Tells (Ok (Lawful (length history.events))) before after status ⊎ Tells (Err Memory) before after status
