-- What the status of a check says of the history that was checked.
use Rattle.std.proofs.Common.{◌≡◌, inl, inr, ℕ, suc, List, length, take, Result, Ok, Err, sym, subst, arith, ◌∙◌}
use Rattle.std.specs.Prelude.{IfErr, IfOk}
use Rattle.std.proofs.lemmas.List.{take_all}
use Rattle.history_frame.specs.declared.events.Event.{Event}
use Rattle.history_frame.specs.declared.events.History.{History}
use Rattle.log_base.specs.Outside.{Rose, TakesOn}
use Rattle.log_base.specs.Shape.{shape}
use Rattle.node_model.specs.Legal.{IsLawful, IsLegal}
use Rattle.node_model.specs.Sound.{payloads_on}
use Rattle.history_check.specs.Verdicts.{IsFault, IsLegalTo, IsTrueOf, IsUnlawfulAt, IsVerdict, ReadsHistory}
use Rattle.history_check.specs.declared.verdicts.CheckFault.{CheckFault}
use Rattle.history_check.specs.declared.verdicts.Verdict.{Verdict}
use Rattle.history_check.specs.declared.verdicts.Verdict.TheVariants.{Lawful, Unlawful}
use Rattle.history_check.proofs.OneVerdict.{legal_front}
use Rattle.scalog_run.specs.Checking.{Finds, IsExact, Sourcing, Tells, verdict_spelling}
use Rattle.scalog_run.specs.Output.{Sends, Sinking}

-- what was found, from what is said of a verdict and of a fault
pub finds_so : (old new : Sourcing) (outcome : Result Verdict CheckFault) → IfOk outcome (λ verdict. ReadsHistory old.left new.left (λ history. IsVerdict history verdict))
    → IfErr outcome (IsFault (λ at. Rose old.faults new.faults × TakesOn 0 at old.left new.left) old.left) → Finds old new outcome
finds_so old new (Ok verdict) read fault = read
finds_so old new (Err reason) read fault = fault

-- what is sent has its own status, or the sink failed
own_status : (bytes : List ℕ) (wanted other : ℕ) (old new : Sinking) (status : ℕ) → Sends bytes wanted old new status → (wanted ≡ other → ⊥) → (5 ≡ other → ⊥) → status ≡ other → ⊥
own_status bytes wanted other old new status (inl sent) not_wanted not_broken e = not_wanted (sym sent.0 ∙ e)
own_status bytes wanted other old new status (inr broken) not_wanted not_broken e = not_broken (sym broken.0 ∙ e)

module _ (history : History) where
  -- the whole history is its front of so many events
  whole : take (length history.events) history.events ≡ history.events
  whole = take_all (length history.events) history.events (omega arith)

  abbrev IsLegalWith : List Event → Type 0
  IsLegalWith events = IsLegal (shape history.config) history.run (payloads_on history.kept) events

  lawful_all : (events : ℕ) → IsVerdict history (Lawful events) → IsLawful history
  lawful_all events is = subst IsLegalWith whole (subst (λ (n : ℕ). IsLegalTo n history) is.1 is.0)

  not_lawful : (place : ℕ) → IsUnlawfulAt history place → IsLawful history → ⊥
  not_lawful place is lawful = is.breaks (legal_front (suc place) history (subst IsLegalWith (sym whole) lawful))

  module _ (old new : Sinking) (status : ℕ) where
    pub exactly : (outcome : Result Verdict CheckFault) → IsTrueOf history outcome → Tells outcome old new status → IsExact history old new status
    exactly (Ok (Lawful events)) is tells = record {
      lawful = λ lawful. inl (subst (λ (n : ℕ). Sends (verdict_spelling n) 0 old new status) is.1 tells);
      unlawful = λ unlawful. absurd (unlawful (lawful_all events is));
      zero = λ e. lawful_all events is;
      eight = λ e. absurd (own_status (verdict_spelling events) 0 8 old new status tells (λ (h : 0 ≡ 8). omega arith) (λ (h : 5 ≡ 8). omega arith) e);
    }
    exactly (Ok (Unlawful place)) is tells = record {
      lawful = λ lawful. absurd (not_lawful place is lawful);
      unlawful = λ unlawful. inl (place, is, tells);
      zero = λ e. absurd (own_status _ 8 0 old new status tells (λ (h : 8 ≡ 0). omega arith) (λ (h : 5 ≡ 0). omega arith) e);
      eight = λ e. not_lawful place is;
    }
    exactly (Err fault) is tells =
        let silent : (status ≡ 9) × (new ≡ old) = subst (λ (f : CheckFault). Tells (Err f) old new status) is tells in
        let nine : status ≡ 9 = silent.0 in
        record {
          lawful = λ lawful. inr silent;
          unlawful = λ unlawful. inr silent;
          zero = λ e. absurd (omega arith);
          eight = λ e. absurd (omega arith);
        }
