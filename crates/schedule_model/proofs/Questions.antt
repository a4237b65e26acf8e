-- What is so of each question that is put off stays so.
use Rattle.std.proofs.Common.{ℕ, List, [], ◌∷◌, Option, Some, None}
use Rattle.std.specs.List.{AllByRecursion}
use Rattle.fault_script.specs.declared.fault.Fault.TheVariants as fault
use Rattle.command_frame.specs.declared.items.Item.{Item}
use Rattle.command_frame.specs.declared.items.Item.TheVariants.{Fault as FaultItem}
use Rattle.schedule_model.specs.declared.duties.PutOff.{PutOff}
use Rattle.schedule_model.specs.declared.duties.Question.{Question}
use Rattle.schedule_model.specs.Holding.{questions_of}
use Rattle.schedule_model.specs.Scheduling.{hold_after, put_off_with}
use Rattle.schedule_model.proofs.Kept.{each-append}

-- a hold that begins or ends puts nothing off
pub questions-after : (P : PutOff → Type 0) (item : Item) (hold : Option (List PutOff)) → AllByRecursion P (questions_of hold)
    → AllByRecursion P (questions_of (hold_after item hold))
questions-after P (FaultItem lane fault.Hold) None h = tt
questions-after P (FaultItem lane fault.Hold) (Some put_off) h = h
questions-after P (FaultItem lane fault.Settle) hold h = tt
questions-after P item hold h = h

-- one question more is put off, while items are held
pub questions-with : (P : PutOff → Type 0) (hold : Option (List PutOff)) (place : ℕ) (asked : Question) → P (record { item = place; question = asked })
    → AllByRecursion P (questions_of hold) → AllByRecursion P (questions_of (put_off_with hold place asked))
questions-with P None place asked is h = tt
questions-with P (Some put_off) place asked is h = each-append P put_off (record { item = place; question = asked } ∷ []) h (is, tt)
