-- What is so of every schedule of a run.
use Rattle.std.specs.Prelude.{◌≡◌, ℕ, ◌+◌, ◌<◌, ◌≤◌, ◌^◌, List, [], ◌∷◌, length, slice_index, Option, Some, None}
use Rattle.std.specs.List.{AllByRecursion}
use Rattle.log_base.specs.ClusterShape.{Shape}
use Rattle.client_session.specs.Sessions.{Drawing}
use Rattle.command_frame.specs.declared.items.Item.{Item}
use Rattle.command_frame.specs.declared.items.Item.TheVariants.{Append}
use Rattle.command_frame.specs.Items.{IsItem}
use Rattle.node_table.specs.Numbering.{nodes_of}
use Rattle.schedule_model.specs.declared.duties.Awaited.{Awaited}
use Rattle.schedule_model.specs.declared.duties.PutOff.{PutOff}
use Rattle.schedule_model.specs.declared.duties.Duty.{Duty}
use Rattle.schedule_model.specs.declared.duties.Duty.TheVariants.{Give, DeliverAll, DeliverOne, MakeCall}
use Rattle.schedule_model.specs.declared.courses.Course.{Course}
use Rattle.schedule_model.specs.Holding.{questions_of}
use Rattle.schedule_model.specs.Streams.{IsSingle}
use Rattle.item_course.specs.Asking.{IsAwaited, IsPutOff, IsQuestion}
use Rattle.serial_schedule.specs.Lanes.{AreLanes, draws_of, run_of}
use Rattle.schedule_model.specs.declared.courses.Course.TheVariants.{Replies, GoesOn, Takes, Completes, Ends, Answers, PutsOff, Replaces}

-- ---- duties of a cluster

-- each question that is put off is the cluster's
abbrev pub IsHold : Shape → Option (List PutOff) → Type 0
IsHold config hold = AllByRecursion (IsPutOff config) (questions_of hold)

-- and so is the answer that is awaited
abbrev pub IsAwaitedOr : Shape → Option Awaited → Type 0
IsAwaitedOr config None = Unit {0}
IsAwaitedOr config (Some awaited) = IsAwaited config awaited

-- signals go to nodes of the cluster
abbrev pub IsDuty : Shape → Duty → Type 0
IsDuty config (Give signal first count) = first.0 + count ≤ nodes_of config
IsDuty config DeliverAll = Unit {0}
IsDuty config (DeliverOne letter afterwards) = Unit {0}
IsDuty config (MakeCall node call awaited) = IsAwaited config awaited

abbrev pub IsCourse : Shape → Course → Type 0
IsCourse config (Replies reply) = Unit {0}
IsCourse config (GoesOn duties) = AllByRecursion (IsDuty config) duties
IsCourse config (Takes position entry next) = IsDuty config next
IsCourse config (Completes position entry) = Unit {0}
IsCourse config (Ends last) = Unit {0}
IsCourse config (Answers reply duties) = AllByRecursion (IsDuty config) duties
IsCourse config (PutsOff reply asked) = IsQuestion config asked
IsCourse config (Replaces item reply) = Unit {0}

-- a reply alone holds no other, and entries are taken at positions that a log may have
abbrev pub IsMade : Course → Type 0
IsMade (Replies reply) = IsSingle reply
IsMade (GoesOn duties) = Unit {0}
IsMade (Takes position entry next) = position.0 < 2 ^ 31
IsMade (Completes position entry) = position.0 < 2 ^ 31
IsMade (Ends last) = Unit {0}
IsMade (Answers reply duties) = IsSingle reply
IsMade (PutsOff reply asked) = IsSingle reply
IsMade (Replaces item reply) = IsSingle reply

-- a signal or a call comes first
abbrev pub IsGiven : List Duty → Type 0
IsGiven [] = ⊥
IsGiven (Give signal first count ∷ duties) = Unit {0}
IsGiven (DeliverAll ∷ duties) = ⊥
IsGiven (DeliverOne letter afterwards ∷ duties) = ⊥
IsGiven (MakeCall node call awaited ∷ duties) = Unit {0}

-- the lane of an append may draw one number more
abbrev pub HasRoom : List ℕ → Item → Type 0
HasRoom draws (Append lane shard replica bytes) = (lane < 64) × (slice_index draws lane < 65536)
HasRoom draws item = Unit {0}

-- The items, the duties and the questions are the cluster's, and each lane has drawn so few numbers that the items that are left may draw each one.
pub record IsKept (config : Shape) (run : ℕ) (items : List Item) (duties : List Duty) (awaited : Option Awaited) (hold : Option (List PutOff)) (draws : List ℕ) : Type 0 where
  pub run_fits : run ≤ 1000000
  pub each_item : AllByRecursion (IsItem config) items
  pub each_duty : AllByRecursion (IsDuty config) duties
  pub answer : IsAwaitedOr config awaited
  pub questions : IsHold config hold
  pub lanes : length draws ≡ 64
  pub room : (lane : ℕ) → slice_index draws lane + length items ≤ 65536

-- each of the 64 lanes draws for its client, all in the run, and keeps a record
pub record IsKeptWith (config : Shape) (lanes : List Drawing) (records : List (List ℕ)) (items : List Item) (duties : List Duty) (awaited : Option Awaited)
    (hold : Option (List PutOff)) : Type 0 where
  pub kept : IsKept config (run_of lanes) items duties awaited hold (draws_of lanes)
  pub lanes_are : AreLanes lanes
  pub records_are : length records ≡ 64
