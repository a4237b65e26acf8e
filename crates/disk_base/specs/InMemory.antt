-- A disk in memory: its content, its plan, and whether it is stopped.
use Rattle.std.specs.Prelude.{ℕ, ◌-◌, List, take, length, Bool, true, false, if◌then◌else◌, ◌==◌, Option, None, Some, is_some}
use Rattle.log_base.specs.Outside.{next_count}
use Rattle.disk_base.specs.Replay.{Kept, Recorded, unwritten, wrote, went_back, taken_up}
use Rattle.disk_base.specs.declared.disk.Plan.{Plan}

pub record InMemory : Type 0 where
  pub content : Recorded
  pub plan : Option Plan
  pub stopped : Bool
  pub faults : ℕ

-- a disk of these bytes, which count as synced
abbrev pub new_disk : List ℕ → InMemory
new_disk bytes = record { content = unwritten bytes; plan = None; stopped = false; faults = 0 }

-- the plan, where it has the next write fail
abbrev pub due : Option Plan → Option Plan
due None = None
due (Some plan) = if plan.after == 0 then Some plan else None

abbrev pub is_due : Option Plan → Bool
is_due plan = is_some (due plan)

-- the plan after a write that it let pass
abbrev pub counted : Option Plan → Option Plan
counted None = None
counted (Some plan) = Some (record { after = plan.after - 1; keep = plan.keep; lose = plan.lose })

-- what a planned failure keeps of a write: its first bytes, or nothing since the last sync
abbrev pub kept_by : Plan → Kept → ℕ → List ℕ → Kept
kept_by plan kept at bytes = if plan.lose then went_back kept at (take plan.keep bytes) else wrote kept at (take plan.keep bytes)

-- the disk in service again, without a plan
abbrev pub restarted : InMemory → InMemory
restarted disk = record { content = disk.content; plan = None; stopped = false; faults = disk.faults }

-- after a write that passed
abbrev pub after_pass : InMemory → ℕ → List ℕ → InMemory
after_pass disk at bytes = record {
  content = taken_up disk.content (wrote disk.content.kept at bytes) (length bytes);
  plan = counted disk.plan;
  stopped = disk.stopped;
  faults = disk.faults;
}

-- after a write that the plan had fail
abbrev pub after_break : InMemory → Plan → ℕ → List ℕ → InMemory
after_break disk plan at bytes = record {
  content = taken_up disk.content (kept_by plan disk.content.kept at bytes) (length bytes);
  plan = disk.plan;
  stopped = true;
  faults = next_count disk.faults;
}

-- after a write of n bytes while it is stopped
abbrev pub after_refusal : InMemory → ℕ → InMemory
after_refusal disk n = record { content = taken_up disk.content disk.content.kept n; plan = disk.plan; stopped = disk.stopped; faults = next_count disk.faults }
