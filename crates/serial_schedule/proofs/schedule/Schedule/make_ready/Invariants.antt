use Rattle.std.proofs.Common.{◌≡◌, false, length}
use Rattle.schedule_model.specs.Scheduling.{is_first_done, ready}
use Rattle.serial_schedule.proofs.schedule.Schedule.make_ready.Given as goal

abbrev pub invariant-items : goal.invariant-items
invariant-items l = (ready l.self ≡ ready l.fn.self) × (is_first_done l.self.queue l.self.duties ≡ false)

abbrev pub decreases-items : goal.decreases-items
decreases-items l = length l.self.items
