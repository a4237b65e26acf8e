use Rattle.std.proofs.Common.{◌≡◌}
use Rattle.std.specs.VecDeque.{deque_len}
use Rattle.schedule_model.specs.Scheduling.{due}
use Rattle.serial_schedule.proofs.passing.pass_over.Given as goal

abbrev pub invariant-duties : goal.invariant-duties
invariant-duties l = due l.queue.items l.duties.items ≡ due l.queue.items l.initial.duties.items

abbrev pub decreases-duties : goal.decreases-duties
decreases-duties l = deque_len l.duties
