use Rattle.std.proofs.Common.{◌≡◌, ◌+◌, ◌≤◌, ◌++◌, vec_len}
use Rattle.std.specs.VecDeque.{deque_capacity, deque_len}
use Rattle.serial_schedule.proofs.noting.put_first.Given as goal

abbrev pub invariant-first : goal.invariant-first
invariant-first l = (l.first.items ++ l.duties.items ≡ l.initial.first.items ++ l.initial.duties.items)
    × (deque_len l.duties + vec_len l.first ≤ deque_capacity l.duties)

abbrev pub decreases-first : goal.decreases-first
decreases-first l = vec_len l.first
