use Rattle.std.proofs.Common.{◌≡◌, ℕ, ◌+◌, ◌-◌, ◌≤◌, ◌++◌, drop, length, map}
use Rattle.std.specs.VecDeque.{deque_capacity, deque_len}
use Rattle.log_base.specs.Outgoing.{letter_at}
use Rattle.event_letters.specs.Letters.{parcel}
use Rattle.schedule_model.specs.Scheduling.{letters_from}
use Rattle.serial_schedule.proofs.noting.post.Given as goal

abbrev pub invariant-loop-index : goal.invariant-loop-index
invariant-loop-index l = (l.queue.items ++ letters_from l.place l.index (drop l.index l.outputs) ≡ l.initial.queue.items ++ letters_from l.place 0 l.outputs)
    × (deque_len l.queue + (length l.outputs - l.index) ≤ deque_capacity l.queue)
    × (length l.out.letters ≡ length l.outputs)
    × ((k : ℕ) → l.index ≤ k → letter_at k l.out.letters ≡ letter_at k (map parcel l.outputs))
