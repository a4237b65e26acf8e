use Rattle.std.proofs.Common.{◌≡◌, ◌+◌, ◌≤◌, ◌++◌, length, map, vec_len, vec_capacity}
use Rattle.std.specs.Vec.Iter.{into_iter_items}
use Rattle.node_threads.specs.Runs.{fresh_worker}
use Rattle.node_threads.proofs.slots.worker_slots.Given as goal

-- the slots that are there and those of the workers left are those of all workers
abbrev pub invariant-loop-token : goal.invariant-loop-token
invariant-loop-token g l = record {
  items : l.slots.items ++ map fresh_worker (into_iter_items l.token-iterator) ≡ map fresh_worker (into_iter_items l.initial.token-iterator);
  len : vec_len l.slots + length (into_iter_items l.token-iterator) ≡ length (into_iter_items l.initial.token-iterator);
  capacity : vec_capacity l.initial.slots ≤ vec_capacity l.slots;
}
