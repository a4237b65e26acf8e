use Rattle.std.proofs.Common.{◌≡◌, ◌+◌, ◌-◌, ◌≤◌, ◌++◌, drop, length, take, vec_capacity, vec_len}
use Rattle.std.specs.Vec.Iter.{into_iter_items}
use Rattle.cluster_run.specs.Numbers.{numbered_from}
use Rattle.cluster_run.proofs.passes.split.Given as goal

-- those that were moved and those that are left are all
abbrev pub invariant-loop-one : goal.invariant-loop-one
invariant-loop-one g l = record {
  first : l.first.items ++ numbered_from l.number (take (l.fn.count - l.number) (into_iter_items l.one-iterator)) ≡ numbered_from 0 (take l.fn.count (into_iter_items l.initial.one-iterator));
  others : l.others.items ++ drop (l.fn.count - l.number) (into_iter_items l.one-iterator) ≡ drop l.fn.count (into_iter_items l.initial.one-iterator);
  few : l.number ≤ l.fn.count;
  some : l.fn.count ≤ l.number + length (into_iter_items l.one-iterator);
  first_len : vec_len l.first ≡ l.number;
  first_room : l.fn.count ≤ vec_capacity l.first;
  others_room : vec_len l.others + l.number + length (into_iter_items l.one-iterator) ≤ l.fn.count + vec_capacity l.others;
}
