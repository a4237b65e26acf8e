use Rattle.std.proofs.Common.{◌≡◌, ◌+◌, ◌≤◌, ◌++◌, length, map, vec_capacity, vec_len}
use Rattle.std.specs.Vec.Iter.{into_iter_items}
use Rattle.cluster_run.proofs.passes.join_numbered.Given as goal

-- those that were moved and those that are left are all
abbrev pub invariant-loop-one : goal.invariant-loop-one
invariant-loop-one g l = record {
  items : l.all.items ++ map (λ one. one.1) (into_iter_items l.one-iterator) ≡ l.initial.all.items ++ map (λ one. one.1) (into_iter_items l.initial.one-iterator);
  len : vec_len l.all + length (into_iter_items l.one-iterator) ≡ vec_len l.initial.all + length (into_iter_items l.initial.one-iterator);
  capacity : vec_capacity l.initial.all ≤ vec_capacity l.all;
}
