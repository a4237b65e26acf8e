use Rattle.std.proofs.Common.{◌≡◌, ◌+◌, ◌≤◌, ◌++◌, length, map, Ok, vec_capacity, vec_len}
use Rattle.std.specs.Vec.Iter.{into_iter_items}
use Rattle.cluster_run.proofs.ordering.all_lists.Given as goal

-- the lists so far and the answers left are all answers
abbrev pub invariant-loop-answer : goal.invariant-loop-answer
invariant-loop-answer l = record {
  items : map (λ list. Ok list.items) l.lists.items ++ into_iter_items l.answer-iterator ≡ into_iter_items l.initial.answer-iterator;
  room : vec_len l.lists + length (into_iter_items l.answer-iterator) ≤ vec_capacity l.lists;
}
