use Rattle.std.proofs.Common.{◌≡◌, ◌≢◌, ◌+◌, ◌≤◌, ◌++◌, length, map, All, Some, None, vec_len, vec_capacity}
use Rattle.std.specs.Vec.Iter.{into_iter_items}
use Rattle.node_threads.proofs.slots.gather.Given as goal

-- what was taken and what is in the slots left is what was in all slots
abbrev pub invariant-loop-slot : goal.invariant-loop-slot
invariant-loop-slot g l = record {
  tokens : l.tokens.items ++ map (λ s. s.token) (into_iter_items l.slot-iterator) ≡ map (λ s. s.token) (into_iter_items l.initial.slot-iterator);
  answers : map Some l.answers.items ++ map (λ s. s.answer) (into_iter_items l.slot-iterator) ≡ map (λ s. s.answer) (into_iter_items l.initial.slot-iterator);
  ended : All (λ s. s.answer ≢ None) (into_iter_items l.slot-iterator);
  token_room : vec_len l.tokens + length (into_iter_items l.slot-iterator) ≤ vec_capacity l.tokens;
  answer_room : vec_len l.answers + length (into_iter_items l.slot-iterator) ≤ vec_capacity l.answers;
}
