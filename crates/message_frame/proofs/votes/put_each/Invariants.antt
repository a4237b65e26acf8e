use Rattle.std.proofs.Common.{◌≡◌, ◌+◌, ◌≤◌, ◌++◌, length, drop, vec_len, vec_capacity}
use Rattle.std.specs.List.{flat_map, AllByRecursion}
use Rattle.message_frame.specs.Spelling.{HasValue, vote_spelling}
use Rattle.message_frame.proofs.votes.put_each.Given as goal

-- what is there and the votes left are what was there and all votes
abbrev pub invariant-loop-vote : goal.invariant-loop-vote
invariant-loop-vote l = record {
  values : AllByRecursion HasValue (drop l.vote-index l.votes);
  items : l.out.items ++ flat_map vote_spelling (drop l.vote-index l.votes) ≡ l.initial.out.items ++ flat_map vote_spelling l.votes;
  len : vec_len l.out + length (flat_map vote_spelling (drop l.vote-index l.votes)) ≡ vec_len l.initial.out + length (flat_map vote_spelling l.votes);
  capacity : vec_capacity l.initial.out ≤ vec_capacity l.out;
}
