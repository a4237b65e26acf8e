use Rattle.std.proofs.Common.{◌≡◌, ◌+◌, length, drop}
use Rattle.std.specs.List.{flat_map, AllByRecursion}
use Rattle.message_frame.specs.Spelling.{HasValue, vote_spelling}
use Rattle.message_frame.proofs.votes.votes_length.Given as goal

-- the length so far and that of the votes left are that of all
abbrev pub invariant-loop-vote : goal.invariant-loop-vote
invariant-loop-vote l = record {
  values : AllByRecursion HasValue (drop l.vote-index l.votes);
  length_so_far : l.length + length (flat_map vote_spelling (drop l.vote-index l.votes)) ≡ length (flat_map vote_spelling l.votes);
}
