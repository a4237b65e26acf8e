use Rattle.std.proofs.Common.{◌≡◌, take}
use Rattle.paxos_model.specs.Leader.{merge}
use Rattle.paxos_leader.proofs.window.merge_votes.Given as goal

-- the votes so far are merged
abbrev pub invariant-loop-vote : goal.invariant-loop-vote
invariant-loop-vote l = l.best ≡ merge l.from.0 l.initial.best (take l.vote-index l.votes)
