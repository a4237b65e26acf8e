use Rattle.std.proofs.Common.{◌≡◌, take}
use Rattle.history_walk.proofs.messages.are_votes.Given as goal

abbrev pub invariant-loop-i : goal.invariant-loop-i
invariant-loop-i l = take l.i l.votes ≡ take l.i l.given
