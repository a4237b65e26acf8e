use Rattle.std.proofs.Common.{◌≡◌, ◌-◌, ◌≤◌, length}
use Rattle.message_frame.specs.Reading.{votes_at}
use Rattle.message_frame.proofs.VoteLoop.{with_front}
use Rattle.message_frame.proofs.votes.read_each.Given as goal

-- the votes so far and what is still read are what is read of all
abbrev pub invariant-loop-i : goal.invariant-loop-i
invariant-loop-i l = record {
  read : with_front l.votes.items (votes_at (l.count - l.i) l.least l.greatest l.bytes l.place) ≡ votes_at l.count l.start l.greatest l.bytes l.at;
  within : l.place ≤ length l.bytes;
}
