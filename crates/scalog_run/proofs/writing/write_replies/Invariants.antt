use Rattle.std.proofs.Common.{◌≡◌, ◌++◌, take}
use Rattle.scalog_run.specs.Output.{lane_frames}
use Rattle.scalog_run.proofs.writing.write_replies.Given as goal

-- the frames of the first replies are written
abbrev pub invariant-loop-at : goal.invariant-loop-at
invariant-loop-at l = l.out.items ≡ l.initial.out.items ++ lane_frames (take l.at l.lanes) (take l.at l.replies)
