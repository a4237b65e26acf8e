use Rattle.std.proofs.Common.{◌≡◌, take}
use Rattle.history_walk.proofs.letters.are_letters.Given as goal

abbrev pub invariant-loop-i : goal.invariant-loop-i
invariant-loop-i l = take l.i l.outputs ≡ take l.i l.made
