use Rattle.std.proofs.Common.{◌≡◌, drop}
use Rattle.std.specs.Prelude.{slice_get}
use Rattle.cut_chain.specs.Runs.{places_of}
use Rattle.cut_chain.proofs.walking.place_in.Given as goal

abbrev pub invariant-loop-run : goal.invariant-loop-run
invariant-loop-run l = slice_get (places_of (drop l.run-index l.runs)) l.left ≡ slice_get (places_of l.runs) l.position
