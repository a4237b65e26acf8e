use Rattle.std.proofs.Common.{◌≡◌, ◌-◌, ◌≤◌, length}
use Rattle.history_frame.specs.Reading.{outputs_at}
use Rattle.history_frame.proofs.Loops.{with_front}
use Rattle.history_frame.proofs.reading.read_letters.Given as goal

-- the outputs so far and what is still read are what is read of all
abbrev pub invariant-loop-i : goal.invariant-loop-i
invariant-loop-i l = record {
  read : with_front l.outputs.items (outputs_at (l.count - l.i) l.bytes l.place) ≡ outputs_at l.count l.bytes l.at;
  within : l.place ≤ length l.bytes;
}
