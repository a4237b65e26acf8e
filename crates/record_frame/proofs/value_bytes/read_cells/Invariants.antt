use Rattle.std.proofs.Common.{◌≡◌, ◌-◌, ◌≤◌, drop, take, replicate, length}
use Rattle.record_frame.specs.Values.{meant_at}
use Rattle.record_frame.proofs.LengthLaws.{with_front}
use Rattle.record_frame.proofs.value_bytes.read_cells.Given as goal

abbrev pub invariant-loop-i : goal.invariant-loop-i
invariant-loop-i l = record {
  read : with_front (take l.i l.length) (meant_at (l.count - l.i) l.bytes l.place) ≡ meant_at l.count l.bytes l.at;
  rest : drop l.i l.length ≡ replicate (32 - l.i) 0;
  within : l.place ≤ length l.bytes;
}
