use Rattle.std.proofs.Common.{◌≡◌, ◌+◌, ◌≤◌, ◌++◌, map, vec_len, vec_capacity}
use Rattle.std.specs.List.{range_with_len}
use Rattle.command_frame.specs.Making.{letter}
use Rattle.command_frame.proofs.making.put_letters.Given as goal

abbrev pub invariant-loop-index : goal.invariant-loop-index
invariant-loop-index l = record {
  items : l.out.items ≡ l.initial.out.items ++ map (letter l.place) (range_with_len 0 l.index);
  len : vec_len l.out ≡ vec_len l.initial.out + l.index;
  capacity : vec_capacity l.initial.out ≤ vec_capacity l.out;
}
