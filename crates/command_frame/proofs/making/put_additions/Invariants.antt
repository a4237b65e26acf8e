use Rattle.std.proofs.Common.{◌≡◌, ◌+◌, ◌*◌, ◌≤◌, ◌++◌, vec_len, vec_capacity}
use Rattle.std.specs.List.{flat_map, range_with_len}
use Rattle.command_frame.specs.Making.{addition}
use Rattle.command_frame.proofs.making.put_additions.Given as goal

abbrev pub invariant-loop-shard : goal.invariant-loop-shard
invariant-loop-shard l = record {
  items : l.out.items ≡ l.initial.out.items ++ flat_map addition (range_with_len 0 l.shard);
  len : vec_len l.out ≡ vec_len l.initial.out + 8 * l.shard;
  capacity : vec_capacity l.initial.out ≤ vec_capacity l.out;
}
